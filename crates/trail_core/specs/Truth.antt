-- Truth values under a trail.
use Rattle.std.specs.Prelude.{ℕ, Bool, true, false, List, Option, None, Some}
use Rattle.trail_core.specs.declared.truth.Truth.{Truth}
use Rattle.trail_core.specs.declared.truth.Truth.TheVariants.{True, False, Unassigned}
use Rattle.trail_core.specs.UnderTrail.{IsTrueLit, IsFalseLit, IsUnassigned}

-- the literal has this truth value
abbrev pub HasTruth : List ℕ → ℕ → Truth → Type 0
HasTruth trues lit True = IsTrueLit trues lit
HasTruth trues lit False = IsFalseLit trues lit
HasTruth trues lit Unassigned = IsUnassigned trues lit

abbrev pub truth_of : Option Bool → Truth
truth_of (Some true) = True
truth_of (Some false) = False
truth_of None = Unassigned

abbrev pub is_unassigned : Truth → Bool
is_unassigned True = false
is_unassigned False = false
is_unassigned Unassigned = true
