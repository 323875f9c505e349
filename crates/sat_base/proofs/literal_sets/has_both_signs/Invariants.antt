use Rattle.std.proofs.Common.{◌≡◌, ℕ, ◌-◌, ◌≤◌, ◌<◌, get_or}
use Rattle.sat_base.specs.Lit.{opposite}
use Rattle.sat_base.proofs.literal_sets.has_both_signs.Given as goal

-- no literal so far is the opposite of the one before it
abbrev pub invariant-loop-i : goal.invariant-loop-i
invariant-loop-i l = (k : ℕ) → 1 ≤ k → k < l.i → get_or l.lits k 0 ≡ opposite (get_or l.lits (k - 1) 0) → ⊥
