-- How a trail is kept: a truth value for each literal, a standing for each variable, and the
-- literals in order.
use Rattle.std.specs.Prelude.{◌≡◌, ℕ, ◌+◌, ◌-◌, ◌*◌, ◌<◌, ◌≤◌, min, List, map, length, take, All}
use Rattle.std.specs.Prelude.{count_by, slice_index, slice_index_or}
use Rattle.sat_base.specs.Lit.{variable}
use Rattle.trail_core.specs.declared.truth.Truth.{Truth}
use Rattle.trail_core.specs.declared.truth.Truth.TheVariants.{Unassigned}
use Rattle.trail_core.specs.declared.standing.Standing.{Standing}
use Rattle.trail_core.specs.declared.trail.Trail.TheInside.{Inside}
use Rattle.trail_core.specs.Trail.{Entry, TrailView}
use Rattle.trail_core.specs.Truth.{HasTruth, is_unassigned}
use Rattle.trail_core.specs.Standing.{place_of, reason_of}

-- no literal has a variable above 8,388,607, so there is no place for more
abbrev pub places : ℕ → ℕ
places vars = min vars 8388607

-- the code of a literal is 2 at least
abbrev pub truth_at : List Truth → ℕ → Truth
truth_at truths lit = slice_index_or truths (lit - 2) Unassigned

abbrev pub standing_at : List Standing → ℕ → Standing
standing_at standings var = slice_index_or standings (var - 1)
    (record { reason = 0; level = 0; mark = 0 })

abbrev pub entry_of : List Standing → ℕ → Entry
entry_of standings lit =
    let standing = standing_at standings (variable lit) in
    record { lit = lit; level = standing.level; reason = reason_of standing }

-- the literals that are true
abbrev pub trues_of : Inside → List ℕ
trues_of a = take a.count a.lits.items

abbrev pub trail_of : Inside → TrailView
trail_of a = record {
  entries = map (entry_of a.standings.items) (trues_of a);
  depth = a.depth;
  vars = a.vars;
  looked = a.looked;
}

-- the tables over these true literals
pub record AreTables (truths : List Truth) (standings : List Standing) (trues : List ℕ)
    (depth vars : ℕ) : Type 0 where
  pub value_places : length truths ≡ 2 * places vars
  pub standing_places : places vars ≤ length standings
  pub valued : (lit : ℕ) → 2 ≤ lit → lit < 2 + length truths
      → HasTruth trues lit (truth_at truths lit)
  pub within : All (λ lit. (2 ≤ lit) × (lit < 2 + length truths)) trues
  pub placed : (place : ℕ) → place < length trues
      → place_of (standing_at standings (variable (slice_index trues place))) ≡ place
  pub ascending : (i j : ℕ) → i ≤ j → j < length trues
      → (standing_at standings (variable (slice_index trues i))).level ≤
      (standing_at standings (variable (slice_index trues j))).level
  pub below : All (λ lit. (standing_at standings (variable lit)).level ≤ depth) trues
  pub counted : count_by is_unassigned truths + 2 * length trues ≡ length truths
  pub shallow : depth ≤ vars

pub record IsLaidOut (truths : List Truth) (standings : List Standing) (lits : List ℕ)
    (count depth vars : ℕ) : Type 0 where
  pub tables : AreTables truths standings (take count lits) depth vars
  pub lit_places : places vars ≤ length lits
  pub count_within : count ≤ length lits

pub record IsKept (a : Inside) : Type 0 where
  pub laid : IsLaidOut a.values.items a.standings.items a.lits.items a.count a.depth a.vars
  pub looked_at : a.looked ≤ a.count
