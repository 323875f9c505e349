-- Places of a clause under a trail.
use Rattle.std.specs.Prelude.{◌≡◌, ◌≢◌, ℕ, ◌<◌, ◌≤◌, List, length, slice_index}
use Rattle.sat_base.specs.Lit.{variable}
use Rattle.trail_core.specs.Trail.{Entry, StandsAt, entry_at}
use Rattle.trail_core.specs.UnderTrail.{IsFalseLit}

-- a place, from this one on, whose literal isn't false
pub record IsFreePlace (trues clause : List ℕ) (from place : ℕ) : Type 0 where
  pub behind : from ≤ place
  pub within : place < length clause
  pub left : IsFalseLit trues (slice_index clause place) → ⊥

-- the literals in these places are false
pub record AreFalseBetween (trues clause : List ℕ) (from to : ℕ) : Type 0 where
  pub each : (place : ℕ) → from ≤ place → place < to → IsFalseLit trues (slice_index clause place)

-- the literals from this place on are false
abbrev pub AreFalseFrom : List ℕ → List ℕ → ℕ → Type 0
AreFalseFrom trues clause from = AreFalseBetween trues clause from (length clause)

-- a place behind the first one whose literal's variable was assigned at this level
pub record IsTopPlace (entries : List Entry) (clause : List ℕ) (level place : ℕ) : Type 0 where
  pub behind : 1 ≤ place
  pub within : place < length clause
  pub is : (at : ℕ) → StandsAt entries (variable (slice_index clause place)) at
      → (entry_at entries at).level ≡ level

-- no variable in these places was assigned at this level
pub record AreNotAtFrom (entries : List Entry) (clause : List ℕ) (level from to : ℕ)
    : Type 0 where
  pub each : (place at : ℕ) → from ≤ place → place < to
      → StandsAt entries (variable (slice_index clause place)) at
      → (entry_at entries at).level ≢ level
