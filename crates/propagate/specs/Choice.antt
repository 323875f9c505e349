-- What a new clause is under a trail.
use Rattle.std.specs.Prelude.{◌≡◌, ◌≢◌, ℕ, ◌<◌, ◌≤◌, List, length, slice_index}
use Rattle.sat_base.specs.Lit.{opposite}
use Rattle.clause_arena.specs.Arena.{ArenaClause, clause_at}
use Rattle.trail_core.specs.Trail.{Entry, entry_at, lits_of}
use Rattle.trail_core.specs.UnderTrail.{IsFalseLit, IsFalseClause}
use Rattle.propagate.specs.Store.{IsSameClause}
use Rattle.propagate.specs.Places.{AreFalseFrom}
use Rattle.propagate.specs.declared.new_clauses.Choice.{Choice}
use Rattle.propagate.specs.declared.new_clauses.Choice.TheVariants.{False, One, Two}

-- of one clause the literals changed places, and nothing else changed
pub record IsRearranged (old new : List ArenaClause) (id : ℕ) : Type 0 where
  pub count : length new ≡ length old
  pub here : IsSameClause (clause_at old id) (clause_at new id)
  pub others : (other : ℕ) → other ≢ id → clause_at new other ≡ clause_at old other

-- The first literal isn't false, and all others are. The second one was assigned at the depth;
-- where there is none, the depth is 0.
pub record IsOneLeft (entries : List Entry) (depth : ℕ) (clause : List ℕ) : Type 0 where
  pub some : 0 < length clause
  pub left : IsFalseLit (lits_of entries) (slice_index clause 0) → ⊥
  pub others : AreFalseFrom (lits_of entries) clause 1
  pub alone : length clause ≡ 1 → depth ≡ 0
  pub top : 2 ≤ length clause → (place : ℕ) → place < length entries
      → (entry_at entries place).lit ≡ opposite (slice_index clause 1)
      → (entry_at entries place).level ≡ depth

-- the first two literals aren't false
pub record AreTwoLeft (trues clause : List ℕ) : Type 0 where
  pub wide : 2 ≤ length clause
  pub first : IsFalseLit trues (slice_index clause 0) → ⊥
  pub second : IsFalseLit trues (slice_index clause 1) → ⊥

abbrev pub IsChosen : List Entry → ℕ → List ℕ → Choice → Type 0
IsChosen entries depth clause False = IsFalseClause (lits_of entries) clause
IsChosen entries depth clause One = IsOneLeft entries depth clause
IsChosen entries depth clause Two = AreTwoLeft (lits_of entries) clause
