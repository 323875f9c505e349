-- The way back along the trail to the first unique implication point.
use Rattle.std.specs.Prelude.{◌≡◌, ℕ, ◌<◌, ◌≤◌, ◌⊎◌, List, length, Contains, Some}
use Rattle.clause_arena.specs.Arena.{ArenaClause, clause_at}
use Rattle.trail_core.specs.Trail.{Entry, entry_at}
use Rattle.analyze.specs.Graph.{IsPlaceOf, level_at}
use Rattle.analyze.specs.Seen.{AreAllSeen, open_below}

-- a clause forced the literal at the place, and all variables of that clause are seen
pub record IsResolvable (clauses : List ArenaClause) (entries : List Entry) (analyzed : List ℕ)
    (place : ℕ) : Type 0 where
  pub id : ℕ
  pub reason : (entry_at entries place).reason ≡ Some id
  pub all_seen : AreAllSeen entries analyzed (clause_at clauses id).lits

-- the variable at the place stands in the clause that forced the literal at the other one
pub record IsShownBy (clauses : List ArenaClause) (entries : List Entry) (place other : ℕ) : Type 0
  where
    pub id : ℕ
    pub reason : (entry_at entries other).reason ≡ Some id
    pub of : IsPlaceOf entries (clause_at clauses id).lits place

-- All that was seen at the present level from the bound on can be resolved away. Every place seen
-- shows in the conflict, or in a clause that is resolved with.
pub record IsResolvedFrom (clauses : List ArenaClause) (entries : List Entry) (depth : ℕ)
    (conflict : List ℕ) (bound : ℕ) (analyzed : List ℕ) : Type 0 where
  pub within : (place : ℕ) → Contains analyzed place → place < length entries
  pub all_seen : AreAllSeen entries analyzed conflict
  pub resolvable : (place : ℕ) → Contains analyzed place → bound ≤ place
      → level_at entries place ≡ depth → IsResolvable clauses entries analyzed place
  pub shown : (place : ℕ) → Contains analyzed place → IsPlaceOf entries conflict place
      ⊎ ((other : ℕ) × Contains analyzed other × (bound ≤ other) × (level_at entries other ≡ depth)
      × IsShownBy clauses entries place other)

-- some place seen below the bound is of the present level, and at most `left` are
pub record IsUnderWay (entries : List Entry) (depth bound left : ℕ) (analyzed : List ℕ) : Type 0
  where
    pub next : ℕ
    pub among : Contains analyzed next
    pub below : next < bound
    pub present : level_at entries next ≡ depth
    pub counted : open_below entries depth bound analyzed ≤ left
    pub few : left ≤ length analyzed

-- the one place seen of the present level that isn't resolved away
pub record IsFirstUip (entries : List Entry) (depth : ℕ) (analyzed : List ℕ) (point : ℕ) : Type 0
  where
    pub among : Contains analyzed point
    pub present : level_at entries point ≡ depth
    pub lone : (place : ℕ) → Contains analyzed place → level_at entries place ≡ depth
        → place < point
        → ⊥
