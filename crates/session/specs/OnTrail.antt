-- How a trail stands while a solver searches.
use Rattle.std.specs.Prelude.{◌≡◌, ◌⊎◌, ℕ, ◌<◌, ◌≤◌, List, length, take, Contains, None}
use Rattle.sat_base.specs.Lit.{IsLit, variable}
use Rattle.trail_core.specs.Trail.{Entry, entry_at, lits_of}
use Rattle.trail_core.specs.UnderTrail.{IsForced, IsFounded, IsComplete, IsUnassigned}

-- Each literal of level 0 is forced.
pub record IsForcedAtZero (clauses : List (List ℕ)) (entries : List Entry) : Type 0 where
  pub forced : (place : ℕ) → place < length entries → (entry_at entries place).level ≡ 0
      → IsForced clauses (take place entries) (entry_at entries place)

-- Propagation was complete at each level below the depth.
pub record IsCompleteBelow (clauses : List (List ℕ)) (entries : List Entry)
    (depth : ℕ) : Type 0 where
  pub each : (level : ℕ) → level < depth → IsComplete entries level clauses

-- What holds of the trail whatever is asked.
pub record IsOnTrail (clauses : List (List ℕ)) (entries : List Entry) (depth : ℕ) : Type 0 where
  pub founded : IsFounded clauses entries depth
  pub zero : IsForcedAtZero clauses entries
  pub below : IsCompleteBelow clauses entries depth

-- each of the variables 1 to the last is assigned
abbrev pub AreAssigned : List ℕ → ℕ → Type 0
AreAssigned trues vars = (lit : ℕ) → IsLit lit → variable lit ≤ vars → IsUnassigned trues lit → ⊥

-- each literal of the cube is true
abbrev pub IsCubeTrue : List ℕ → List ℕ → Type 0
IsCubeTrue trues cube = (lit : ℕ) → Contains cube lit → Contains trues lit

-- a literal of the cube, or any one where the cube is true
abbrev pub IsChoice : List ℕ → List ℕ → ℕ → Type 0
IsChoice cube trues lit = Contains cube lit ⊎ IsCubeTrue trues cube

-- What the rounds of one cube add: each decision was such a choice where it was made.
pub record IsForCube (cube : List ℕ) (entries : List Entry) : Type 0 where
  pub each : (place : ℕ) → place < length entries → 0 < (entry_at entries place).level
      → (entry_at entries place).reason ≡ None
      → IsChoice cube (lits_of (take place entries)) (entry_at entries place).lit
