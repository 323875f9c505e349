-- What holds under a trail. All of it depends on a clause only as a set of literals: never on their
-- places.
use Rattle.std.specs.Prelude.{◌≡◌, ◌≢◌, ℕ, ◌<◌, ◌≤◌, List, [], length, take, All, Contains, None}
use Rattle.std.specs.Prelude.{Some, slice_index_or}
use Rattle.sat_base.specs.Lit.{opposite}
use Rattle.trail_core.specs.Trail.{Entry, entry_at, lits_of, up_to}

-- Under the literals that are true, a literal is true, false or unassigned.
pub record IsTrueLit (trues : List ℕ) (lit : ℕ) : Type 0 where
  pub stands : Contains trues lit

pub record IsFalseLit (trues : List ℕ) (lit : ℕ) : Type 0 where
  pub stands : Contains trues (opposite lit)

pub record IsUnassigned (trues : List ℕ) (lit : ℕ) : Type 0 where
  pub not_true : IsTrueLit trues lit → ⊥
  pub not_false : IsFalseLit trues lit → ⊥

-- each literal is false
pub record IsFalseClause (trues clause : List ℕ) : Type 0 where
  pub each : All (IsFalseLit trues) clause

-- the literal is one of the clause, and each other literal is false
pub record HasOthersFalse (trues clause : List ℕ) (lit : ℕ) : Type 0 where
  pub stands : Contains clause lit
  pub others : (other : ℕ) → Contains clause other → other ≢ lit → IsFalseLit trues other

-- a unit clause: the literal is unassigned, and each other literal is false
pub record IsUnitClause (trues clause : List ℕ) (lit : ℕ) : Type 0 where
  pub free : IsUnassigned trues lit
  pub rest : HasOthersFalse trues clause lit

-- neither false nor unit
pub record IsOpenClause (trues clause : List ℕ) : Type 0 where
  pub not_false : IsFalseClause trues clause → ⊥
  pub not_unit : (lit : ℕ) → IsUnitClause trues clause lit → ⊥

-- Propagation is complete at a level: under the literals up to that level no clause is false or
-- unit.
pub record IsComplete (entries : List Entry) (level : ℕ) (clauses : List (List ℕ)) : Type 0 where
  pub each : All (IsOpenClause (lits_of (up_to level entries))) clauses

abbrev pub lits_at : List (List ℕ) → ℕ → List ℕ
lits_at clauses id = slice_index_or clauses id []

-- The entry stands in its reason, whose other literals are false under the entries before it.
pub record IsForced (clauses : List (List ℕ)) (before : List Entry) (entry : Entry) : Type 0 where
  pub id : ℕ
  pub reason : entry.reason ≡ Some id
  pub known : id < length clauses
  pub rest : HasOthersFalse (lits_of before) (lits_at clauses id) entry.lit

-- an entry is of the level
abbrev pub HasLevel : List Entry → ℕ → Type 0
HasLevel entries level =
    (place : ℕ) × (place < length entries) × ((entry_at entries place).level ≡ level)

-- no earlier entry is of the level of the entry at this place
abbrev pub IsFirstOfLevel : List Entry → ℕ → Type 0
IsFirstOfLevel entries place =
    (k : ℕ) → k < place → (entry_at entries k).level ≢ (entry_at entries place).level

-- A founded trail: each level above 0 has a literal, the first one of such a level has no reason,
-- and each other one is forced by its reason.
pub record IsFounded (clauses : List (List ℕ)) (entries : List Entry) (depth : ℕ) : Type 0 where
  pub begun : (level : ℕ) → 0 < level → level ≤ depth → HasLevel entries level
  pub first : (place : ℕ) → place < length entries → 0 < (entry_at entries place).level
      → IsFirstOfLevel entries place → (entry_at entries place).reason ≡ None
  pub other : (place k : ℕ) → place < length entries → 0 < (entry_at entries place).level
      → k < place → (entry_at entries k).level ≡ (entry_at entries place).level
      → IsForced clauses (take place entries) (entry_at entries place)

-- Entries were added at the depth, each forced by its reason.
pub record HasGrown (clauses : List (List ℕ)) (depth : ℕ) (old new : List Entry) : Type 0 where
  pub longer : length old ≤ length new
  pub before : take (length old) new ≡ old
  pub forced : (place : ℕ) → length old ≤ place → place < length new
      → IsForced clauses (take place new) (entry_at new place)
  pub level : (place : ℕ) → length old ≤ place → place < length new
      → (entry_at new place).level ≡ depth
