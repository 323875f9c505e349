-- How an arena keeps its clauses: one block of literals, the bounds of the clauses in it, and their
-- names.
use Rattle.std.specs.Prelude.{ℕ, zero, suc, ◌+◌, ◌-◌, ◌<◌, ◌≤◌, List, [], ◌∷◌, ◌++◌, length}
use Rattle.std.specs.Prelude.{slice_index, slice_range}
use Rattle.clause_arena.specs.declared.arena.Arena.TheInside.{Inside}
use Rattle.clause_arena.specs.Arena.{ArenaClause, HasNoRepeat}
use Rattle.clause_arena.specs.Named.{Named, named_at}

-- the first n values of a function
abbrev pub tabulated : {X : Type 0} → (ℕ → X) → ℕ → List X
tabulated f zero = []
tabulated f (suc n) = tabulated f n ++ f n ∷ []

-- the bounds with the first one, 0, which an arena has once it had a clause
abbrev pub begun : List ℕ → List ℕ
begun [] = 0 ∷ []
begun (bound ∷ bounds) = bound ∷ bounds

-- the clause that lies between two bounds
abbrev pub laid_clause : List ℕ → List ℕ → List Named → ℕ → ArenaClause
laid_clause lits bounds names id = record {
  lits = slice_range lits (slice_index bounds id) (slice_index bounds (id + 1));
  tag = (named_at names id).tag;
  origin = (named_at names id).origin;
}

abbrev pub laid_clauses : List ℕ → List ℕ → List Named → List ArenaClause
laid_clauses lits bounds names = tabulated (laid_clause lits bounds names) (length bounds - 1)

abbrev pub clauses_of : Inside → List ArenaClause
clauses_of a = laid_clauses a.lits.items a.bounds.items a.names

-- The bounds ascend within the block; each clause has a name and no literal twice.
-- What a call that wanted memory left behind the last clause is no part of the arena.
pub record IsLaidOut (lits bounds : List ℕ) (names : List Named) : Type 0 where
  pub ascending : (i j : ℕ) → i ≤ j → j < length bounds
      → slice_index bounds i ≤ slice_index bounds j
  pub within : (i : ℕ) → i < length bounds → slice_index bounds i ≤ length lits
  pub named : length bounds ≤ length names + 1
  pub distinct : (id : ℕ) → id + 1 < length bounds
      → HasNoRepeat (slice_range lits (slice_index bounds id) (slice_index bounds (id + 1)))

abbrev pub IsArena : Inside → Type 0
IsArena a = IsLaidOut a.lits.items a.bounds.items a.names
