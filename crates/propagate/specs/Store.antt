-- Stores as contracts see them.
use Rattle.std.specs.Prelude.{◌≡◌, ℕ, ◌<◌, ◌≤◌, List, length, All, Contains}
use Rattle.sat_base.specs.Lit.{variable}
use Rattle.clause_arena.specs.Arena.{ArenaClause, clause_at}

-- the clauses, the numbers of those that are new to propagation, and how many variables are
-- reserved: 1 to that number
pub record StoreView : Type 0 where
  pub clauses : List ArenaClause
  pub fresh : List ℕ
  pub vars : ℕ

-- each variable is one of the first ones
abbrev pub AreWithin : ℕ → List ℕ → Type 0
AreWithin vars lits = All (λ lit. variable lit ≤ vars) lits

abbrev pub AreAllWithin : ℕ → List ArenaClause → Type 0
AreAllWithin vars clauses = All (λ clause. AreWithin vars clause.lits) clauses

-- the clauses from this number on are new to propagation
abbrev pub AreNewFrom : StoreView → ℕ → Type 0
AreNewFrom store number =
    (id : ℕ) → number ≤ id → id < length store.clauses → Contains store.fresh id

-- the same set of literals, as many, under the same name
pub record IsSameClause (old new : ArenaClause) : Type 0 where
  pub kept : All (Contains new.lits) old.lits
  pub no_more : All (Contains old.lits) new.lits
  pub size : length new.lits ≡ length old.lits
  pub tag : new.tag ≡ old.tag
  pub origin : new.origin ≡ old.origin

-- each clause keeps exactly its literals, which may stand in other places
pub record HasSameClauses (old new : List ArenaClause) : Type 0 where
  pub count : length new ≡ length old
  pub each : (id : ℕ) → id < length old → IsSameClause (clause_at old id) (clause_at new id)
