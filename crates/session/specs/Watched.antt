-- What a search keeps for propagation by watched literals.
use Rattle.std.specs.Prelude.{◌≡◌, ℕ, ◌<◌, List, [], length, All, Contains}
use Rattle.clause_arena.specs.Arena.{ArenaClause, clause_at}
use Rattle.trail_core.specs.Trail.{Entry, TrailView, lits_of}
use Rattle.propagate.specs.Store.{StoreView}
use Rattle.propagate.specs.Pairing.{IsPaired, AreReady, ArePendingAt}

-- a literal of the clause is true
pub record HasTrueLit (trues clause : List ℕ) : Type 0 where
  pub lit : ℕ
  pub stands : Contains clause lit
  pub holds : Contains trues lit

-- Propagation may go on: the clauses and the trail are paired, each new clause is ready, and what
-- wasn't looked at is of the depth. Above level 0 at most one clause is new, one that was just
-- learnt, and its literal was asserted.
pub record IsWatched (clauses : List ArenaClause) (fresh : List ℕ) (entries : List Entry)
    (depth looked : ℕ) : Type 0 where
  pub paired : IsPaired clauses fresh entries looked
  pub ready : AreReady clauses fresh entries depth
  pub pending : ArePendingAt entries looked depth
  pub known : All (λ id. id < length clauses) fresh
  pub at_most_one : 0 < depth → (one other : ℕ) → Contains fresh one → Contains fresh other
      → one ≡ other
  pub asserted : 0 < depth
      → All (λ id. HasTrueLit (lits_of entries) (clause_at clauses id).lits) fresh

-- Propagation has come to its end: no clause is new, and all literals were looked at.
pub record IsSettled (store : StoreView) (trail : TrailView) : Type 0 where
  pub nothing_new : store.fresh ≡ []
  pub all_looked : trail.looked ≡ length trail.entries
