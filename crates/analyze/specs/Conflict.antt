-- A trail over an arena between two decisions, and at a conflict.
use Rattle.std.specs.Prelude.{ℕ, ◌-◌, ◌<◌, List, length}
use Rattle.clause_arena.specs.Arena.{ArenaClause, clause_at, lits_of_each}
use Rattle.trail_core.specs.Trail.{TrailView, lits_of}
use Rattle.trail_core.specs.UnderTrail.{IsFounded, IsComplete, IsFalseClause}

-- the trail is founded on the clauses, and propagation is complete
pub record IsReady (clauses : List ArenaClause) (trail : TrailView) : Type 0 where
  pub founded : IsFounded (lits_of_each clauses) trail.entries trail.depth
  pub complete : IsComplete trail.entries trail.depth (lits_of_each clauses)

-- a clause is false, and propagation was complete before the last decision
pub record IsConflict (clauses : List ArenaClause) (trail : TrailView) (id : ℕ) : Type 0 where
  pub founded : IsFounded (lits_of_each clauses) trail.entries trail.depth
  pub deep : 0 < trail.depth
  pub complete : IsComplete trail.entries (trail.depth - 1) (lits_of_each clauses)
  pub known : id < length clauses
  pub refuted : IsFalseClause (lits_of trail.entries) (clause_at clauses id).lits
