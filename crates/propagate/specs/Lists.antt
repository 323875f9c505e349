-- Watch lists of a store.
use Rattle.std.specs.Prelude.{◌≡◌, ℕ, ◌-◌, ◌≤◌, List, length, Contains}
use Rattle.std.specs.List.{range_with_len}
use Rattle.clause_arena.specs.Arena.{ArenaClause}
use Rattle.trail_core.specs.Trail.{TrailView}
use Rattle.trail_core.specs.UnderTrail.{IsFounded, HasGrown}
use Rattle.clause_arena.specs.Arena.{lits_of_each}
use Rattle.watch_ring.specs.Ring.{RingView, list_of}
use Rattle.propagate.specs.Store.{AreAllWithin, HasSameClauses}
use Rattle.propagate.specs.Pairing.{IsSide, IsPaired, AreReady, ArePendingAt, watched}

-- the numbers of the clauses from this one on
abbrev pub new_from : ℕ → List ArenaClause → List ℕ
new_from number clauses = range_with_len number (length clauses - number)

-- each side of a clause that isn't new stands in the list of its literal, and nothing else does
pub record IsWatched (clauses : List ArenaClause) (fresh : List ℕ) (list : ℕ → List ℕ)
    : Type 0 where
  pub stands : (side : ℕ) → IsSide clauses fresh side → Contains (list (watched clauses side)) side
  pub known : (lit side : ℕ) → Contains (list lit) side → IsSide clauses fresh side
  pub only : (lit side : ℕ) → Contains (list lit) side → watched clauses side ≡ lit

-- Clauses, lists and trail fit together: what holds between the steps of propagation.
pub record IsConnected (clauses : List ArenaClause) (fresh : List ℕ) (ring : RingView)
    (trail : TrailView) : Type 0 where
  pub lists : IsWatched clauses fresh (list_of ring)
  pub paired : IsPaired clauses fresh trail.entries trail.looked
  pub ready : AreReady clauses fresh trail.entries trail.depth
  pub pending : ArePendingAt trail.entries trail.looked trail.depth
  pub within : AreAllWithin trail.vars clauses
  pub reserved : AreAllWithin ring.vars clauses
  pub sides : length clauses ≤ ring.clauses

-- what a part of propagation does
pub record HasPropagated (clauses : List ArenaClause) (ring : RingView) (trail : TrailView)
    (clauses' : List ArenaClause) (ring' : RingView) (trail' : TrailView) : Type 0 where
  pub same : HasSameClauses clauses clauses'
  pub ring_vars : ring'.vars ≡ ring.vars
  pub ring_clauses : ring'.clauses ≡ ring.clauses
  pub vars : trail'.vars ≡ trail.vars
  pub depth : trail'.depth ≡ trail.depth
  pub grown : HasGrown (lits_of_each clauses) trail.depth trail.entries trail'.entries
  pub founded : IsFounded (lits_of_each clauses) trail.entries trail.depth
      → IsFounded (lits_of_each clauses) trail'.entries trail.depth
