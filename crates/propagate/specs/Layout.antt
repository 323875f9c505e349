-- How a store is kept.
use Rattle.std.specs.Prelude.{ℕ, ◌≤◌, List, length}
use Rattle.clause_arena.specs.Arena.{ArenaClause}
use Rattle.watch_ring.specs.Ring.{RingView, list_of}
use Rattle.propagate.specs.declared.store.Store.TheInside.{Inside}
use Rattle.propagate.specs.Store.{StoreView, AreAllWithin}
use Rattle.propagate.specs.Lists.{new_from, IsWatched}

abbrev pub store_of : Inside → StoreView
store_of a = record { clauses = a.arena; fresh = new_from a.watched a.arena; vars = a.vars }

-- the clauses below a number stand in the lists, and there is room for all of them
pub record IsKept (clauses : List ArenaClause) (ring : RingView) (number vars : ℕ) : Type 0 where
  pub within : AreAllWithin vars clauses
  pub known : number ≤ length clauses
  pub lists : IsWatched clauses (new_from number clauses) (list_of ring)
  pub vars_in : vars ≤ ring.vars
  pub sides : length clauses ≤ ring.clauses

abbrev pub IsStore : Inside → Type 0
IsStore a = IsKept a.arena a.ring a.watched a.vars
