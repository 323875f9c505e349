-- How a clause of the shared database comes to a solver.
use Rattle.std.specs.Prelude.{◌≡◌, ◌≢◌, ℕ, ◌≤◌, List, ◌∷◌, [], ◌++◌, map, length, replicate}
use Rattle.std.specs.Prelude.{Contains, Option, None, Some}
use Rattle.sat_base.specs.Lit.{IsLitSet, greatest_of, greatest_of_all}
use Rattle.sat_base.specs.Truth.{Entails}
use Rattle.sat_base.specs.declared.origins.Ref.TheVariants.{Shared}
use Rattle.trace_core.specs.Known.{Known, item_at}
use Rattle.trace_core.specs.Law.{clauses_up_to}
use Rattle.trace_core.specs.Trace.{known_of}
use Rattle.trace_core.specs.declared.derivation.Step.{Step}
use Rattle.session.specs.declared.search.Search.{Search}
use Rattle.session.specs.Solver.{Solver, clauses_of, packet_at}

-- The packet's last clause can be taken in: its tag is at most the bound, it follows from the
-- inputs, and its variables are those of the inputs up to its tag.
pub record IsTakable (solver : Solver) (packet : List Step) (one : Known) : Type 0 where
  pub last : item_at (map known_of packet) (length packet) ≡ Some one
  pub bounded : one.tag ≤ solver.bound
  pub follows : Entails (clauses_of solver.inputs) one.clause
  pub within : greatest_of one.clause ≤ greatest_of_all (clauses_up_to solver.inputs one.tag)

-- exactly this place became known, with this packet
pub record HasPlaceMore (old new : List (Option (List Step))) (place : ℕ)
    (packet : List Step) : Type 0 where
  pub here : packet_at new place ≡ Some packet
  pub elsewhere : (other : ℕ) → other ≢ place → packet_at new other ≡ packet_at old other

-- The packet's last clause, with its tag, is held, its place is known, and nothing else changed.
pub record HasTaken (old new : Solver) (place : ℕ) (packet : List Step) (one : Known) : Type 0 where
  pub last : item_at (map known_of packet) (length packet) ≡ Some one
  pub inputs : new.inputs ≡ old.inputs
  pub bound : new.bound ≡ old.bound
  pub held : new.held ≡ old.held ++ one ∷ []
  pub steps : new.steps ≡ old.steps
  pub learnt : new.learnt ≡ old.learnt
  pub packets : HasPlaceMore old.packets new.packets place packet

-- the packet's last clause is held
pub record IsHeld (solver : Solver) (packet : List Step) : Type 0 where
  pub one : Known
  pub last : item_at (map known_of packet) (length packet) ≡ Some one
  pub held : Contains solver.held one

-- The place is known, and nothing else changed.
pub record Knows (old new : Solver) (place : ℕ) (packet : List Step) : Type 0 where
  pub same : new ≡ record old { packets = new.packets }
  pub packets : HasPlaceMore old.packets new.packets place packet

-- there may be more places, none of which is known
pub record HasPlacesOnly (old new : Search) : Type 0 where
  pub count : ℕ
  pub are : new.packets ≡ old.packets ++ replicate count None

-- the packet's last clause came to be held, under its name
pub record HoldsLast (old new : Search) (place : ℕ) (packet : List Step) : Type 0 where
  pub one : Known
  pub last : item_at (map known_of packet) (length packet) ≡ Some one
  pub set : IsLitSet one.clause
  pub clauses : new.store.clauses ≡ old.store.clauses
      ++ record { lits = one.clause; tag = one.tag; origin = Shared place (length packet) } ∷ []
  pub fresh : new.store.fresh ≡ old.store.fresh ++ length old.store.clauses ∷ []
  pub vars : new.store.vars ≡ old.store.vars
