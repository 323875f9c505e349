-- What a search keeps between its steps.
use Rattle.std.specs.Prelude.{◌≡◌, ◌⊎◌, ℕ, ◌<◌, ◌≤◌, List, [], ◌∷◌, ◌++◌, length, All, Contains}
use Rattle.std.specs.Prelude.{Option}
use Rattle.sat_base.specs.Lit.{greatest_of_all}
use Rattle.sat_base.specs.declared.origins.Ref.{Ref}
use Rattle.trace_core.specs.Known.{Known}
use Rattle.trace_core.specs.declared.derivation.Step.{Step}
use Rattle.clause_arena.specs.Arena.{ArenaClause, clause_at, lits_of_each}
use Rattle.trail_core.specs.Trail.{IsTrail, entry_at, lits_of}
use Rattle.trail_core.specs.UnderTrail.{IsFalseClause}
use Rattle.propagate.specs.Store.{StoreView, AreAllWithin}
use Rattle.session.specs.declared.search.Search.{Search}
use Rattle.session.specs.Solver.{Solver, inputs_of, held_of, clauses_of, named_by, IsStep}
use Rattle.session.specs.Places.{steps_by_place}
use Rattle.session.specs.Stock.{IsStocked}
use Rattle.session.specs.OnTrail.{IsOnTrail}
use Rattle.session.specs.Orders.{IsOrderOf}
use Rattle.session.specs.Watched.{IsWatched}
use Rattle.session.specs.Units.{IsNamed}

-- the packet of each place that is known
abbrev pub packets_of : Search → List (Option (List Step))
packets_of search = steps_by_place search.packets

-- what references name to the search
abbrev pub table_of : Search → Ref → Option Known
table_of search = named_by (inputs_of search.store.clauses) (packets_of search) search.steps

abbrev pub solver_of : Search → Solver
solver_of search = record {
  inputs = inputs_of search.store.clauses;
  bound = search.bound;
  held = held_of search.store.clauses;
  steps = search.steps;
  learnt = search.learnt.items;
  packets = packets_of search;
}

-- The variables of the clauses, the first ones up to the greatest, are reserved everywhere.
pub record IsRoomy (greatest vars : ℕ) (store : StoreView) (scratch : ℕ) (units : List Ref)
    (tags : List ℕ) : Type 0 where
  pub over : AreAllWithin greatest store.clauses
  pub reserved : greatest ≤ vars
  pub in_store : vars ≤ store.vars
  pub in_scratch : vars ≤ scratch
  pub in_units : vars ≤ length units
  pub in_tags : vars ≤ length tags

-- the own step of that number has a clause that is held
abbrev pub IsHeldStep : List Step → List Known → ℕ → Type 0
IsHeldStep steps held number = (one : Known) × IsStep steps number one × Contains held one

-- The greatest variable and the number of the inputs are right, and the clause of each learnt step
-- is held.
pub record IsCounted (clauses : List ArenaClause) (greatest inputs : ℕ) (steps : List Step)
    (learnt : List ℕ) : Type 0 where
  pub greatest_is : greatest ≡ greatest_of_all (clauses_of (inputs_of clauses))
  pub inputs_are : inputs ≡ length (inputs_of clauses)
  pub learnt_held : All (IsHeldStep steps (held_of clauses)) learnt

-- What a search keeps whatever cube it is asked about.
pub record IsSearching (search : Search) : Type 0 where
  pub stock : IsStocked search.store.clauses (packets_of search) search.steps search.bound
  pub room : IsRoomy search.greatest search.trail.vars search.store search.scratch
      search.units.items search.tags.items
  pub counted : IsCounted search.store.clauses search.greatest search.inputs search.steps
      search.learnt.items
  pub trail : IsTrail search.trail
  pub watched : IsWatched search.store.clauses search.store.fresh search.trail.entries
      search.trail.depth search.trail.looked
  pub on : IsOnTrail (lits_of_each search.store.clauses) search.trail.entries search.trail.depth
  pub named : IsNamed (table_of search) search.trail.entries search.units.items search.tags.items
      search.named
  pub all_named : 0 < search.trail.depth → (place : ℕ) → place < length search.trail.entries
      → (entry_at search.trail.entries place).level ≡ 0 → place < search.named
  pub levels : length search.cursors.items ≡ search.trail.depth
  pub order : IsOrderOf search.greatest search.trail search.order

-- every unit clause of level 0 has its name
pub record AreAllNamed (search : Search) : Type 0 where
  pub each : (place : ℕ) → place < length search.trail.entries
      → (entry_at search.trail.entries place).level ≡ 0 → place < search.named

-- steps of one literal came behind these
pub record HasUnitsMore (old new : List Step) : Type 0 where
  pub more : List Step
  pub is : new ≡ old ++ more
  pub units : All (λ step. length step.clause ≡ 1) more

-- these ascend, above the first bound and up to the second
abbrev pub AscendBetween : ℕ → List ℕ → ℕ → Type 0
AscendBetween low [] high = low ≤ high
AscendBetween low (number ∷ numbers) high = (low < number) × AscendBetween number numbers high

-- Steps came behind these: those of these numbers, counted from 1, and others of one literal.
pub record HasStepsMore (old new : List Step) (numbers : List ℕ) : Type 0 where
  pub more : List Step
  pub is : new ≡ old ++ more
  pub ascend : AscendBetween (length old) numbers (length new)
  pub each : (number : ℕ) (one : Known) → length old < number → IsStep new number one
      → Contains numbers number ⊎ (length one.clause ≡ 1)

-- The variables of the inputs and those that are reserved stay.
pub record HasSameVariables (old new : Search) : Type 0 where
  pub greatest : new.greatest ≡ old.greatest
  pub vars : new.trail.vars ≡ old.trail.vars

-- a clause that is false; above level 0 no clause is new then
pub record IsConflict (search : Search) (id : ℕ) : Type 0 where
  pub known : id < length search.store.clauses
  pub refuted : IsFalseClause (lits_of search.trail.entries)
      (clause_at search.store.clauses id).lits
  pub settled : 0 < search.trail.depth → search.store.fresh ≡ []
