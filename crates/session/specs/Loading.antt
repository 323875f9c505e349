-- How the clauses of one more job come to a solver.
use Rattle.std.specs.Prelude.{◌≡◌, ℕ, ◌+◌, ◌≤◌, List, ◌++◌, map, length, All, Contains}
use Rattle.trace_core.specs.Known.{Known}
use Rattle.clause_arena.specs.Arena.{ArenaClause}
use Rattle.propagate.specs.Store.{AreNewFrom}
use Rattle.session.specs.declared.search.Search.{Search}
use Rattle.session.specs.Solver.{Solver, inputs_of, held_of}

-- clauses with this tag
abbrev pub tagged : ℕ → List (List ℕ) → List Known
tagged tag clauses = map (λ clause. record { clause = clause; tag = tag }) clauses

-- the solver with the clauses of one more job, which are held
abbrev pub loaded : Solver → List (List ℕ) → Solver
loaded solver clauses = record solver {
  inputs = solver.inputs ++ tagged (solver.bound + 1) clauses;
  bound = solver.bound + 1;
  held = solver.held ++ tagged (solver.bound + 1) clauses;
}

-- Nothing but inputs came, behind the clauses that were there, and they are new to propagation.
pub record HasInputsOnly (old new : Search) : Type 0 where
  pub parts : new ≡ record old {
    store = new.store;
    greatest = new.greatest;
    inputs = new.inputs;
    bound = new.bound;
  }
  pub more : List ArenaClause
  pub clauses : new.store.clauses ≡ old.store.clauses ++ more
  pub vars : new.store.vars ≡ old.store.vars
  pub fresh : AreNewFrom new.store (length old.store.clauses)
  pub still_new : All (Contains new.store.fresh) old.store.fresh

-- These inputs came, with this tag, and are held.
pub record HasInputsMore (old new : Search) (clauses : List (List ℕ)) (tag : ℕ) : Type 0 where
  pub inputs : inputs_of new.store.clauses ≡ inputs_of old.store.clauses ++ tagged tag clauses
  pub held : held_of new.store.clauses ≡ held_of old.store.clauses ++ tagged tag clauses
  pub bound : new.bound ≤ tag
