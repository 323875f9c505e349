-- What the clauses and steps of a solver keep.
use Rattle.std.specs.Prelude.{◌≡◌, ℕ, ◌≤◌, List, [], All, Contains, Option, Some}
use Rattle.sat_base.specs.Lit.{IsLit}
use Rattle.sat_base.specs.Truth.{Entails}
use Rattle.trace_core.specs.Known.{Known}
use Rattle.trace_core.specs.Trace.{AreOkSteps, known_of}
use Rattle.trace_core.specs.declared.derivation.Step.{Step}
use Rattle.clause_arena.specs.Arena.{ArenaClause}
use Rattle.session.specs.Solver.{inputs_of, held_of, clauses_of, named_by, shared_by, packet_at}
use Rattle.session.specs.Solver.{last_step_of, known_clause, IsWithinItsTag}

-- Each clause stands under its name, follows from the inputs, has a tag up to the bound, and no
-- greater variable than the inputs up to its tag; and so does each step, which is ok with exact tag
-- over the inputs, the packets and the steps before it. The last clause of each known packet is
-- held.
pub record IsStocked (clauses : List ArenaClause) (packets : List (Option (List Step)))
    (steps : List Step) (bound : ℕ) : Type 0 where
  pub lits : All (λ clause. All IsLit clause.lits) clauses
  pub named : All (λ clause. named_by (inputs_of clauses) packets steps clause.origin
      ≡ Some (known_clause clause)) clauses
  pub entailed : All (λ clause. Entails (clauses_of (inputs_of clauses))
      (known_clause clause).clause) clauses
  pub bounded : All (λ clause. clause.tag ≤ bound) clauses
  pub within : All (λ clause. IsWithinItsTag (inputs_of clauses) (known_clause clause)) clauses
  pub packets_held : (place number : ℕ) (one : Known)
      → last_step_of (packet_at packets place) number ≡ Some one → Contains (held_of clauses) one
  pub ok : AreOkSteps (inputs_of clauses) (shared_by packets) [] steps
  pub steps_entailed : All (λ step. Entails (clauses_of (inputs_of clauses)) step.clause) steps
  pub steps_within : All (λ step. IsWithinItsTag (inputs_of clauses) (known_of step)) steps
  pub steps_bounded : All (λ step. step.tag ≤ bound) steps
