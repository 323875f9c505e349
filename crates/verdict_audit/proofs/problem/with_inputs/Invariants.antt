use Rattle.std.proofs.Common.{◌≡◌, ◌++◌, drop, map, []}
use Rattle.verdict_audit.specs.Case.{known_of_clause}
use Rattle.verdict_audit.proofs.problem.with_inputs.Given as goal

abbrev pub invariant-loop-clause : goal.invariant-loop-clause
invariant-loop-clause l = record {
  inputs : l.grown.inputs ++ map known_of_clause (drop l.clause-index l.clauses) ≡ l.fn.checker.inputs ++ map known_of_clause l.clauses;
  steps : l.grown.steps ≡ [];
}
