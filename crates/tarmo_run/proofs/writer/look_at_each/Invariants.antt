use Rattle.std.proofs.Common.{take}
use Rattle.tarmo_run.specs.Variables.{AreWithinVariables}
use Rattle.tarmo_run.proofs.writer.look_at_each.Given as goal

abbrev pub invariant-loop-clause : goal.invariant-loop-clause
invariant-loop-clause l = AreWithinVariables (take l.clause-index l.clauses)
