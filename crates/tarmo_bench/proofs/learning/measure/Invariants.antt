use Rattle.std.proofs.Common.{◌≤◌}
use Rattle.tarmo_bench.proofs.learning.measure.Given as goal

abbrev pub invariant-loop : goal.invariant-loop
invariant-loop l = l.vars ≤ l.scratch
