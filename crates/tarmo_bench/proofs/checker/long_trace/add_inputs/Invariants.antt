use Rattle.std.proofs.Common.{◌≡◌, ◌+◌, [], length}
use Rattle.tarmo_bench.proofs.checker.long_trace.add_inputs.Given as goal

abbrev pub invariant-loop-variable : goal.invariant-loop-variable
invariant-loop-variable l = record {
  inputs : length l.checker.inputs + 1 ≡ l.variable;
  steps : l.checker.steps ≡ [];
}
