use Rattle.std.proofs.Common.{◌≡◌, ◌≤◌, [], length}
use Rattle.trace_core.proofs.tests.with_pigeons.Given as goal

abbrev pub invariant-loop-numbers : goal.invariant-loop-numbers
invariant-loop-numbers l = record {
  steps : l.checker.steps ≡ [];
  inputs : length l.checker.inputs ≤ l.numbers-index;
}
