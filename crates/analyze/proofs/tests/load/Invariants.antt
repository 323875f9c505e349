use Rattle.std.proofs.Common.{◌≡◌}
use Rattle.propagate.specs.Store.{AreNewFrom}
use Rattle.analyze.proofs.tests.load.Given as goal

abbrev pub invariant-loop-numbers : goal.invariant-loop-numbers
invariant-loop-numbers l = record {
  vars : l.store.vars ≡ 7;
  all_new : AreNewFrom l.store 0;
}
