use Rattle.std.proofs.Common.{◌≡◌}
use Rattle.propagate.specs.Store.{AreNewFrom}
use Rattle.propagate.proofs.propagation.tests.pigeons_conflict_after_one_decision.Given as goal

abbrev pub invariant-loop-id : goal.invariant-loop-id
invariant-loop-id g l = record {
  vars : l.store.vars ≡ 400001;
  all_new : AreNewFrom l.store 0;
}
