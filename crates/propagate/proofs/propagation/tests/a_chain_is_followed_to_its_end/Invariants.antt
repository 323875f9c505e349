use Rattle.std.proofs.Common.{◌≡◌}
use Rattle.propagate.specs.Store.{AreNewFrom}
use Rattle.propagate.proofs.propagation.tests.a_chain_is_followed_to_its_end.Given as goal

abbrev pub invariant-loop-k : goal.invariant-loop-k
invariant-loop-k g l = record {
  vars : l.store.vars ≡ 400001;
  all_new : AreNewFrom l.store 0;
}

abbrev pub invariant-loop-k-2 : goal.invariant-loop-k-2
invariant-loop-k-2 g l = record {
  vars : l.store.vars ≡ 400001;
  all_new : AreNewFrom l.store 0;
}
