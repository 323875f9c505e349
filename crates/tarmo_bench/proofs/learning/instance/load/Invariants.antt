use Rattle.std.proofs.Common.{◌≡◌}
use Rattle.propagate.specs.Store.{AreNewFrom}
use Rattle.tarmo_bench.proofs.learning.instance.load.Given as goal

abbrev pub invariant-loop-pair : goal.invariant-loop-pair
invariant-loop-pair l = record {
  vars : l.store.vars ≡ l.vars;
  all_new : AreNewFrom l.store 0;
}

abbrev pub invariant-loop-var : goal.invariant-loop-var
invariant-loop-var l = record {
  vars : l.store.vars ≡ l.vars;
  all_new : AreNewFrom l.store 0;
}
