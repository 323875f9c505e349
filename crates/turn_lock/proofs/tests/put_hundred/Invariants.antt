use Rattle.std.proofs.Common.{◌≡◌, true}
use Rattle.turn_lock.specs.Passes.{IsOf}
use Rattle.turn_lock.proofs.tests.put_hundred.Given as goal

abbrev pub invariant-loop-number : goal.invariant-loop-number
invariant-loop-number g l = record {
  lock : IsOf l.lock l.pass;
  idle : l.pass.idle ≡ true;
  number : l.pass.number ≡ l.initial.pass.number;
}
