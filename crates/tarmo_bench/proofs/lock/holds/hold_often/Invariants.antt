use Rattle.std.proofs.Common.{◌≡◌, true}
use Rattle.turn_lock.specs.Passes.{IsOf}
use Rattle.tarmo_bench.proofs.lock.holds.hold_often.Given as goal

abbrev pub invariant-loop-number : goal.invariant-loop-number
invariant-loop-number g l = record {
  lock : IsOf l.lock l.pass;
  idle : l.pass.idle ≡ true;
  number : l.pass.number ≡ l.initial.pass.number;
}
