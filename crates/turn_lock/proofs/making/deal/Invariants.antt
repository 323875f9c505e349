use Rattle.std.proofs.Common.{◌≡◌, ◌+◌, ◌≤◌, [], Some, length, vec_capacity}
use Rattle.turn_lock.specs.Turns.{fresh}
use Rattle.turn_lock.specs.Passes.{AreNew}
use Rattle.turn_lock.proofs.making.deal.Given as goal

abbrev pub invariant-loop-number : goal.invariant-loop-number
invariant-loop-number g l = record {
  seat : l.seat.me ≡ (fresh (Some l.fn.lock.basis) l.fn.first.me.0.floor l.number, []);
  table : l.seat.table_id ≡ l.fn.lock.id;
  dealt : AreNew l.fn.lock l.fn.first.me.0.floor l.dealt.items;
  count : length l.dealt.items + 1 ≡ l.number;
  room : l.fn.lock.passes ≤ vec_capacity l.dealt;
}
