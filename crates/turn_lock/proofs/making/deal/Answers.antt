use Rattle.std.proofs.Common.{◌<◌, Some, sym, ap, ◌∙◌, subst, arith}
use Rattle.atomic_table.specs.Table.{Splits}
use Rattle.turn_lock.specs.Turns.{fresh, numbered, newcomer}
use Rattle.turn_lock.proofs.Steps.{Rule}
use Rattle.turn_lock.proofs.Numbered.{numbers}
use Rattle.turn_lock.proofs.making.deal.Goals as goal

pub split_seat-next-requires : goal.split_seat-next-requires
split_seat-next-requires g c =
    let k = g.T.Kept in let shared = c.lock.inside.table.shared in let key = shared.key in let seat = c.loop-number.seat in
    let low : 0 < c.loop-number.number = omega arith in
    let room : c.loop-number.number < key.passes = omega arith in (
      c.loop-number.invariant.table ∙ sym (ap (λ l. l.id) c.lock.view_is),
      omega arith,
      subst (λ v. Splits (Rule k.entries k.caller k.count k.basis (k.basis key.value.value) key.passes) seat.id v (numbered v) (newcomer v)) (sym (ap (λ m. m.0) c.loop-number.invariant.seat))
          (numbers k.entries k.caller k.count k.basis (k.basis key.value.value) key.passes seat.id (fresh (Some c.args.lock.now.basis) c.args.first.me.0.floor c.loop-number.number) low low room),
    )
