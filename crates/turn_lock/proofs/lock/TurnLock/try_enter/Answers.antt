use Rattle.std.proofs.Common.{ap, ◌∙◌, arith}
use Rattle.turn_lock.proofs.Passes.{same_table, took}
use Rattle.turn_lock.proofs.Steps.{acquires}
use Rattle.turn_lock.proofs.lock.TurnLock.try_enter.Goals as goal

pub compare_exchange-found-requires : goal.compare_exchange-found-requires
compare_exchange-found-requires g c =
    let k = g.T.Kept in let seat = c.pass.inside.seat in let shared = c.self.inside.table.shared in (
      same_table c.pass.view_is c.requires.lock c.self.view_is,
      omega arith,
      acquires k.entries k.caller k.count k.basis (k.basis shared.key.value.value) shared.key.passes g.met.T.Kept.counts_up shared.table_id.slots seat.id c.pass.inside.number seat.me
          c.self.invariant.1 c.pass.invariant.number_is c.pass.invariant.least,
    )

pub exchange-requires : goal.exchange-requires
exchange-requires g c =
    let step = c.compare_exchange-found.ensures in
    let got = step.2.0 c.if-found-ne0.false in (
      step.0 ∙ same_table c.pass.view_is c.requires.lock c.self.view_is,
      (_, took (ap (λ m. m.1) got.1)),
    )
