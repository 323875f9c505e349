use Rattle.std.proofs.Common.{◌<◌, sym, subst, arith}
use Rattle.turn_lock.proofs.Passes.{same_table}
use Rattle.turn_lock.proofs.Steps.{loads}
use Rattle.turn_lock.proofs.lock.TurnLock.count.Goals as goal

pub load-requires : goal.load-requires
load-requires g c =
    let k = g.T.Kept in let seat = c.pass.inside.seat in let shared = c.self.inside.table.shared in (
      same_table c.pass.view_is c.requires c.self.view_is,
      omega arith,
      loads k.entries k.caller k.count k.basis (k.basis shared.key.value.value) shared.key.passes shared.table_id.slots seat.id seat.me
          (subst (λ n. 0 < n) (sym c.pass.invariant.number_is) c.pass.invariant.least),
    )
