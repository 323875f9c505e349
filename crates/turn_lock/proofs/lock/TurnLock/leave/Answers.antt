use Rattle.std.proofs.Common.{◌++◌, sym, ap, ◌∙◌, arith}
use Rattle.turn_lock.proofs.Passes.{same_table}
use Rattle.turn_lock.proofs.Steps.{stores, releases}
use Rattle.turn_lock.proofs.PutBack.{puts_back, tells, own_grows}
use Rattle.turn_lock.proofs.lock.TurnLock.leave.Goals as goal

pub store-requires : goal.store-requires
store-requires g c =
    let k = g.T.Kept in let shared = c.self.inside.table.shared in let seat = c.exchange-left.new.seat in
    let moved = c.exchange-left.ensures in
    let back = puts_back k.entries k.caller c.pass.invariant c.pass.view_is moved.3 c.requires.busy c.requires.added in (
      moved.0 ∙ same_table c.pass.view_is c.requires.lock c.self.view_is,
      omega arith,
      stores k.entries k.caller k.count k.basis (k.basis shared.key.value.value) shared.key.passes g.met.T.Kept.counts_up shared.table_id.slots seat.id c.count_now-count.result seat.me c.args.held.value
          c.requires.added.0 back.has back.low back.busy (c.requires.basis ∙ sym (ap (λ l. l.basis) c.self.view_is)) back.longer back.own c.count_now-count.ensures,
    )

pub store-requires-2 : goal.store-requires-2
store-requires-2 g c =
    let k = g.T.Kept in let shared = c.self.inside.table.shared in let seat = c.store.new.seat in
    let moved = c.exchange-left.ensures in
    let back = puts_back k.entries k.caller c.pass.invariant c.pass.view_is moved.3 c.requires.busy c.requires.added in
    let told = tells k.entries k.caller back c.store.ensures.2 in (
      c.store.ensures.0 ∙ (moved.0 ∙ same_table c.pass.view_is c.requires.lock c.self.view_is),
      omega arith,
      releases k.entries k.caller k.count k.basis (k.basis shared.key.value.value) shared.key.passes shared.table_id.slots seat.id seat.me c.args.held.value
          c.self.invariant.1 told.has told.low told.busy (c.requires.basis ∙ sym (ap (λ l. l.basis) c.self.view_is)) told.seen,
    )

pub returns-clause-own : goal.returns-clause-own
returns-clause-own g c =
    let k = g.T.Kept in
    let moved = c.exchange-left.ensures in
    let back = puts_back k.entries k.caller c.pass.invariant c.pass.view_is moved.3 c.requires.busy c.requires.added in (
      c.requires.added.0,
      c.requires.added.1,
      ap (λ m. m.0.own) c.store-2.ensures.2 ∙ (own_grows k.entries k.caller back c.store.ensures.2 ∙ (ap (λ m. m.0.own ++ c.requires.added.0) moved.3 ∙ ap (λ p. p.own ++ c.requires.added.0) c.pass.view_is)),
    )
