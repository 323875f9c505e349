use Rattle.std.proofs.Common.{◌≡◌, true, ◌++◌, sym, ap, ◌∙◌, subst, arith}
use Rattle.turn_lock.specs.Turns.{first_pass}
use Rattle.turn_lock.specs.Passes.{AllPast, FitsPasts}
use Rattle.turn_lock.proofs.TakenIn.{observes}
use Rattle.turn_lock.proofs.Passes.{idle_of, all_past, all_agree, all_front, all_back, past_is}
use Rattle.turn_lock.proofs.lock.TurnLock.close.Goals as goal

pub load_new_seat-seat-requires : goal.load_new_seat-seat-requires
load_new_seat-seat-requires g c =
    let k = g.T.Kept in let shared = c.self.inside.table.shared in (
      omega arith,
      observes k.entries k.caller k.count k.basis (k.basis shared.key.value.value) shared.key.passes shared.table_id.slots (first_pass (k.basis shared.key.value.value) (k.count shared.key.value.value)),
    )

pub take_in-requires-clause-passes : goal.take_in-requires-clause-passes
take_in-requires-clause-passes g c =
    let table = c.self.inside.table.shared.table_id in
    all_back (λ p. (p.lock ≡ table) × (p.idle ≡ true)) c.args.front.items c.args.rest.items (idle_of c.args.self table (c.args.front.items ++ c.args.rest.items) (ap (λ l. l.id) c.self.view_is) c.requires.passes)

pub take_in-requires-2-clause-passes : goal.take_in-requires-2-clause-passes
take_in-requires-2-clause-passes g c =
    let table = c.self.inside.table.shared.table_id in
    all_front (λ p. (p.lock ≡ table) × (p.idle ≡ true)) c.args.front.items c.args.rest.items (idle_of c.args.self table (c.args.front.items ++ c.args.rest.items) (ap (λ l. l.id) c.self.view_is) c.requires.passes)

pub finish-requires-clause-all : goal.finish-requires-clause-all
finish-requires-clause-all g c =
    let most = c.self.inside.table.shared.key.passes in
    subst (λ pasts. AllPast most pasts) (sym (past_is c.args.front.items c.args.rest.items c.load_new_seat-seat.result.1.me c.take_in.new.seat.me c.take_in-2.new.seat.me c.load_new_seat-seat.ensures.2 c.take_in.ensures.seat c.take_in-2.ensures.seat))
    (all_past c.args.self (c.args.front.items ++ c.args.rest.items) most (c.requires.all ∙ (sym (ap (λ l. l.passes) c.self.view_is) ∙ sym c.self.invariant.2)) c.requires.passes)

pub returns-clause-passes : goal.returns-clause-passes
returns-clause-passes g c =
    let k = g.T.Kept in let most = c.self.inside.table.shared.key.passes in
    all_agree k.entries k.caller k.count most (c.args.front.items ++ c.args.rest.items) c.finish.result (subst (λ pasts. FitsPasts k.entries k.caller k.count most pasts c.finish.result)
    (past_is c.args.front.items c.args.rest.items c.load_new_seat-seat.result.1.me c.take_in.new.seat.me c.take_in-2.new.seat.me c.load_new_seat-seat.ensures.2 c.take_in.ensures.seat c.take_in-2.ensures.seat) c.finish.ensures.passes)
