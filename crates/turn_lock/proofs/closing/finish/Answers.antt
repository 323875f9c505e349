use Rattle.turn_lock.proofs.TakenIn.{last_value, found_some}
use Rattle.turn_lock.proofs.closing.finish.Goals as goal

pub unwrap-requires : goal.unwrap-requires
unwrap-requires g c =
    let k = g.T.Kept in let key = c.args.table.shared.key in
    found_some k.entries k.caller k.count k.basis (k.basis key.value.value) key.passes g.met.T.Kept.counts_up _ _ c.args.seat.id c.args.seat.me.0 c.close_with-closed.ensures.values.2 c.requires.all
    c.take-value.result c.take-value.ensures.value

pub returns-clause-basis : goal.returns-clause-basis
returns-clause-basis g c =
    let k = g.T.Kept in let key = c.args.table.shared.key in
    (last_value k.entries k.caller k.count k.basis (k.basis key.value.value) key.passes g.met.T.Kept.counts_up _ _ c.args.seat.id c.args.seat.me.0 c.close_with-closed.ensures.values.2 c.requires.all
    c.take-value.result c.unwrap.result c.take-value.ensures.value c.unwrap.ensures).based

pub returns-clause-callers : goal.returns-clause-callers
returns-clause-callers g c =
    let k = g.T.Kept in let key = c.args.table.shared.key in
    (last_value k.entries k.caller k.count k.basis (k.basis key.value.value) key.passes g.met.T.Kept.counts_up _ _ c.args.seat.id c.args.seat.me.0 c.close_with-closed.ensures.values.2 c.requires.all
    c.take-value.result c.unwrap.result c.take-value.ensures.value c.unwrap.ensures).known

pub returns-clause-passes : goal.returns-clause-passes
returns-clause-passes g c =
    let k = g.T.Kept in let key = c.args.table.shared.key in
    (last_value k.entries k.caller k.count k.basis (k.basis key.value.value) key.passes g.met.T.Kept.counts_up _ _ c.args.seat.id c.args.seat.me.0 c.close_with-closed.ensures.values.2 c.requires.all
    c.take-value.result c.unwrap.result c.take-value.ensures.value c.unwrap.ensures).fits
