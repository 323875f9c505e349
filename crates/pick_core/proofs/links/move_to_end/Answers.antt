use Rattle.std.proofs.Common.{◌<◌, length, subst, sym, arith}
use Rattle.pick_core.specs.Links.{IsJoined, farther_at}
use Rattle.pick_core.proofs.Circles.{moved, neighbours, within, is_read, ends_within, after_join_within}
use Rattle.pick_core.proofs.links.move_to_end.Goals as goal

pub join-requires-clause-nearer : goal.join-requires-clause-nearer
join-requires-clause-nearer c =
    let some : 0 < length c.requires.order = omega (arith, c.requires.low, c.requires.high) in
    let has = c.requires.is.variables.each c.args.var c.requires.low c.requires.high in
    let near = neighbours c.args.links.now.items c.requires.order c.args.var c.requires.is has in
    let read = is_read c.args.links.now.items c.args.var c.index-old.result.now (omega (arith, c.requires.high, c.requires.is.room some)) c.index-old.ensures in
    subst (λ n. n < length c.args.links.now.items) (sym read.nearer) (within c.args.links.now.items c.requires.order _ c.requires.is some near.nearer)

pub join-requires-clause-farther : goal.join-requires-clause-farther
join-requires-clause-farther c =
    let some : 0 < length c.requires.order = omega (arith, c.requires.low, c.requires.high) in
    let has = c.requires.is.variables.each c.args.var c.requires.low c.requires.high in
    let near = neighbours c.args.links.now.items c.requires.order c.args.var c.requires.is has in
    let read = is_read c.args.links.now.items c.args.var c.index-old.result.now (omega (arith, c.requires.high, c.requires.is.room some)) c.index-old.ensures in
    subst (λ n. n < length c.args.links.now.items) (sym read.farther) (within c.args.links.now.items c.requires.order _ c.requires.is some near.farther)

pub join-requires-3-clause-farther : goal.join-requires-3-clause-farther
join-requires-3-clause-farther c =
    let some : 0 < length c.requires.order = omega (arith, c.requires.low, c.requires.high) in
    let has = c.requires.is.variables.each c.args.var c.requires.low c.requires.high in
    let near = neighbours c.args.links.now.items c.requires.order c.args.var c.requires.is has in
    let read = is_read c.args.links.now.items c.args.var c.index-old.result.now (omega (arith, c.requires.high, c.requires.is.room some)) c.index-old.ensures in
    let ends = ends_within c.args.links.now.items c.requires.order c.requires.is (omega (arith, some, c.requires.is.room some)) in
    let far : c.index-old.result.now.farther < length c.args.links.now.items = subst (λ n. n < length c.args.links.now.items) (sym read.farther) (within c.args.links.now.items c.requires.order _ c.requires.is some near.farther) in
    let read_last = is_read c.join.new.links.items 0 c.index.result.now (omega (arith, some, c.requires.is.room some, c.join.ensures.size)) c.index.ensures in
    let k = after_join_within c.args.links.now.items c.join.new.links.items _ _ c.join.ensures far ends.0 in
    omega (arith, k, read_last.farther, c.join.ensures.size, c.join-2.ensures.size)

pub returns-clause-order : goal.returns-clause-order
returns-clause-order c = λ order o has.
    let some : 0 < length c.requires.order = omega (arith, c.requires.low, c.requires.high) in
    let read = is_read c.args.links.now.items c.args.var c.index-old.result.now (omega (arith, c.requires.high, c.requires.is.room some)) c.index-old.ensures in
    let read_last = is_read c.join.new.links.items 0 c.index.result.now (omega (arith, some, c.requires.is.room some, c.join.ensures.size)) c.index.ensures in
    moved c.args.links.now.items c.join.new.links.items c.join-2.new.links.items c.join-3.new.links.items order c.args.var o has
    (subst (λ n. IsJoined c.args.links.now.items c.join.new.links.items n (farther_at c.args.links.now.items c.args.var)) read.nearer (subst (λ n. IsJoined c.args.links.now.items c.join.new.links.items c.index-old.result.now.nearer n) read.farther c.join.ensures))
    c.join-2.ensures
    (subst (λ n. IsJoined c.join-2.new.links.items c.join-3.new.links.items c.args.var n) read_last.farther c.join-3.ensures)
