use Rattle.std.proofs.Common.{◌<◌, length, subst, sym, arith}
use Rattle.pick_core.specs.Links.{IsJoined, IsOrder}
use Rattle.pick_core.specs.Queue.{with_next}
use Rattle.pick_core.proofs.Circles.{entered_at_end, entered_at_front, ends_within, is_read}
use Rattle.pick_core.proofs.links.enter.Goals as goal

pub join-requires-then-at_end-clause-farther : goal.join-requires-then-at_end-clause-farther
join-requires-then-at_end-clause-farther c =
    let some : 0 < length c.args.links.now.items = omega (arith, c.requires.within) in
    let read = is_read c.args.links.now.items 0 c.index.result.now some c.index.ensures in
    let ends = ends_within c.args.links.now.items c.requires.order c.requires.is some in
    omega (arith, ends.0, read.farther, c.join.ensures.size)

pub join-requires-else-at_end-clause-nearer : goal.join-requires-else-at_end-clause-nearer
join-requires-else-at_end-clause-nearer c =
    let some : 0 < length c.args.links.now.items = omega (arith, c.requires.within) in
    let read = is_read c.args.links.now.items 0 c.index-else-at_end.result.now some c.index-else-at_end.ensures in
    let ends = ends_within c.args.links.now.items c.requires.order c.requires.is some in
    omega (arith, ends.1, read.nearer)

pub returns-then-at_end-clause-order : goal.returns-then-at_end-clause-order
returns-then-at_end-clause-order c = λ order o next.
    let some : 0 < length c.args.links.now.items = omega (arith, c.requires.within) in
    let read = is_read c.args.links.now.items 0 c.index.result.now some c.index.ensures in
    subst (λ b. IsOrder c.join-then-at_end.new.links.items (with_next b c.args.var order)) (sym c.if-at_end.true)
    (entered_at_end c.args.links.now.items c.join.new.links.items c.join-then-at_end.new.links.items order c.args.var o next c.requires.within c.join.ensures
    (subst (λ n. IsJoined c.join.new.links.items c.join-then-at_end.new.links.items c.args.var n) read.farther c.join-then-at_end.ensures))

pub returns-else-at_end-clause-order : goal.returns-else-at_end-clause-order
returns-else-at_end-clause-order c = λ order o next.
    let some : 0 < length c.args.links.now.items = omega (arith, c.requires.within) in
    let read = is_read c.args.links.now.items 0 c.index-else-at_end.result.now some c.index-else-at_end.ensures in
    subst (λ b. IsOrder c.join-else-at_end-2.new.links.items (with_next b c.args.var order)) (sym c.if-at_end.false)
    (entered_at_front c.args.links.now.items c.join-else-at_end.new.links.items c.join-else-at_end-2.new.links.items order c.args.var o next c.requires.within
    (subst (λ n. IsJoined c.args.links.now.items c.join-else-at_end.new.links.items n c.args.var) read.nearer c.join-else-at_end.ensures)
    c.join-else-at_end-2.ensures)
