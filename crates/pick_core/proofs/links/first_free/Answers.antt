use Rattle.std.proofs.Common.{◌∙◌, ap, arith, length}
use Rattle.std.specs.Prelude.{not}
use Rattle.pick_core.proofs.Circles.{is_read}
use Rattle.pick_core.proofs.Walks.{way_within, shorter, left_short, step, is_assigned}
use Rattle.pick_core.proofs.links.first_free.Goals as goal

pub index-requires : goal.index-requires
index-requires c =
    let p = c.loop-at.invariant c.requires.vars c.requires.is in
    omega (arith, way_within c.args.links.now.items c.loop-at.at p.left p.way c.loop-at-test.true)

pub loop-at-smaller : goal.loop-at-smaller
loop-at-smaller c =
    let p = c.loop-at.invariant c.requires.vars c.requires.is in
    let lt = way_within c.args.links.now.items c.loop-at.at p.left p.way c.loop-at-test.true in
    let read = is_read c.args.links.now.items c.loop-at.at c.index.result.now lt c.index.ensures in
    shorter c.args.links.now.items (length c.args.links.now.items) c.loop-at.at c.index.result.now.farther p.left p.way c.loop-at-test.true (left_short c.args.trail.now.entries c.args.links.now.items c.args.from c.loop-at.at c.requires p) read.farther

pub loop-at-preserved : goal.loop-at-preserved
loop-at-preserved c = λ rest w.
    let p = c.loop-at.invariant rest w in
    let lt = way_within c.args.links.now.items c.loop-at.at p.left p.way c.loop-at-test.true in
    let read = is_read c.args.links.now.items c.loop-at.at c.index.result.now lt c.index.ensures in
    step c.args.trail.now.entries c.args.links.now.items rest c.loop-at.at c.index.result.now.farther p c.loop-at-test.true (is_assigned c.args.trail.now.entries c.loop-at.at c.place.result (c.is_none.ensures ∙ ap not c.if-is_none.false) c.place.ensures.found) read.farther
