use Rattle.std.proofs.Common.{refl, arith}
use Rattle.session.proofs.Keeping.{search_moved}
use Rattle.session.proofs.inputs.enter.Goals as goal

pub returns-clause-kept : goal.returns-clause-kept
returns-clause-kept c =
    let s = c.args.search.now in
    let order = c.requires.kept.order in
    let e = c.reserve.ensures in
    search_moved s s.cursor s.cursors c.reserve.new.self c.requires.kept refl (record {
      is = e.is;
      has_inputs = omega (arith, order.has_inputs, e.low);
      reserved = e.high s.trail.vars order.reserved c.requires.reserved;
      offers = e.offers s.trail.entries order.offers;
    })
