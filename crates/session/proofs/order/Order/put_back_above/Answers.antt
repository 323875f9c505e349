use Rattle.std.proofs.Common.{◌∙◌, ◌-◌, List, take, subst, arith}
use Rattle.trail_core.specs.Trail.{Entry}
use Rattle.session.specs.Orders.{OffersFree}
use Rattle.session.proofs.Orders.{read_at, take_last}
use Rattle.session.proofs.order.Order.put_back_above.Goals as goal

pub loop-count-preserved : goal.loop-count-preserved
loop-count-preserved c =
    let entries = c.args.trail.now.entries in
    let count = c.loop-count.count in
    let inv = c.loop-count.invariant in
    let (last, same, taken) = take_last entries count c.index-lits-count.result
    (omega (arith, c.loop-count-test.true)) inv.high
    (read_at entries c.lits-lits.result.now (count - 1) c.index-lits-count.result c.lits-lits.ensures.value
    (omega (arith, c.loop-count-test.true, inv.high)) c.index-lits-count.is) in
    record {
      is = c.put_back.ensures.is;
      offers = c.put_back.ensures.offers (take (count - 1) entries) last same
          (subst (λ (es : List Entry). OffersFree es c.loop-count.self.ranking) taken inv.offers);
      vars = c.put_back.ensures.vars ∙ inv.vars;
      low = omega (arith, c.loop-count-test.true);
      high = omega (arith, inv.high);
    }
