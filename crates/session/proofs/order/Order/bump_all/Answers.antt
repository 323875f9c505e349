use Rattle.std.proofs.Common.{◌∙◌}
use Rattle.session.proofs.order.Order.bump_all.Goals as goal

pub loop-var-preserved : goal.loop-var-preserved
loop-var-preserved c = record {
  is = c.bump.ensures.is;
  offers = λ entries offers. c.bump.ensures.offers entries (c.loop-var.invariant.offers entries offers);
  vars = c.bump.ensures.vars ∙ c.loop-var.invariant.vars;
}

pub returns-clause-offers : goal.returns-clause-offers
returns-clause-offers c = λ entries offers.
    c.decay.ensures.offers entries (c.loop-var.invariant.offers entries offers)
