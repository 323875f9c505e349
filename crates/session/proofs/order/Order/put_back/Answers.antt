use Rattle.std.proofs.Common.{◌∙◌, ◌++◌, ◌∷◌, [], ap, sym, subst}
use Rattle.sat_base.specs.Lit.{variable}
use Rattle.session.specs.declared.order.Order.{Order}
use Rattle.session.specs.Orders.{OffersFree}
use Rattle.session.proofs.order.Order.put_back.Goals as goal

pub returns-clause-offers : goal.returns-clause-offers
returns-clause-offers c = λ entries last same offers.
    c.put_back.ensures.offers entries last (ap variable same ∙ sym c.var.ensures.value)
    (subst (λ (o : Order). OffersFree (entries ++ last ∷ []) o.ranking)
    (sym c.save_phase.ensures.parts) offers)
