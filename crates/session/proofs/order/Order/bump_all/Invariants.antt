use Rattle.std.proofs.Common.{◌≡◌, List}
use Rattle.trail_core.specs.Trail.{Entry}
use Rattle.session.specs.Orders.{IsOrder, OffersFree}
use Rattle.session.proofs.order.Order.bump_all.Given as goal

abbrev pub invariant-loop-var : goal.invariant-loop-var
invariant-loop-var l = record {
  is : IsOrder l.self;
  offers : (entries : List Entry) → OffersFree entries l.fn.self.ranking
      → OffersFree entries l.self.ranking;
  vars : l.self.vars ≡ l.fn.self.vars;
}
