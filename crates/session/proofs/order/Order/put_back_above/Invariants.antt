use Rattle.std.proofs.Common.{◌≡◌, ◌≤◌, length, take}
use Rattle.session.specs.Orders.{IsOrder, OffersFree}
use Rattle.session.proofs.order.Order.put_back_above.Given as goal

abbrev pub invariant-loop-count : goal.invariant-loop-count
invariant-loop-count l = record {
  is : IsOrder l.self;
  offers : OffersFree (take l.count l.trail.entries) l.self.ranking;
  vars : l.self.vars ≡ l.fn.self.vars;
  low : l.left ≤ l.count;
  high : l.count ≤ length l.trail.entries;
}

abbrev pub decreases-loop-count : goal.decreases-loop-count
decreases-loop-count l = l.count
