use Rattle.std.proofs.Common.{◌≡◌, refl, arith, subst}
use Rattle.session.proofs.Fronts.{IsAbove}
use Rattle.session.proofs.Orders.{front_here, front_none}
use Rattle.session.proofs.order.count_up_to.Goals as goal

pub returns-then-not-is_above-clause-front : goal.returns-then-not-is_above-clause-front
returns-then-not-is_above-clause-front c =
    front_here c.args.trail.now.entries c.args.level c.loop-count.count c.is_above.ensures.trail.ascending c.loop-count.invariant.0 c.loop-count-test.true (c.if-not-is_above.ensures.no refl) c.loop-count.invariant.1

pub returns-clause-front : goal.returns-clause-front
returns-clause-front c =
    let none : c.loop-count.count ≡ 0 = omega (arith, c.loop-count-test.false) in
    front_none c.args.trail.now.entries c.args.level
    (subst (λ n. IsAbove c.args.trail.now.entries n c.args.level) none c.loop-count.invariant.1)
