use Rattle.std.proofs.Common.{subst, arith}
use Rattle.pick_core.specs.Assigned.{AreAllAssigned}
use Rattle.session.proofs.Orders.{free_literal, all_assigned_literals, none_always}
use Rattle.session.proofs.order.Order.next.Goals as goal

pub returns-in_err-var-clause-none : goal.returns-in_err-var-clause-none
returns-in_err-var-clause-none c =
    let entries = c.args.trail.now.entries in
    none_always c.from_residual.result
    (all_assigned_literals entries c.args.self.now.vars
    (subst (AreAllAssigned entries) c.requires.is.ranked c.in_err-var.ensures.none))

pub returns-clause-some : goal.returns-clause-some
returns-clause-some c =
    let some = c.in_ok-var.ensures.some in (
      c.literal.ensures.is,
      omega (arith, c.literal.ensures.variable, some.1, c.requires.is.ranked),
      free_literal c.args.trail.now.entries c.in_ok-var.var c.literal.result some.2 c.literal.ensures.variable,
    )
