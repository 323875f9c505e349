use Rattle.std.proofs.Common.{◌+◌, subst, sym, arith}
use Rattle.trail_core.specs.Trail.{lits_of}
use Rattle.session.specs.Models.{IsAssignmentOf}
use Rattle.session.proofs.Assignments.{AreGiven, one_given, all_given}
use Rattle.session.proofs.models.assignment.Goals as goal

pub loop-var-preserved : goal.loop-var-preserved
loop-var-preserved c =
    subst (λ values. AreGiven (lits_of c.args.trail.now.entries) values (c.loop-var.var + 1))
    (sym c.in_ok-push.ensures.items)
    (one_given c.args.trail.now c.loop-var.values.items c.loop-var.var c.positive.result c.is_true.result c.is_true.ensures.trail c.loop-var.invariant c.positive.ensures c.is_true.ensures.value)

pub returns : goal.returns
returns c =
    subst (IsAssignmentOf (lits_of c.args.trail.now.entries) c.args.vars) (sym c.of.ensures)
    (all_given (lits_of c.args.trail.now.entries) c.loop-var.values.items c.loop-var.var c.args.vars c.loop-var.invariant (let end = c.loop-var.auto.var-end (omega arith) in omega (arith, end, c.loop-var-test.false)))
