use Rattle.trail_core.specs.Trail.{lits_of}
use Rattle.session.proofs.Choices.{some_value, assigned_more_lits, all_assigned}
use Rattle.session.proofs.conflicts.unassigned.Goals as goal

pub loop-lit-preserved : goal.loop-lit-preserved
loop-lit-preserved c =
    assigned_more_lits (lits_of c.args.trail.now.entries) c.lits-lit-items.result.now c.loop-lit.lit-index c.lit-item.result c.value.result c.loop-lit-test.true c.lit-item.is c.loop-lit.invariant (some_value c.value.result c.if-is_none.ensures) c.value.ensures.value

pub returns-clause-none : goal.returns-clause-none
returns-clause-none c = all_assigned
    (lits_of c.args.trail.now.entries) c.lits-lit-items.result.now c.args.clause.now c.loop-lit.lit-index c.lits-lit-items.ensures.value c.loop-lit-test.false c.loop-lit.invariant
