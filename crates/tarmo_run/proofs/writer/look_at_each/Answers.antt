use Rattle.tarmo_run.proofs.Variables.{within_all, within_more}
use Rattle.tarmo_run.proofs.writer.look_at_each.Goals as goal

pub loop-clause-preserved : goal.loop-clause-preserved
loop-clause-preserved c =
    within_more c.args.clauses.now c.loop-clause.clause-index c.clause-item.result
    c.loop-clause-test.true c.clause-item.is c.lits.ensures.set
    c.loop-clause.invariant

pub returns : goal.returns
returns c = within_all c.args.clauses.now c.loop-clause.clause-index c.loop-clause-test.false
    c.loop-clause.invariant
