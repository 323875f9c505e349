use Rattle.worker_loop.proofs.Learnt.{listed_more, literals_more}
use Rattle.worker_loop.proofs.Traced.{learnt_there}
use Rattle.worker_loop.proofs.rounds.list_learnt.Goals as goal

pub own_step-requires : goal.own_step-requires
own_step-requires c =
    learnt_there c.args.session.now.solver c.steps-steps.result.now c.learnt.result.now c.args.before c.loop-number.number-index 0
    c.steps-steps.ensures.sound c.steps-steps.ensures.value c.learnt.ensures c.loop-number-test.true

pub loop-number-preserved : goal.loop-number-preserved
loop-number-preserved c = record {
  listed = listed_more c.loop-number.learnt.items c.args.learnt.now.items _ c.push.new.self.items c.loop-number.number-index 0 c.loop-number-test.true c.loop-number.invariant.listed c.in_ok-push.ensures.items;
  literals = literals_more c.steps-steps.result.now _ c.loop-number.number-index 0 c.own_step.result.clause c.loop-number-test.true c.own_step.ensures.clause c.own_step.ensures.literals c.loop-number.invariant.literals;
}
