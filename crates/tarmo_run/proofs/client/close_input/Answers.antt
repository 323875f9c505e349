use Rattle.tarmo_run.proofs.Closed.{closed_more, closed_cancels_none, closed_then}
use Rattle.tarmo_run.proofs.Resting.{closed_rests}
use Rattle.tarmo_run.proofs.client.close_input.Goals as goal

pub returns-clause-more : goal.returns-clause-more
returns-clause-more c = closed_more _ _ c.close_input.result c.close_input.ensures.ok
    c.close_input.ensures.err

pub returns-clause-cancelled : goal.returns-clause-cancelled
returns-clause-cancelled c = closed_cancels_none _ _ c.close_input.result c.close_input.ensures.ok
    c.close_input.ensures.err

pub returns-clause-resting : goal.returns-clause-resting
returns-clause-resting c = closed_rests _ _ c.close_input.result c.close_input.ensures.ok
    c.close_input.ensures.err

pub returns-clause-closed : goal.returns-clause-closed
returns-clause-closed c = closed_then _ _ c.close_input.result c.close_input.ensures.ok
    c.close_input.ensures.closed c.close_input.ensures.err
