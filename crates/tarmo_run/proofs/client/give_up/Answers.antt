use Rattle.tarmo_run.proofs.Boards.{no_job_on}
use Rattle.tarmo_run.proofs.Closed.{closed_stays}
use Rattle.tarmo_run.proofs.Resting.{rests_on}
use Rattle.tarmo_run.proofs.client.give_up.Goals as goal

pub returns-clause-more : goal.returns-clause-more
returns-clause-more c = no_job_on _ _ _ c.close_input.ensures.more c.cancel_all.ensures.more

pub returns-clause-resting : goal.returns-clause-resting
returns-clause-resting c = rests_on _ _ _ c.close_input.ensures.resting c.cancel_all.ensures.resting

pub returns-clause-closed : goal.returns-clause-closed
returns-clause-closed c =
    closed_stays _ _ c.cancel_all.ensures.more.longer c.close_input.ensures.closed
