use Rattle.std.proofs.Common.{◌≤◌, ◌+◌, refl, rules}
use Rattle.tarmo_run.proofs.Cancelled.{cancelled_one}
use Rattle.tarmo_run.proofs.Resting.{cancelled_rests}
use Rattle.tarmo_run.proofs.client.cancel_all.Goals as goal

pub loop-job-preserved : goal.loop-job-preserved
loop-job-preserved c =
    let within : c.loop-job.job + 1 ≤ c.jobs-jobs.result = search rules in
    let next = cancelled_one _ _ _ c.cancel.result (c.loop-job.job + 1) c.loop-job.job
    c.loop-job.invariant.more c.loop-job.invariant.settled refl (rw c.jobs-jobs.ensures at within)
    c.cancel.ensures.ok c.cancel.ensures.refused c.cancel.ensures.err in
    record {
      more = next.0;
      resting = cancelled_rests _ _ _ c.cancel.result (c.loop-job.job + 1)
          c.loop-job.invariant.resting c.cancel.ensures.ok c.cancel.ensures.err;
      settled = next.1;
      within = within;
    }
