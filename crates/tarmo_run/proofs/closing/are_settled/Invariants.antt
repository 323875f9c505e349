use Rattle.std.proofs.Common.{◌≤◌, ◌-◌}
use Rattle.tarmo_run.proofs.Cancelled.{AreSettledTo}
use Rattle.tarmo_run.proofs.closing.are_settled.Given as goal

abbrev pub invariant-loop-job : goal.invariant-loop-job
invariant-loop-job l = record {
  settled : AreSettledTo l.board l.job;
  within : l.job ≤ l.jobs;
}

abbrev pub decreases-loop-job : goal.decreases-loop-job
decreases-loop-job l = l.jobs - l.job
