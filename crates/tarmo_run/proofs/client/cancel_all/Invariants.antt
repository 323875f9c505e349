use Rattle.std.proofs.Common.{◌≤◌, ◌-◌}
use Rattle.tarmo_run.specs.Growth.{HasNoJobMore, StayResting}
use Rattle.tarmo_run.proofs.Cancelled.{AreSettledTo}
use Rattle.tarmo_run.proofs.client.cancel_all.Given as goal

abbrev pub invariant-loop-job : goal.invariant-loop-job
invariant-loop-job l = record {
  more : HasNoJobMore l.fn.board l.board;
  resting : StayResting l.fn.board l.board;
  settled : AreSettledTo l.board l.job;
  within : l.job ≤ l.jobs;
}

abbrev pub decreases-loop-job : goal.decreases-loop-job
decreases-loop-job l = l.jobs - l.job
