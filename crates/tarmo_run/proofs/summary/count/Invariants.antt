use Rattle.std.proofs.Common.{◌≡◌, ◌≤◌, ◌-◌}
use Rattle.tarmo_run.specs.Body.{count_of, is_of}
use Rattle.tarmo_run.proofs.summary.count.Given as goal

abbrev pub invariant-loop-job : goal.invariant-loop-job
invariant-loop-job l = record {
  counted : l.count ≡ count_of (is_of l.kind) l.board l.job;
  few : l.count ≤ l.job;
  within : l.job ≤ l.jobs;
}

abbrev pub decreases-loop-job : goal.decreases-loop-job
decreases-loop-job l = l.jobs - l.job
