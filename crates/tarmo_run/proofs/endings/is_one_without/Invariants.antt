use Rattle.std.proofs.Common.{◌≡◌, ◌≤◌, ◌-◌, false}
use Rattle.tarmo_run.specs.Output.{is_one_so, lacking}
use Rattle.tarmo_run.proofs.endings.is_one_without.Given as goal

abbrev pub invariant-loop-job : goal.invariant-loop-job
invariant-loop-job l = record {
  none : is_one_so (lacking l.lack) l.board l.job ≡ false;
  within : l.job ≤ l.jobs;
}

abbrev pub decreases-loop-job : goal.decreases-loop-job
decreases-loop-job l = l.jobs - l.job
