use Rattle.std.proofs.Common.{◌≡◌, ◌≤◌, ◌-◌, length}
use Rattle.entry_core.specs.Journal.{inputs_of}
use Rattle.tarmo_run.proofs.summary.clauses.Given as goal

abbrev pub invariant-loop-job : goal.invariant-loop-job
invariant-loop-job l = record {
  counted : l.count ≡ length (inputs_of l.board.journal l.job);
  within : l.job ≤ l.jobs;
}

abbrev pub decreases-loop-job : goal.decreases-loop-job
decreases-loop-job l = l.jobs - l.job
