use Rattle.std.proofs.Common.{◌-◌, ◌≤◌}
use Rattle.worker_loop.specs.Importing.{HasImported, KnowsReadUpTo}
use Rattle.worker_loop.proofs.importing.import_waiting.Given as goal

abbrev pub invariant-loop-place : goal.invariant-loop-place
invariant-loop-place l = record {
  imported : HasImported l.fn.bench l.bench;
  known : KnowsReadUpTo l.bench l.place;
  within : l.place ≤ l.count;
}

abbrev pub decreases-loop-place : goal.decreases-loop-place
decreases-loop-place l = l.count - l.place
