use Rattle.std.proofs.Common.{◌≡◌, ◌-◌, ◌<◌, length}
use Rattle.worker_loop.specs.Fits.{AreLearnt}
use Rattle.worker_loop.specs.Rounds.{HasLearntOn}
use Rattle.worker_loop.proofs.attempts.pursue.Given as goal

abbrev pub invariant-rounds : goal.invariant-rounds
invariant-rounds l = record {
  left : length l.attempt.learnt.items < l.budget;
  learnt : HasLearntOn l.fn.bench.session.solver l.bench.session.solver l.fn.attempt l.attempt l.budget;
  bench : l.bench ≡ record l.fn.bench { session = l.bench.session };
  rules : AreLearnt l.bench.session.solver l.attempt.cube l.attempt.learnt.items;
}

abbrev pub decreases-rounds : goal.decreases-rounds
decreases-rounds l = l.budget - length l.attempt.learnt.items
