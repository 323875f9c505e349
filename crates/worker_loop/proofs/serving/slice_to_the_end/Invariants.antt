use Rattle.std.proofs.Common.{◌≡◌, ◌-◌, ◌<◌, length}
use Rattle.worker_loop.specs.Slices.{GoesOnOpen, HasLearntSince, IsUnderWay}
use Rattle.worker_loop.proofs.serving.slice_to_the_end.Given as goal

abbrev pub invariant-slices : goal.invariant-slices
invariant-slices g l = record {
  on : GoesOnOpen l.service.lock l.fn.pass l.pass l.fn.attempt.number l.fn.attempt.job;
  under_way : IsUnderWay l.service.lock l.pass l.bench l.attempt;
  left : length l.attempt.learnt.items < l.service.lock.basis.conflicts;
  job : l.attempt.job ≡ l.fn.attempt.job;
  learnt : HasLearntSince l.fn.bench.session.solver l.bench.session.solver l.fn.attempt l.attempt l.service.lock.basis.conflicts;
  number : l.attempt.number ≡ l.fn.attempt.number;
}

abbrev pub decreases-slices : goal.decreases-slices
decreases-slices g l = l.service.lock.basis.conflicts - length l.attempt.learnt.items
