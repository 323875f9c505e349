use Rattle.service.specs.Passes.{Keeps}
use Rattle.worker_loop.specs.Fits.{Fits}
use Rattle.worker_loop.specs.Slices.{IsAtWork}
use Rattle.worker_loop.specs.Work.{Rests}
use Rattle.worker_loop.proofs.serving.work.Given as goal

abbrev pub invariant-loop : goal.invariant-loop
invariant-loop g l = record {
  can : (goal.iterator-loop g).can_next l.iterator';
  ends : (goal.iterator-loop g).is_finite l.iterator';
  work : IsAtWork l.service.lock l.pass;
  rests : Rests l.service.lock l.pass;
  keeps : Keeps l.service.lock l.initial.pass l.pass;
  fits : Fits l.bench l.pass.seen;
}
