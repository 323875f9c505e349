use Rattle.service.specs.Passes.{Keeps}
use Rattle.service.proofs.tests.work.Given as goal

abbrev pub invariant-loop : goal.invariant-loop
invariant-loop g l = record {
  can : (goal.iterator-loop g).can_next l.iterator';
  ends : (goal.iterator-loop g).is_finite l.iterator';
  keeps : Keeps l.service.lock l.initial.pass l.pass;
}
