use Rattle.std.proofs.Common.{List}
use Rattle.service.specs.Passes.{BoardPass, Keeps}
use Rattle.service.specs.Holds.{LookedInVain}
use Rattle.service.proofs.service.Service.wait_result.Given as goal

abbrev pub invariant-loop : goal.invariant-loop
invariant-loop g l = record {
  can : (goal.iterator-loop g).can_next l.iterator';
  ends : (goal.iterator-loop g).is_finite l.iterator';
  keeps : Keeps l.self.lock l.initial.pass l.pass;
  waits : (looks : List BoardPass) × LookedInVain l.self.lock l.job l.initial.pass looks l.pass;
}
