use Rattle.std.proofs.Common.{subst}
use Rattle.session.specs.Solver.{IsSound}
use Rattle.session.proofs.Sound.{sound}
use Rattle.session.specs.Session.{SessionView}
use Rattle.session.proofs.session.Session.steps.Goals as goal

pub returns-clause-sound : goal.returns-clause-sound
returns-clause-sound c = subst (λ (view : SessionView). IsSound view.solver) c.self.view_is
    (sound c.self.inside.search c.self.invariant.kept)
