use Rattle.std.proofs.Common.{◌∙◌, length, ap}
use Rattle.session.specs.Session.{SessionView}
use Rattle.session.proofs.session.Session.inputs.Goals as goal

pub returns : goal.returns
returns c = c.self.invariant.kept.counted.inputs_are
    ∙ ap (λ (view : SessionView). length view.solver.inputs) c.self.view_is
