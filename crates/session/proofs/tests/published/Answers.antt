use Rattle.std.proofs.Common.{sym}
use Rattle.std.specs.Arc.{arc_value}
use Rattle.session.specs.Loading.{loaded}
use Rattle.session.specs.Session.{no_inputs}
use Rattle.session.proofs.Takable.{takable_over}
use Rattle.session.proofs.tests.published.Goals as goal

pub returns : goal.returns
returns g c =
    let session = c.in_ok-session.session in
    let is = c.in_ok-session.ensures in
    takable_over session.solver (loaded no_inputs c.args.clauses.now)
    (arc_value c.in_ok-packet.packet) (sym is.inputs)
    (sym is.bound) c.in_ok-packet.ensures.takable
