use Rattle.std.proofs.Common.{subst, sym}
use Rattle.std.specs.Arc.{arc_value}
use Rattle.trace_core.specs.Known.{Known}
use Rattle.session.specs.Sharing.{IsTakable}
use Rattle.session.specs.Session.{SessionView}
use Rattle.session.proofs.tests.informed.Goals as goal

pub import-requires-clause-takable : goal.import-requires-clause-takable
import-requires-clause-takable g c = subst (λ (session : SessionView). (one : Known)
    × IsTakable session.solver (arc_value c.args.packet.now) one)
    (sym c.in_ok-session.ensures) c.requires
