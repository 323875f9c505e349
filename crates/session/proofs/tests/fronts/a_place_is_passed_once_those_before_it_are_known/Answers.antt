use Rattle.std.proofs.Common.{◌∙◌, sym, subst}
use Rattle.std.specs.Arc.{arc_value}
use Rattle.trace_core.specs.Known.{Known}
use Rattle.session.specs.Session.{SessionView}
use Rattle.session.specs.Sharing.{IsTakable}
use Rattle.session.proofs.Takable.{two_takable}
use Rattle.session.proofs.tests.fronts.a_place_is_passed_once_those_before_it_are_known.Goals as goal

pub take_at-requires : goal.take_at-requires
take_at-requires g c =
    let packet = arc_value c.in_ok-packet.packet in
    subst (λ (session : SessionView). (one : Known) × IsTakable session.solver packet one)
    (sym c.in_ok-session.ensures)
    (two_takable c.deref.result.now packet (c.deref.ensures.value ∙ c.in_ok-clauses.ensures)
    c.in_ok-packet.ensures)
