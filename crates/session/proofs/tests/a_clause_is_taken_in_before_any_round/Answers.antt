use Rattle.std.proofs.Common.{◌∙◌}
use Rattle.std.specs.Arc.{arc_value}
use Rattle.session.proofs.Takable.{two_takable}
use Rattle.session.proofs.tests.a_clause_is_taken_in_before_any_round.Goals as goal

pub informed-requires : goal.informed-requires
informed-requires g c = two_takable c.deref.result.now (arc_value c.in_ok-packet.packet)
    (c.deref.ensures.value ∙ c.in_ok-clauses.ensures) c.in_ok-packet.ensures
