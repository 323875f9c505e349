use Rattle.std.proofs.Common.{ap}
use Rattle.service.proofs.Made.{adds_none}
use Rattle.service.proofs.tests.a_try_is_refused_while_another_pass_has_the_turn.Goals as goal

pub leave-requires-clause-added : goal.leave-requires-clause-added
leave-requires-clause-added g c =
    adds_none c.hold-held.new.pass.number c.hold-held.new.pass.seen c.hold-held.result.value.journal (ap (λ p. p.seen) c.hold-held.ensures.pass.2)
