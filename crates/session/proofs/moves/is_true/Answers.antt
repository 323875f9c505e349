use Rattle.session.proofs.Choices.{value_decides}
use Rattle.session.proofs.moves.is_true.Goals as goal

pub returns-in-Some-clause-value : goal.returns-in-Some-clause-value
returns-in-Some-clause-value c = value_decides c.args.trail.now c.args.lit c.in-Some.value c.value.ensures.trail c.in-Some.ensures.value
