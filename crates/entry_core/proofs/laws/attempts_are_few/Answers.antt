use Rattle.entry_core.proofs.FewAttempts.{attempts_are_few}
use Rattle.entry_core.proofs.laws.attempts_are_few.Goals as goal

pub returns : goal.returns
returns c = attempts_are_few
