use Rattle.service.proofs.Again.{outcomes_are_read_again}
use Rattle.service.proofs.laws.outcomes_are_read_again.Goals as goal

pub returns : goal.returns
returns c = outcomes_are_read_again
