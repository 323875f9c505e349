use Rattle.service.proofs.Again.{verdicts_are_read_again}
use Rattle.service.proofs.laws.verdicts_are_read_again.Goals as goal

pub returns : goal.returns
returns c = verdicts_are_read_again
