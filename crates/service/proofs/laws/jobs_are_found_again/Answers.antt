use Rattle.service.proofs.Again.{jobs_are_found_again}
use Rattle.service.proofs.laws.jobs_are_found_again.Goals as goal

pub returns : goal.returns
returns c = jobs_are_found_again
