use Rattle.entry_core.proofs.DecidedOnce.{jobs_are_decided_once}
use Rattle.entry_core.proofs.laws.jobs_are_decided_once.Goals as goal

pub returns : goal.returns
returns c = jobs_are_decided_once
