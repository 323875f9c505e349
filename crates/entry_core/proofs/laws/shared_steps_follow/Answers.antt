use Rattle.entry_core.proofs.SharedSteps.{shared_steps_follow}
use Rattle.entry_core.proofs.laws.shared_steps_follow.Goals as goal

pub returns : goal.returns
returns c = shared_steps_follow
