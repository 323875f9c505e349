use Rattle.pick_core.proofs.Choice.{free_before}
use Rattle.pick_core.proofs.scores.free_variables_wait_on.Goals as goal

pub returns : goal.returns
returns c = λ entries more view wait var low high free. wait var low high (free_before entries more var free)
