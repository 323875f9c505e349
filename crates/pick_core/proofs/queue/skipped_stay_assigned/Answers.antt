use Rattle.std.proofs.Common.{◌++◌}
use Rattle.std.proofs.lemmas.List.Elements.{All-weaker}
use Rattle.pick_core.specs.Assigned.{IsAssigned}
use Rattle.pick_core.proofs.Choice.{stays_assigned}
use Rattle.pick_core.proofs.queue.skipped_stay_assigned.Goals as goal

pub returns : goal.returns
returns c = λ entries more vars all. All-weaker (IsAssigned entries) (IsAssigned (entries ++ more))
    (stays_assigned entries more) vars all
