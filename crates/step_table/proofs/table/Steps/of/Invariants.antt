use Rattle.std.proofs.Common.{◌≡◌, take}
use Rattle.step_table.proofs.table.Steps.of.Given as goal

abbrev pub invariant-loop-step : goal.invariant-loop-step
invariant-loop-step l = l.table ≡ take l.step-index l.steps
