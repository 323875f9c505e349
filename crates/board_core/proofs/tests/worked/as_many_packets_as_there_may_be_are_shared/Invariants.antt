use Rattle.std.proofs.Common.{◌≡◌, [], ◌∷◌}
use Rattle.std.specs.Arc.{arc_value}
use Rattle.entry_core.specs.Journal.{segments}
use Rattle.board_core.specs.Worked.{worked_job, worked_step}
use Rattle.board_core.proofs.tests.worked.as_many_packets_as_there_may_be_are_shared.Given as goal

abbrev pub invariant-loop-place : goal.invariant-loop-place
invariant-loop-place g l = record {
  job : segments l.board.journal ≡ worked_job ∷ [];
  step : arc_value l.packet ≡ worked_step ∷ [];
}
