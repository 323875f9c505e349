use Rattle.board_core.specs.Worked.{AreEmpty}
use Rattle.board_core.proofs.tests.firsts.run.Given as goal

abbrev pub invariant-loop-row : goal.invariant-loop-row
invariant-loop-row g l = AreEmpty l.board.journal
