use Rattle.std.proofs.Common.{sym, subst}
use Rattle.board_core.specs.State.{State}
use Rattle.board_core.specs.Worked.{AreEmpty}
use Rattle.board_core.proofs.EmptyJobs.{one_more_empty}
use Rattle.board_core.proofs.tests.firsts.add.Goals as goal

pub returns : goal.returns
returns g c = subst (λ (board : State). AreEmpty board.journal) (sym c.in-Ok.ensures.ok) (one_more_empty c.args.board.now 1 c.in_ok-segment.segment c.in_ok-segment.ensures c.requires)
