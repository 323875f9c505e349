use Rattle.std.specs.Arc.{arc_value}
use Rattle.board_core.proofs.WorkedJob.{spent_on}
use Rattle.board_core.proofs.tests.worked.a_job_whose_attempts_used_up_their_budget_is_spent.Goals as goal

pub spend-requires-clause-spent : goal.spend-requires-clause-spent
spend-requires-clause-spent g c =
    spent_on c.in_ok-board.board (arc_value c.in_ok-learnt.learnt) c.in_ok-board.ensures.job c.in_ok-board.ensures.at c.in_ok-board.ensures.budget c.in_ok-learnt.ensures
