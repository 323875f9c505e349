use Rattle.std.proofs.Common.{◌∙◌, ap}
use Rattle.std.specs.Arc.{arc_value}
use Rattle.entry_core.specs.Journal.{segments}
use Rattle.board_core.specs.State.{State}
use Rattle.board_core.specs.Replies.{job_at}
use Rattle.board_core.proofs.WorkedJob.{spent_on}
use Rattle.board_core.proofs.tests.worked.what_ends_an_attempt_at_a_cancelled_job_comes_late.Goals as goal

pub spend-requires-clause-spent : goal.spend-requires-clause-spent
spend-requires-clause-spent g c =
    let same = c.in-Err.ensures.err in
    spent_on c.starve.new.self (arc_value c.in_ok-learnt.learnt) (ap (λ (board : State). segments board.journal) same ∙ c.in_ok-board.ensures.job)
    (ap (λ (board : State). job_at board 1) same ∙ c.in_ok-board.ensures.at) (ap (λ (board : State). board.rules.conflicts) same ∙ c.in_ok-board.ensures.budget) c.in_ok-learnt.ensures
