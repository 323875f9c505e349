use Rattle.std.proofs.Common.{◌∙◌, refl, ap, subst, sym}
use Rattle.entry_core.specs.declared.entries.Event.TheVariants as event
use Rattle.entry_core.specs.Journal.{segments}
use Rattle.board_core.specs.State.{State}
use Rattle.board_core.specs.Replies.{IsOwn, job_at}
use Rattle.board_core.proofs.WorkedJob.{kept, same_attempt, same_own}
use Rattle.board_core.proofs.tests.worked.cancelled.Goals as goal

pub returns-clause-job : goal.returns-clause-job
returns-clause-job g c =
    ap (λ (board : State). segments board.journal) c.in-Ok.ensures.ok ∙ kept c.in_ok-board.board 2 (event.Cancelled 1) refl c.in_ok-board.ensures.job

pub returns-clause-own : goal.returns-clause-own
returns-clause-own g c =
    subst (λ (board : State). IsOwn board 3 1) (sym c.in-Ok.ensures.ok) (same_own c.in_ok-board.board 2 3 1 (event.Cancelled 1) refl refl c.in_ok-board.ensures.own)

pub returns-clause-at : goal.returns-clause-at
returns-clause-at g c =
    ap (λ (board : State). job_at board 1) c.in-Ok.ensures.ok ∙ same_attempt c.in_ok-board.board 2 (event.Cancelled 1) refl ∙ c.in_ok-board.ensures.at
