use Rattle.std.proofs.Common.{refl, sym, subst}
use Rattle.entry_core.specs.declared.entries.Event.TheVariants as event
use Rattle.entry_core.specs.Right.{IsRightAnswer}
use Rattle.board_core.specs.State.{State}
use Rattle.board_core.specs.Replies.{job_at}
use Rattle.board_core.specs.Worked.{AreEmpty}
use Rattle.board_core.proofs.EmptyJobs.{empty_right, still_empty, empty_told}
use Rattle.board_core.proofs.tests.firsts.answer.Goals as goal

pub decide-requires-clause-right : goal.decide-requires-clause-right
decide-requires-clause-right g c =
    let empty : AreEmpty c.take.new.self.journal = empty_told c.args.board.now c.take.new.self 2 c.in_ok-job.field-0 c.in_ok-job.ensures.task c.requires in
    subst (IsRightAnswer c.take.new.self.rules.traces c.take.new.self.journal (job_at c.take.new.self c.in-Job.attempt)) (sym c.in_ok-model.ensures)
    (empty_right c.take.new.self.rules.traces c.take.new.self.journal (job_at c.take.new.self c.in-Job.attempt) empty)

pub returns : goal.returns
returns g c =
    let empty : AreEmpty c.take.new.self.journal = empty_told c.args.board.now c.take.new.self 2 c.in_ok-job.field-0 c.in_ok-job.ensures.task c.requires in
    subst (λ (board : State). AreEmpty board.journal) (sym c.in-Ok.ensures.ok) (still_empty c.take.new.self 2 (event.Decided c.in-Job.attempt c.in_ok-model.model) refl empty)
