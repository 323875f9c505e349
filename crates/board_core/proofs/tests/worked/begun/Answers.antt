use Rattle.std.proofs.Common.{◌≡◌, ◌∙◌, length, refl, ap, arith}
use Rattle.entry_core.specs.declared.entries.Event.TheVariants as event
use Rattle.entry_core.specs.Journal.{segments, jobs}
use Rattle.board_core.specs.State.{State}
use Rattle.board_core.specs.Replies.{job_at}
use Rattle.board_core.proofs.WorkedJob.{begun_at, kept, first_attempt}
use Rattle.board_core.proofs.tests.worked.begun.Goals as goal

pub returns-clause-job : goal.returns-clause-job
returns-clause-job g c =
    let task = c.in-Job-eq1-eq1 in
    let begun = begun_at c.in_ok-board.board c.take.new.self 3 task.job task.attempt c.in_ok-take.field-0 task.is c.in_ok-take.ensures.task in
    ap (λ (board : State). segments board.journal) begun.adds ∙ kept c.in_ok-board.board 3 (event.Began task.job task.attempt) refl c.in_ok-board.ensures.job

pub returns-clause-at : goal.returns-clause-at
returns-clause-at g c =
    let task = c.in-Job-eq1-eq1 in
    let begun = begun_at c.in_ok-board.board c.take.new.self 3 task.job task.attempt c.in_ok-take.field-0 task.is c.in_ok-take.ensures.task in
    let one_job : jobs c.in_ok-board.board.journal ≡ 1 = ap length c.in_ok-board.ensures.job in
    let first_job : task.job ≡ 1 = omega (arith, one_job, begun.next.waiting.from_one, begun.next.waiting.added) in
    ap (λ (board : State). job_at board 1) begun.adds ∙ first_attempt c.in_ok-board.board 3 task.job task.attempt c.in_ok-board.ensures.nothing_begun ∙ first_job

pub returns-clause-budget : goal.returns-clause-budget
returns-clause-budget g c =
    let task = c.in-Job-eq1-eq1 in
    let begun = begun_at c.in_ok-board.board c.take.new.self 3 task.job task.attempt c.in_ok-take.field-0 task.is c.in_ok-take.ensures.task in
    ap (λ (board : State). board.rules.conflicts) begun.adds ∙ c.in_ok-board.ensures.budget
