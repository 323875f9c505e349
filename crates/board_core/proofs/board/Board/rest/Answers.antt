use Rattle.std.proofs.Common.{◌∙◌, ℕ, sym, subst}
use Rattle.entry_core.specs.Schedule.{IsWaiting}
use Rattle.board_core.specs.State.{State}
use Rattle.board_core.specs.Replies.{IsDone, IsIdle}
use Rattle.board_core.proofs.Takes.{done, idle_open, idle_unsettled}
use Rattle.board_core.proofs.board.Board.rest.Goals.{else-is_some-via-then-is_some+else-self-len, else-is_some-via-else-is_some}
use Rattle.board_core.proofs.board.Board.rest.Goals as goal

pub returns-then-self-len : goal.returns-then-self-len
returns-then-self-len c = subst IsDone c.self.view_is (done c.self.inside c.self.invariant (sym c.is_some.ensures ∙ c.if-is_some.true) (c.if-self-len.true ∙ c.len.ensures))

pub returns-else-is_some : goal.returns-else-is_some
returns-else-is_some c =
    let nobody : (job : ℕ) → ¬ IsWaiting c.self.inside.rules c.self.inside.journal.items job = λ job. subst (λ (board : State). ¬ IsWaiting board.rules board.journal job) (sym c.self.view_is) (c.requires job) in
    subst IsIdle c.self.view_is (elim c.else-is_some.branch [
      | else-is_some-via-then-is_some+else-self-len w ↦ idle_unsettled c.self.inside c.self.invariant (λ same. w.if-self-len.false (same ∙ sym w.len.ensures)) nobody
      | else-is_some-via-else-is_some w ↦ idle_open c.self.inside c.self.invariant (sym c.is_some.ensures ∙ w.if-is_some.false) nobody
    ])
