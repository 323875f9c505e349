use Rattle.std.proofs.Common.{◌≡◌, ◌∙◌, Some, ap, subst}
use Rattle.trace_core.specs.Known.{item_at}
use Rattle.board_core.specs.State.{State}
use Rattle.board_core.specs.Index.{verdict_in}
use Rattle.board_core.specs.Replies.{HasOutcome}
use Rattle.board_core.proofs.Looked.{has_outcome}
use Rattle.board_core.proofs.board.Board.outcome.Goals as goal

pub returns-in-Some-ending-clause-ok : goal.returns-in-Some-ending-clause-ok
returns-in-Some-ending-clause-ok c =
    let is : item_at c.self.inside.index.jobs.items c.args.job ≡ Some c.in-Some.state = cc in
    subst (λ (board : State). HasOutcome board c.args.job c.outcome_in.result) c.self.view_is
    (has_outcome c.self.inside c.args.job c.in-Some.state c.in-Some-ending.how c.outcome_in.result c.self.invariant is c.in-Some-ending.is
    (λ given h. c.outcome_in.ensures given (ap (λ journal. verdict_in journal c.in-Some-ending.how) c.deref.ensures.value ∙ h)))
