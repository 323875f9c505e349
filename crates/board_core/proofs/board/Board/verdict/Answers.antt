use Rattle.std.proofs.Common.{◌≡◌, ◌∙◌, Some, ap, subst}
use Rattle.trace_core.specs.Known.{item_at}
use Rattle.board_core.specs.State.{State}
use Rattle.board_core.specs.Index.{verdict_in}
use Rattle.board_core.specs.Replies.{HasVerdict}
use Rattle.board_core.proofs.Looked.{has_verdict}
use Rattle.board_core.proofs.board.Board.verdict.Goals as goal

pub returns-in_ok-verdict_of-in-Some-ending-clause-ok : goal.returns-in_ok-verdict_of-in-Some-ending-clause-ok
returns-in_ok-verdict_of-in-Some-ending-clause-ok c =
    let is : item_at c.self.inside.index.jobs.items c.args.job ≡ Some c.in-Some.state = cc in
    subst (λ (board : State). HasVerdict board c.args.job c.in_ok-verdict_of-in-Some-ending.field-0) c.self.view_is
    (has_verdict c.self.inside c.args.job c.in-Some.state c.in-Some-ending.how c.in_ok-verdict_of-in-Some-ending.field-0 c.self.invariant is c.in-Some-ending.is
    (λ given h. c.in_ok-verdict_of-in-Some-ending.ensures given (ap (λ journal. verdict_in journal c.in-Some-ending.how) c.deref.ensures.value ∙ h)))
