use Rattle.std.proofs.Common.{sym, subst}
use Rattle.entry_core.specs.Legal.{IsClient}
use Rattle.board_core.specs.State.{State}
use Rattle.board_core.proofs.Keeping.{kept_closed}
use Rattle.board_core.proofs.board.Board.close_input.Goals as goal

pub invariant_of-self : goal.invariant_of-self
invariant_of-self c =
    kept_closed c.self.inside c.push_reserved.new.self c.args.caller c.len.result c.self.invariant
    (subst (λ (board : State). IsClient board.rules c.args.caller) (sym c.self.view_is) c.requires.client) c.in_default.is
    c.push_reserved.ensures.items c.push_reserved.ensures.capacity c.len.ensures
