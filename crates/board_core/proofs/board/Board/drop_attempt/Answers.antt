use Rattle.std.proofs.Common.{sym, subst}
use Rattle.std.specs.Prelude.{IsSome}
use Rattle.entry_core.specs.Settled.{settled}
use Rattle.board_core.specs.declared.index.Index.{Index}
use Rattle.board_core.specs.State.{State}
use Rattle.board_core.specs.Kept.{IsKept}
use Rattle.board_core.proofs.Endings.{dropped_state, kept_dropped}
use Rattle.board_core.proofs.Ready.{has_attempt, ready, may_end, one_open, inside_out, written}
use Rattle.board_core.proofs.board.Board.drop_attempt.Goals as goal

pub attempted-own-requires : goal.attempted-own-requires
attempted-own-requires c = has_attempt c.self.view_is c.self.invariant c.requires.own

pub push_reserved-requires : goal.push_reserved-requires
push_reserved-requires c =
    let r = ready c.self.view_is c.self.invariant c.requires.own c.attempted-own.ensures in
    r.work.spare

pub overflow_sub-after : goal.overflow_sub-after
overflow_sub-after c = one_open (ready c.self.view_is c.self.invariant c.requires.own c.attempted-own.ensures)

pub end-requires : goal.end-requires
end-requires c = may_end (ready c.self.view_is c.self.invariant c.requires.own c.attempted-own.ensures)

pub invariant_of-self : goal.invariant_of-self
invariant_of-self c =
    let r = ready c.self.view_is c.self.invariant c.requires.own c.attempted-own.ensures in
    let is_settled = inside_out r
    (λ (board : State) job. IsSome (settled board.rules board.journal job))
    c.requires.settled in
    subst (λ (i : Index).
    IsKept (record c.self.inside { journal = c.push_reserved.new.self; index = i }))
    (sym c.end.ensures.rest)
    (kept_dropped c.self.inside c.push_reserved.new.self c.end.new.self.jobs c.end.new.self.waiting
    c.args.caller c.args.attempt r.begun c.self.invariant r.running is_settled
    (written dropped_state r c.push_reserved.ensures.items
    c.push_reserved.ensures.capacity c.end.ensures.jobs c.end.ensures.waiting))
