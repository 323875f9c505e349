use Rattle.std.proofs.Common.{◌∙◌, ◌-◌, Some, sym, subst, ap, slice_set, arith}
use Rattle.entry_core.specs.Legal.{IsClient}
use Rattle.board_core.specs.declared.index.JobState.{JobState}
use Rattle.board_core.specs.declared.index.Ending.TheVariants as ending
use Rattle.board_core.specs.State.{State}
use Rattle.board_core.specs.Index.{state_at, rank_of}
use Rattle.board_core.specs.Kept.{state_of}
use Rattle.board_core.specs.Replies.{IsUnsettled}
use Rattle.board_core.proofs.Keeping.{all_entered, room_for_end, settled_few, kept_cancelled}
use Rattle.board_core.proofs.board.Board.cancel.Goals as goal

pub push_reserved-requires : goal.push_reserved-requires
push_reserved-requires c =
    let unsettled : IsUnsettled (state_of c.self.inside) c.args.job = subst (λ (board : State). IsUnsettled board c.args.job) (sym c.self.view_is) (rw c.in-Err-NotYet.field-0-is at c.in-Err-NotYet.ensures.err) in
    room_for_end c.self.inside c.args.job c.self.invariant unsettled

pub overflow_add-self : goal.overflow_add-self
overflow_add-self c = let few = settled_few c.self.inside c.self.invariant in omega arith

pub put-requires-clause-entered : goal.put-requires-clause-entered
put-requires-clause-entered c = all_entered c.self.inside c.self.invariant

pub invariant_of-self : goal.invariant_of-self
invariant_of-self c =
    let unsettled : IsUnsettled (state_of c.self.inside) c.args.job = subst (λ (board : State). IsUnsettled board c.args.job) (sym c.self.view_is) (rw c.in-Err-NotYet.field-0-is at c.in-Err-NotYet.ensures.err) in
    let before = c.state-before.ensures ∙ ap (λ states. state_at states c.args.job) c.deref.ensures.value in
    kept_cancelled c.self.inside c.push_reserved.new.self c.put.new.jobs c.put.new.waiting c.args.caller c.args.job c.self.invariant
    (subst (λ (board : State). IsClient board.rules c.args.caller) (sym c.self.view_is) c.requires.client) unsettled
    c.push_reserved.ensures.items c.push_reserved.ensures.capacity
    (c.put.ensures.jobs ∙ ap (λ (state : JobState). slice_set c.self.inside.index.jobs.items (c.args.job - 1) (record state { ending = Some (ending.Cancelled 0) })) before)
    (c.put.ensures.waiting ∙ ap (λ (state : JobState). slice_set c.self.inside.index.waiting (c.args.job - 1) (rank_of c.self.inside.rules.attempts c.args.job (record state { ending = Some (ending.Cancelled 0) }))) before)
