use Rattle.std.proofs.Common.{◌∙◌, ℕ, ◌+◌, ◌-◌, ap, sym, subst, arith, slice_set, if◌then◌else◌}
use Rattle.std.specs.Arc.{arc_value}
use Rattle.std.specs.Prelude.{is_some}
use Rattle.entry_core.specs.Right.{IsSpentFor}
use Rattle.board_core.specs.declared.index.JobState.{JobState}
use Rattle.board_core.specs.State.{State}
use Rattle.board_core.specs.Index.{rank_of, ended_at}
use Rattle.board_core.specs.Kept.{IsKept}
use Rattle.board_core.proofs.Overtaken.{one_at_most}
use Rattle.board_core.proofs.Endings.{spent_state, kept_spent}
use Rattle.board_core.proofs.Ready.{has_attempt, ready, may_end, one_open, none_yet, in_time, late}
use Rattle.board_core.proofs.Ready.{inside_out, written, kept_with, count_fits, spent_few}
use Rattle.board_core.proofs.board.Board.spend.Goals as goal

pub attempted-own-requires : goal.attempted-own-requires
attempted-own-requires c = has_attempt c.self.view_is c.self.invariant c.requires.own

pub push_reserved-requires : goal.push_reserved-requires
push_reserved-requires c =
    let r = ready c.self.view_is c.self.invariant c.requires.own c.attempted-own.ensures in
    r.work.spare

pub overflow_sub-after : goal.overflow_sub-after
overflow_sub-after c = one_open (ready c.self.view_is c.self.invariant c.requires.own c.attempted-own.ensures)

pub end-requires : goal.end-requires
end-requires c = may_end (ready c.self.view_is c.self.invariant c.requires.own c.attempted-own.ensures)

pub returns-in-Some-clause-late : goal.returns-in-Some-clause-late
returns-in-Some-clause-late c =
    late (ready c.self.view_is c.self.invariant c.requires.own c.attempted-own.ensures)
    c.in-Some.is c.deref.ensures.value c.outcome_in.ensures

pub returns-clause-in_time : goal.returns-clause-in_time
returns-clause-in_time c =
    in_time (ready c.self.view_is c.self.invariant c.requires.own c.attempted-own.ensures) c.in_default.is

pub overflow_add-spent : goal.overflow_add-spent
overflow_add-spent c =
    let few = spent_few (ready c.self.view_is c.self.invariant c.requires.own c.attempted-own.ensures) c.in_default.is in
    omega arith

pub overflow_add-self : goal.overflow_add-self
overflow_add-self c =
    let few = count_fits c.self.invariant c.end.ensures.rest in
    let one = one_at_most (is_some c.ending_by_budget-ending.result) _ c.newly_settled.ensures in
    omega arith

pub invariant_of-self : goal.invariant_of-self
invariant_of-self c =
    let r = ready c.self.view_is c.self.invariant c.requires.own c.attempted-own.ensures in
    let how = c.ending_by_budget-ending.ensures in
    let most : ℕ = c.self.inside.rules.attempts in
    let own : JobState = c.attempted-own.result.state in
    let job : ℕ = c.attempted-own.result.job in
    let spent = inside_out r
    (λ (board : State) job.
    IsSpentFor board.journal job board.rules.conflicts (arc_value c.args.learnt))
    c.requires.spent in
    let counted = c.newly_settled.ensures ∙ ap (λ h. if is_some h then 1 else 0) how
    ∙ ap (λ (s : JobState). if is_some (spent_state most s).ending then 1 else 0) r.state_is in
    kept_with c.self.inside c.newly_settled.result c.end.ensures.rest
    (subst (λ n. IsKept (record c.self.inside {
      journal = c.push_reserved.new.self;
      index = record (ended_at c.self.inside.index c.end.new.self) {
        settled = c.self.inside.index.settled + n;
      };
    })) (sym counted)
    (kept_spent c.self.inside c.push_reserved.new.self c.end.new.self.jobs c.end.new.self.waiting
    c.args.caller c.args.attempt c.args.learnt r.begun c.self.invariant r.running
    (none_yet r c.in_default.is) spent
    (written (spent_state most) r c.push_reserved.ensures.items c.push_reserved.ensures.capacity
    (c.end.ensures.jobs ∙ ap (λ h. slice_set c.self.inside.index.jobs.items (job - 1)
    (record { open_now = own.open_now - 1; spent = own.spent + 1; ending = h })) how)
    (c.end.ensures.waiting ∙ ap (λ h. slice_set c.self.inside.index.waiting (job - 1)
    (rank_of most job (record { open_now = own.open_now - 1; spent = own.spent + 1; ending = h })))
    how))))
