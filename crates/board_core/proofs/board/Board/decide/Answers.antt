use Rattle.std.proofs.Common.{◌≡◌, ◌∙◌, ◌+◌, ◌&&◌, false, length, ap, sym, subst, arith}
use Rattle.std.specs.Arc.{arc_value}
use Rattle.entry_core.specs.Right.{IsRightAnswer}
use Rattle.board_core.specs.declared.index.Ending.TheVariants as ending
use Rattle.entry_core.specs.Settled.{is_model}
use Rattle.entry_core.specs.declared.entries.Event.TheVariants as event
use Rattle.board_core.specs.declared.index.Index.{Index}
use Rattle.board_core.specs.State.{State}
use Rattle.board_core.specs.Index.{state_at, ended_at}
use Rattle.board_core.specs.Overtaking.{last_of, overtaken_at, AreOvertaken, MayOvertake}
use Rattle.board_core.proofs.Cancelling.{may_overtake, kept_overtaken, both_true}
use Rattle.board_core.proofs.Endings.{settled_state, IsWritten, kept_decided}
use Rattle.board_core.proofs.Ready.{has_attempt, ready, may_end, one_open, none_yet, in_time, late}
use Rattle.board_core.proofs.Ready.{inside_out, written, kept_with, count_fits}
use Rattle.board_core.proofs.board.Board.decide.Goals as goal

pub attempted-own-requires : goal.attempted-own-requires
attempted-own-requires c = has_attempt c.self.view_is c.self.invariant c.requires.own

pub push_reserved-requires : goal.push_reserved-requires
push_reserved-requires c =
    let r = ready c.self.view_is c.self.invariant c.requires.own c.attempted-own.ensures in
    r.work.spare

pub overflow_sub-after : goal.overflow_sub-after
overflow_sub-after c = one_open (ready c.self.view_is c.self.invariant c.requires.own c.attempted-own.ensures)

pub end-requires : goal.end-requires
end-requires c = may_end (ready c.self.view_is c.self.invariant c.requires.own c.attempted-own.ensures)

pub returns-in-Some-clause-late : goal.returns-in-Some-clause-late
returns-in-Some-clause-late c =
    late (ready c.self.view_is c.self.invariant c.requires.own c.attempted-own.ensures)
    c.in-Some.is c.deref.ensures.value c.outcome_in.ensures

pub returns-clause-in_time : goal.returns-clause-in_time
returns-clause-in_time c =
    in_time (ready c.self.view_is c.self.invariant c.requires.own c.attempted-own.ensures) c.in_default.is

pub overflow_add-self : goal.overflow_add-self
overflow_add-self c = let few = count_fits c.self.invariant c.end.ensures.rest in omega arith

-- the index before the walk over the later jobs
early : (old new : Index) → new ≡ ended_at old new →
    record new { settled = new.settled + 1 } ≡
    record (ended_at old (record new { settled = new.settled + 1 })) { settled = old.settled + 1 }
early old new rest = ap (λ (i : Index). record i { settled = i.settled + 1 }) rest

pub overtake-requires : goal.overtake-requires
overtake-requires c =
    let r = ready c.self.view_is c.self.invariant c.requires.own c.attempted-own.ensures in
    let mid : Index = record c.end.new.self { settled = c.end.new.self.settled + 1 } in
    let wrote : IsWritten c.self.inside c.push_reserved.new.self c.end.new.self.jobs
    c.end.new.self.waiting c.args.caller (event.Decided c.args.attempt c.args.answer) r.begun.job
    (settled_state (ending.Answered c.len-place.result)
    (state_at c.self.inside.index.jobs.items r.begun.job)) =
    written (settled_state (ending.Answered c.len-place.result)) r c.push_reserved.ensures.items
    c.push_reserved.ensures.capacity c.end.ensures.jobs c.end.ensures.waiting in
    subst (MayOvertake c.self.inside.rules.attempts mid) (sym r.job_is)
    (may_overtake c.self.inside mid c.args.caller c.args.attempt c.len-place.result r.begun
    c.self.invariant r.running (none_yet r c.in_default.is) (early c.self.inside.index c.end.new.self c.end.ensures.rest)
    wrote.state_is wrote.ranked)

pub invariant_of-self : goal.invariant_of-self
invariant_of-self c =
    let r = ready c.self.view_is c.self.invariant c.requires.own c.attempted-own.ensures in
    let right = inside_out r
    (λ (board : State) job. IsRightAnswer board.rules.traces board.journal job (arc_value c.args.answer))
    c.requires.right in
    let nobody : (c.self.inside.rules.first && is_model (arc_value c.args.answer)) ≡ false =
    sym (c.cancels_later-cancels.ensures
    ∙ ap (λ given. c.self.inside.rules.first && is_model given) c.deref-2.ensures)
    ∙ c.if-not-cancels.true in
    kept_with c.self.inside 1 c.end.ensures.rest
    (kept_decided c.self.inside c.push_reserved.new.self c.end.new.self.jobs c.end.new.self.waiting
    c.args.caller c.args.attempt c.len-place.result c.args.answer r.begun c.self.invariant r.running
    (none_yet r c.in_default.is) right c.len-place.ensures nobody
    (written (settled_state (ending.Answered c.len-place.result)) r c.push_reserved.ensures.items
    c.push_reserved.ensures.capacity c.end.ensures.jobs c.end.ensures.waiting))

pub invariant_of-self-2 : goal.invariant_of-self-2
invariant_of-self-2 c =
    let r = ready c.self.view_is c.self.invariant c.requires.own c.attempted-own.ensures in
    let right = inside_out r
    (λ (board : State) job. IsRightAnswer board.rules.traces board.journal job (arc_value c.args.answer))
    c.requires.right in
    let both = both_true c.self.inside.rules.first (is_model (arc_value c.args.answer))
    (sym (c.cancels_later-cancels.ensures
    ∙ ap (λ given. c.self.inside.rules.first && is_model given) c.deref-2.ensures)
    ∙ c.if-not-cancels.false) in
    let mid : Index = record c.end.new.self { settled = c.end.new.self.settled + 1 } in
    let wrote : IsWritten c.self.inside c.push_reserved.new.self c.end.new.self.jobs
    c.end.new.self.waiting c.args.caller (event.Decided c.args.attempt c.args.answer) r.begun.job
    (settled_state (ending.Answered c.len-place.result)
    (state_at c.self.inside.index.jobs.items r.begun.job)) =
    written (settled_state (ending.Answered c.len-place.result)) r c.push_reserved.ensures.items
    c.push_reserved.ensures.capacity c.end.ensures.jobs c.end.ensures.waiting in
    kept_overtaken c.self.inside c.push_reserved.new.self mid c.overtake.new.self
    c.args.caller c.args.attempt c.len-place.result c.args.answer r.begun c.self.invariant r.running
    (none_yet r c.in_default.is) right c.len-place.ensures both.0 both.1 wrote.entry wrote.capacity
    (record {
      early = early c.self.inside.index c.end.new.self c.end.ensures.rest;
      written = wrote.state_is;
      walked = subst (λ job. AreOvertaken job (last_of mid.models (length mid.jobs.items))
          mid.jobs.items c.overtake.new.self.jobs.items) r.job_is c.overtake.ensures.jobs;
      ranked = c.overtake.ensures.ranked;
      counted = c.overtake.ensures.settled;
      no_fewer = c.overtake.ensures.no_fewer;
      rest = subst (λ job. c.overtake.new.self ≡ overtaken_at mid c.overtake.new.self job)
          r.job_is c.overtake.ensures.rest;
    })
