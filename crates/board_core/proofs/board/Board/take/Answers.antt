use Rattle.std.proofs.Common.{◌∙◌, ◌+◌, ◌-◌, ◌≤◌, [], ◌∷◌, ◌++◌, length, slice_set, vec_len, vec_capacity, refl, sym, subst, ap, arith}
use Rattle.std.specs.Prelude.{Result, Ok, Err, OnErr}
use Rattle.entry_core.specs.Attempts.{attempts}
use Rattle.entry_core.specs.Schedule.{IsWaiting, IsNext}
use Rattle.entry_core.specs.Legal.{IsWorker}
use Rattle.entry_core.specs.declared.entries.Event.TheVariants as event
use Rattle.board_core.specs.declared.index.JobState.{JobState}
use Rattle.board_core.specs.State.{State}
use Rattle.board_core.specs.Index.{state_at, rank_of, room}
use Rattle.board_core.proofs.Verdicts.{entry_by}
use Rattle.board_core.proofs.Keeping.{all_entered, few_begun, countable, kept_grown}
use Rattle.board_core.proofs.Attempted.{attempts_number, kept_begun}
use Rattle.board_core.proofs.Takes.{first_taken, none_taken, entered_is, begun_is_own}
use Rattle.board_core.proofs.board.Board.take.Goals as goal

pub rest-requires : goal.rest-requires
rest-requires c = λ job. subst (λ (board : State). ¬ IsWaiting board.rules board.journal job) c.self.view_is (none_taken c.self.inside c.first.result job c.self.invariant c.first.ensures c.in_default.is)

pub room-room-requires : goal.room-room-requires
room-room-requires c = countable c.self.inside c.self.invariant

pub invariant_of-self-in_err-reserve-2 : goal.invariant_of-self-in_err-reserve-2
invariant_of-self-in_err-reserve-2 c =
    kept_grown c.self.inside c.reserve-2.new.self c.self.inside.index.jobs c.self.inside.index.segments c.self.inside.index.packets c.reserve.new.self c.self.inside.index.waiting c.self.invariant
    c.reserve-2.ensures.items c.reserve-2.ensures.capacity refl refl refl c.reserve.ensures.items refl

pub overflow_cast-attempt : goal.overflow_cast-attempt
overflow_cast-attempt c =
    let few = few_begun c.self.inside c.self.invariant in
    let number = attempts_number c.self.inside c.self.invariant in
    let count = c.len-begun.ensures in
    omega arith

pub overflow_add-attempt : goal.overflow_add-attempt
overflow_add-attempt c =
    let few = few_begun c.self.inside c.self.invariant in
    let number = attempts_number c.self.inside c.self.invariant in
    let count = c.len-begun.ensures in
    omega arith

pub overflow_add-after : goal.overflow_add-after
overflow_add-after c =
    let next = first_taken c.self.inside c.in-Some.rank c.first.result c.self.invariant c.first.ensures c.in-Some.is in
    let allowed = next.waiting.allowed in
    let limit = c.self.invariant.limits.few_attempts in
    let before = c.state-before.ensures ∙ ap (λ states. state_at states c.in-Some.rank.job) c.deref.ensures.value in
    let opened = ap (λ (s : JobState). s.open_now) before ∙ (c.self.invariant.index.states c.in-Some.rank.job).open_now in
    omega arith

pub state-before-requires-clause-from_one : goal.state-before-requires-clause-from_one
state-before-requires-clause-from_one c = (first_taken c.self.inside c.in-Some.rank c.first.result c.self.invariant c.first.ensures c.in-Some.is).waiting.from_one

pub state-before-requires-clause-there : goal.state-before-requires-clause-there
state-before-requires-clause-there c =
    let next = first_taken c.self.inside c.in-Some.rank c.first.result c.self.invariant c.first.ensures c.in-Some.is in
    let added = next.waiting.added in
    let count = c.self.invariant.index.jobs in
    let same = ap length c.deref.ensures.value in
    omega arith

pub put-requires-clause-from_one : goal.put-requires-clause-from_one
put-requires-clause-from_one c = (first_taken c.self.inside c.in-Some.rank c.first.result c.self.invariant c.first.ensures c.in-Some.is).waiting.from_one

pub put-requires-clause-there : goal.put-requires-clause-there
put-requires-clause-there c =
    let next = first_taken c.self.inside c.in-Some.rank c.first.result c.self.invariant c.first.ensures c.in-Some.is in
    let added = next.waiting.added in
    let count = c.self.invariant.index.jobs in
    omega arith

pub put-requires-clause-entered : goal.put-requires-clause-entered
put-requires-clause-entered c = all_entered c.self.inside c.self.invariant

pub invariant_of-self-2 : goal.invariant_of-self-2
invariant_of-self-2 c =
    let next = first_taken c.self.inside c.in-Some.rank c.first.result c.self.invariant c.first.ensures c.in-Some.is in
    let before = c.state-before.ensures ∙ ap (λ states. state_at states c.in-Some.rank.job) c.deref.ensures.value in
    let spare : vec_len c.self.inside.journal + (room c.self.inside.index + 2) ≤ vec_capacity c.push_reserved.new.self =
    let made = c.in_ok-reserve-2.ensures.ok in let same = c.push_reserved.ensures.capacity in let owed = c.room-room.ensures in let size = c.reserve-2.ensures.len in omega arith in
    kept_begun c.self.inside c.push_reserved.new.self c.put.new.jobs c.push_reserved-2.new.self c.put.new.waiting c.args.caller c.in-Some.rank.job (c.len-begun.result + 1) c.self.invariant
    (subst (λ (board : State). IsWorker board.rules c.args.caller) (sym c.self.view_is) c.requires.worker) next (ap (λ n. n + 1) c.len-begun.ensures)
    (c.push_reserved.ensures.items ∙ ap (λ xs. xs ++ entry_by c.args.caller (event.Began c.in-Some.rank.job (c.len-begun.result + 1)) ∷ []) c.reserve-2.ensures.items) spare
    (c.push_reserved-2.ensures.items ∙ ap (λ xs. xs ++ c.in-Some.rank.job ∷ []) c.reserve.ensures.items)
    (c.put.ensures.jobs ∙ ap (λ (s : JobState). slice_set c.self.inside.index.jobs.items (c.in-Some.rank.job - 1) (record s { open_now = s.open_now + 1 })) before)
    (c.put.ensures.waiting ∙ ap (λ (s : JobState). slice_set c.self.inside.index.waiting (c.in-Some.rank.job - 1) (rank_of c.self.inside.rules.attempts c.in-Some.rank.job (record s { open_now = s.open_now + 1 }))) before)

-- what holds anyway holds of an error
on_err : {T E : Type 0} (answer : Result T E) (P : Type 0) → P → OnErr answer P
on_err (Ok value) P holds = tt
on_err (Err why) P holds = holds

pub returns-in_err-reserve-clause-wanted : goal.returns-in_err-reserve-clause-wanted
returns-in_err-reserve-clause-wanted c = on_err c.from_residual.result _ (
  c.in-Some.rank.job,
  subst (λ (board : State). IsNext board.rules board.journal c.in-Some.rank.job) c.self.view_is
      (first_taken c.self.inside c.in-Some.rank c.first.result c.self.invariant c.first.ensures c.in-Some.is),
)

pub returns-in_err-reserve-2-clause-wanted : goal.returns-in_err-reserve-2-clause-wanted
returns-in_err-reserve-2-clause-wanted c = on_err c.from_residual-in_err-reserve-2.result _ (
  c.in-Some.rank.job,
  subst (λ (board : State). IsNext board.rules board.journal c.in-Some.rank.job) c.self.view_is
      (first_taken c.self.inside c.in-Some.rank c.first.result c.self.invariant c.first.ensures c.in-Some.is),
)

pub returns-clause-task : goal.returns-clause-task
returns-clause-task c =
    let next = first_taken c.self.inside c.in-Some.rank c.first.result c.self.invariant c.first.ensures c.in-Some.is in
    let numbered = ap (λ n. n + 1) (c.len-begun.ensures ∙ attempts_number c.self.inside c.self.invariant) ∙ ap (λ (board : State). length (attempts board.journal) + 1) c.self.view_is in
    let adds = entered_is c.self.inside c.args.self.now c.args.caller (event.Began c.in-Some.rank.job (c.len-begun.result + 1)) c.push_reserved.new.self.items c.self.view_is
    (c.push_reserved.ensures.items ∙ ap (λ xs. xs ++ entry_by c.args.caller (event.Began c.in-Some.rank.job (c.len-begun.result + 1)) ∷ []) c.reserve-2.ensures.items) in
    record {
      next = subst (λ (board : State). IsNext board.rules board.journal c.in-Some.rank.job) c.self.view_is next;
      numbered = numbered;
      adds = adds;
      own = begun_is_own c.self.inside c.args.self.now _ c.args.caller c.in-Some.rank.job (c.len-begun.result + 1) c.self.invariant c.self.view_is numbered adds;
    }
