-- An attempt that is about to end, as the calls that end it find it.
use Rattle.std.proofs.Common.{◌≡◌, ◌∙◌, ℕ, ◌+◌, ◌-◌, ◌<◌, ◌≤◌, Option, Some, None, List, [], ◌∷◌, ◌++◌, length, refl, ap, sym, subst, arith, Vec, vec_capacity}
use Rattle.std.specs.Prelude.{false, nat_le, IsSome, slice_set}
use Rattle.std.proofs.lemmas.Bool.Decides.{nat_tests}
use Rattle.std.specs.declared.alloc.Global.{Global}
use Rattle.board_core.specs.declared.rank.Rank.{Rank}
use Rattle.entry_core.specs.declared.answers.Outcome.{Outcome}
use Rattle.entry_core.specs.declared.answers.Verdict.{Verdict}
use Rattle.entry_core.specs.declared.entries.Entry.{Entry}
use Rattle.entry_core.specs.declared.entries.Event.{Event}
use Rattle.entry_core.specs.Outcomes.{outcome_of}
use Rattle.entry_core.specs.Attempts.{Attempt, spent_attempts}
use Rattle.entry_core.specs.Settled.{settled}
use Rattle.entry_core.specs.Legal.{IsRunning}
use Rattle.board_core.specs.declared.board.Board.TheInside.{Inside}
use Rattle.board_core.specs.declared.index.Attempted.{Attempted}
use Rattle.board_core.specs.declared.index.Ending.{Ending}
use Rattle.board_core.specs.declared.index.Index.{Index}
use Rattle.board_core.specs.declared.index.JobState.{JobState}
use Rattle.board_core.specs.State.{State}
use Rattle.board_core.specs.Index.{state_at, rank_of, verdict_in, IsEndingOf, attempted, ended_at, HasAttempt, MayEnd}
use Rattle.board_core.specs.Kept.{state_of, IsKept}
use Rattle.board_core.specs.Replies.{IsOwn, HasOutcome, job_in, job_at}
use Rattle.board_core.proofs.Readings.{unsettled_free}
use Rattle.board_core.proofs.Keeping.{all_entered, settled_few}
use Rattle.board_core.proofs.Attempted.{IsAtWork, at_work}
use Rattle.board_core.proofs.Endings.{IsWritten, unsettled_at}

-- an own attempt, in the index
work_of : {a : Inside} {board : State} {caller number : ℕ} → state_of a ≡ board → IsKept a →
    (own : IsOwn board caller number) → IsAtWork a number own.begun
work_of {a} {board} {caller} {number} view kept own =
    let mine : IsOwn (state_of a) caller number =
    subst (λ (b : State). IsOwn b caller number) (sym view) own in
    let same : IsRunning a.journal.items caller number own.begun =
    subst (λ (b : State). IsRunning b.journal caller number own.begun) (sym view) own.running in
    at_work a caller number own.begun kept same

pub has_attempt : {a : Inside} {board : State} {caller number : ℕ} → state_of a ≡ board → IsKept a →
    IsOwn board caller number → HasAttempt a.index number
has_attempt {a} view kept own =
    let work = work_of view kept own in
    let size = a.index.attempts.ok.0 in
    let bound = work.bound in
    record {
      from_one = work.from_one;
      begun = let from = work.from_one in omega arith;
      job_from_one = subst (λ n. 1 ≤ n) (sym work.job) work.job_from;
      added = subst (λ n. n ≤ length a.index.jobs.items) (sym work.job) work.job_there;
    }

pub record IsReady (a : Inside) (board : State) (caller number : ℕ) (own : Attempted) : Type 0 where
  pub view : state_of a ≡ board
  pub kept : IsKept a
  pub begun : Attempt
  pub running : IsRunning a.journal.items caller number begun
  pub work : IsAtWork a number begun
  pub job_is : own.job ≡ begun.job
  pub named : job_at board number ≡ begun.job
  pub state_is : own.state ≡ state_at a.index.jobs.items begun.job

pub ready : {a : Inside} {board : State} {caller number : ℕ} {own : Attempted} →
    state_of a ≡ board → IsKept a → IsOwn board caller number →
    own ≡ attempted a.index number → IsReady a board caller number own
ready {a} {board} {caller} {number} {own} view kept mine is =
    let running : IsRunning a.journal.items caller number mine.begun =
    subst (λ (b : State). IsRunning b.journal caller number mine.begun) (sym view) mine.running in
    let work = at_work a caller number mine.begun kept running in
    record {
      view = view;
      kept = kept;
      begun = mine.begun;
      running = running;
      work = work;
      job_is = ap (λ (o : Attempted). o.job) is ∙ work.job;
      named = ap (λ (b : State). job_at b number) (sym view) ∙ ap job_in running.found;
      state_is = ap (λ (o : Attempted). o.state) is ∙ ap (state_at a.index.jobs.items) work.job;
    }

-- one of its job's attempts may end
pub may_end : {a : Inside} {board : State} {caller number : ℕ} {own : Attempted} →
    IsReady a board caller number own → MayEnd a.index own.job
may_end {a} r = record {
  from_one = let from = r.work.job_from in let same = r.job_is in omega arith;
  added = let there = r.work.job_there in let same = r.job_is in omega arith;
  entered = all_entered a r.kept;
  opened = r.work.total;
}

pub one_open : {a : Inside} {board : State} {caller number : ℕ} {own : Attempted} →
    IsReady a board caller number own → 1 ≤ own.state.open_now
one_open r =
    let opened = r.work.opened in
    let same = ap (λ (s : JobState). s.open_now) r.state_is in
    omega arith

-- what was said of the board, of its fields
pub inside_out : {a : Inside} {board : State} {caller number : ℕ} {own : Attempted} →
    (r : IsReady a board caller number own) (P : State → ℕ → Type 0) →
    P board (job_at board number) → P (state_of a) r.begun.job
inside_out {a} {board} r P h =
    subst (λ (b : State). P b r.begun.job) (sym r.view) (subst (P board) r.named h)

pub none_yet : {a : Inside} {board : State} {caller number : ℕ} {own : Attempted} →
    (r : IsReady a board caller number own) → own.state.ending ≡ None →
    (state_at a.index.jobs.items r.begun.job).ending ≡ None
none_yet r none = ap (λ (s : JobState). s.ending) (sym r.state_is) ∙ none

pub in_time : {a : Inside} {board : State} {caller number : ℕ} {own : Attempted} →
    IsReady a board caller number own → own.state.ending ≡ None →
    settled board.rules board.journal (job_at board number) ≡ None
in_time {a} {board} r none =
    ap (settled board.rules board.journal) r.named
    ∙ ap (λ (b : State). settled b.rules b.journal r.begun.job) (sym r.view)
    ∙ unsettled_at a r.begun.job r.kept (none_yet r none)

pub late : {a : Inside} {board : State} {caller number : ℕ} {own : Attempted} {how : Ending}
    {outcome : Outcome} {journal : List Entry} → IsReady a board caller number own →
    own.state.ending ≡ Some how → journal ≡ a.journal.items →
    ((found : Verdict) → verdict_in journal how ≡ Some found → outcome ≡ outcome_of found) →
    HasOutcome board (job_at board number) outcome
late {a} {board} {caller} {number} {own} {how} {outcome} {journal} r ends same gives =
    subst (λ n. HasOutcome board n outcome) (sym r.named)
    (subst (λ (b : State). HasOutcome b r.begun.job outcome) r.view
    (found (settled a.rules a.journal.items r.begun.job) refl
    (subst (λ o. IsEndingOf a.journal.items o (settled a.rules a.journal.items r.begun.job))
    (ap (λ (s : JobState). s.ending) (sym r.state_is) ∙ ends)
    (r.kept.index.states r.begun.job).ending)))
  where
    found : (o : Option Verdict) → settled a.rules a.journal.items r.begun.job ≡ o →
        IsSome o × (verdict_in a.journal.items how ≡ o) →
        HasOutcome (state_of a) r.begun.job outcome
    found None is h = absurd (let some = h.0 in cc)
    found (Some given) is h = record {
      there = record { from_one = r.work.job_from; added = r.work.job_to };
      given = given;
      is = is;
      same = gives given (ap (λ all. verdict_in all how) same ∙ h.1);
    }

-- what the call wrote
pub written : {a : Inside} {board : State} {caller number : ℕ} {own : Attempted}
    {after : Vec Entry Global} {states : Vec JobState Global} {waiting : List (Option Rank)}
    {happened : Event} (change : JobState → JobState) →
    (r : IsReady a board caller number own) →
    after.items ≡ a.journal.items ++ record { caller = caller; event = happened } ∷ [] →
    vec_capacity after ≡ vec_capacity a.journal →
    states.items ≡ slice_set a.index.jobs.items (own.job - 1) (change own.state) →
    waiting ≡ slice_set a.index.waiting (own.job - 1)
    (rank_of a.rules.attempts own.job (change own.state)) →
    IsWritten a after states waiting caller happened r.begun.job
    (change (state_at a.index.jobs.items r.begun.job))
written {a} {board} {caller} {number} {own} change r entry capacity state_is ranked = record {
  entry = entry;
  capacity = capacity;
  state_is = state_is
      ∙ ap (λ n. slice_set a.index.jobs.items (n - 1) (change own.state)) r.job_is
      ∙ ap (λ s. slice_set a.index.jobs.items (r.begun.job - 1) (change s)) r.state_is;
  ranked = ranked
      ∙ ap (λ n. slice_set a.index.waiting (n - 1) (rank_of a.rules.attempts n (change own.state)))
      r.job_is
      ∙ ap (λ s. slice_set a.index.waiting (r.begun.job - 1)
      (rank_of a.rules.attempts r.begun.job (change s))) r.state_is;
}

-- an index that took the end of an attempt, with so many jobs more that are settled
pub kept_with : (a : Inside) {after : Vec Entry Global} {new : Index} (more : ℕ) →
    new ≡ ended_at a.index new →
    IsKept (record a {
      journal = after;
      index = record (ended_at a.index new) { settled = a.index.settled + more };
    }) →
    IsKept (record a { journal = after; index = record new { settled = new.settled + more } })
kept_with a {after} more rest kept =
    subst (λ (i : Index).
    IsKept (record a { journal = after; index = record i { settled = i.settled + more } }))
    (sym rest) kept

-- one job more that is settled can be counted
pub count_fits : {a : Inside} {new : Index} → IsKept a → new ≡ ended_at a.index new →
    new.settled ≤ 1048576
count_fits {a} kept rest =
    let few = settled_few a kept in
    let same = ap (λ (i : Index). i.settled) rest in
    omega arith

-- an unsettled job has spent fewer attempts than it may have
pub spent_few : {a : Inside} {board : State} {caller number : ℕ} {own : Attempted} →
    IsReady a board caller number own → own.state.ending ≡ None → own.state.spent < 64
spent_few {a} {board} {caller} {number} {own} r none =
    let unsettled = unsettled_at a r.begun.job r.kept (none_yet r none) in
    let free = unsettled_free a.rules a.journal.items r.begun.job r.kept.limits.some_attempt
    unsettled in
    few_spent own.state.spent (spent_attempts a.journal.items r.begun.job) a.rules.attempts
    (ap (λ (s : JobState). s.spent) r.state_is ∙ (r.kept.index.states r.begun.job).spent)
    free.unspent r.kept.limits.few_attempts
  where
    few_spent : (spent known most : ℕ) →
        spent ≡ known → nat_le most known ≡ false → most ≤ 64 → spent < 64
    few_spent spent known most same no_test le = grind (arith, nat_tests)
