-- What a board keeps after each kind of end of an attempt.
use Rattle.std.proofs.Common.{◌≡◌, ◌∙◌, ◌≢◌, ◌⊎◌, inl, inr, ℕ, ◌+◌, ◌-◌, ◌≤◌, Bool, true, false, cond, Option, Some, None, List, [], ◌∷◌, ◌++◌, length, refl, ap, sym, subst, arith, ◌==◌, ◌&&◌, Vec, vec_len, vec_capacity}
use Rattle.std.specs.Prelude.{is_some, IsSome, option_and_then, if◌then◌else◌, nat_le, slice_get, slice_set}
use Rattle.std.specs.Arc.{arc_value}
use Rattle.std.specs.declared.sync.Arc.{Arc}
use Rattle.std.specs.declared.alloc.Global.{Global}
use Rattle.std.proofs.lemmas.Bool.Decides.{nat_tests}
use Rattle.board_core.specs.declared.rank.Rank.{Rank}
use Rattle.entry_core.specs.declared.answers.Answer.{Answer}
use Rattle.entry_core.specs.declared.answers.Verdict.{Verdict}
use Rattle.entry_core.specs.declared.answers.Verdict.TheVariants as verdict
use Rattle.sat_base.specs.declared.items.Items.{Items}
use Rattle.entry_core.specs.declared.entries.Entry.{Entry}
use Rattle.entry_core.specs.declared.entries.Event.{Event}
use Rattle.entry_core.specs.declared.entries.Event.TheVariants as event
use Rattle.entry_core.specs.declared.rules.Rules.{Rules}
use Rattle.entry_core.specs.Journal.{segment_of, jobs}
use Rattle.entry_core.specs.Attempts.{Attempt, attempt, is_at, is_attempt_at, spent_by, spent_attempts}
use Rattle.entry_core.specs.Settled.{or_else, given_if, settled, settled_jobs}
use Rattle.entry_core.specs.Right.{IsRightAnswer, IsSpentFor}
use Rattle.entry_core.specs.Legal.{IsRunning}
use Rattle.board_core.specs.declared.board.Board.TheInside.{Inside}
use Rattle.board_core.specs.declared.index.Ending.{Ending}
use Rattle.board_core.specs.declared.index.Ending.TheVariants as ending
use Rattle.board_core.specs.declared.index.JobState.{JobState}
use Rattle.board_core.specs.Index.{state_at, rank_of, answered_by, verdict_in, IsEndingOf}
use Rattle.board_core.specs.Kept.{IsKept}
use Rattle.std.specs.List.{cons_option}
use Rattle.entry_core.specs.Settled.{Decision, is_model, job_of}
use Rattle.entry_core.specs.Attempts.{attempts}
use Rattle.trace_core.specs.Known.{item_at}
use Rattle.board_core.proofs.Models.{models_pass, cancels_nobody}
use Rattle.board_core.proofs.Readings.{unsettled_free, or_none}
use Rattle.board_core.proofs.Verdicts.{entry_by, verdict_by, nothing, satisfied_by, one_more_model}
use Rattle.board_core.proofs.Indexed.{spent_same, spent_more, ending_stays}
use Rattle.board_core.proofs.Changes.{IsBase, step, same_or_other, same_tally, one_settled, models_same, same_segments}
use Rattle.board_core.proofs.Ended.{IsEnd, Ends}
use Rattle.board_core.proofs.Keeping.{base_of}
use Rattle.board_core.proofs.Attempted.{at_work, kept_ended}

pub at_own : (journal : List Entry) (number : ℕ) (begun : Attempt) → attempt journal number ≡ Some begun → is_attempt_at journal begun.job number ≡ true
at_own journal number begun found = let itself : (begun.job == begun.job) ≡ true = grind (arith, nat_tests) in ap (is_at begun.job) found ∙ itself

pub at_other : (journal : List Entry) (number other : ℕ) (begun : Attempt) → attempt journal number ≡ Some begun → other ≢ begun.job → is_attempt_at journal other number ≡ false
at_other journal number other begun found differs = let apart : (begun.job == other) ≡ false = grind (arith, nat_tests) in ap (is_at other) found ∙ apart

-- no verdict for another job
pub stays_settled : (rules : Rules) (journal : List Entry) (caller : ℕ) (happened : Event) (other : ℕ) → IsBase rules journal → (settled rules journal other ≡ None → verdict_by rules journal other happened ≡ None)
    → settled rules (journal ++ entry_by caller happened ∷ []) other ≡ settled rules journal other
stays_settled rules journal caller happened other base only = step rules journal caller happened other base ∙ by_verdict (settled rules journal other) refl
  where
    by_verdict : (given : Option Verdict) → settled rules journal other ≡ given → or_else given (verdict_by rules journal other happened) ≡ given
    by_verdict (Some found) is = refl
    by_verdict None is = only is

-- how many are settled, where only this job may be newly settled
tally_after : (rules : Rules) (journal : List Entry) (entry : Entry) (job : ℕ) (how : Option Ending) → segment_of entry.event ≡ None → 1 ≤ job → job ≤ jobs journal → settled rules journal job ≡ None
    → IsEndingOf (journal ++ entry ∷ []) how (settled rules (journal ++ entry ∷ []) job) → ((other : ℕ) → other ≢ job → settled rules (journal ++ entry ∷ []) other ≡ settled rules journal other)
    → settled_jobs rules (journal ++ entry ∷ []) ≡ settled_jobs rules journal + cond (is_some how) 1 0
tally_after rules journal entry job None adds from to unsettled none others =
    let e : settled_jobs rules journal ≡ settled_jobs rules journal + 0 = omega arith in
    same_tally rules journal entry adds (λ other. by_place other (same_or_other other job)) ∙ e
  where
    by_place : (other : ℕ) → (other ≡ job) ⊎ (other ≢ job) → settled rules (journal ++ entry ∷ []) other ≡ settled rules journal other
    by_place other (inl same) = ap (settled rules (journal ++ entry ∷ [])) same ∙ none ∙ sym unsettled ∙ ap (settled rules journal) (sym same)
    by_place other (inr differs) = others other differs
tally_after rules journal entry job (Some how) adds from to unsettled some others = one_settled rules journal entry job adds from to unsettled some.0 others

pub record IsWritten (a : Inside) (after : Vec Entry Global) (states : Vec JobState Global) (waiting : List (Option Rank)) (caller : ℕ) (happened : Event) (job : ℕ) (state : JobState) : Type 0 where
  pub entry : after.items ≡ a.journal.items ++ entry_by caller happened ∷ []
  pub capacity : vec_capacity after ≡ vec_capacity a.journal
  pub state_is : states.items ≡ slice_set a.index.jobs.items (job - 1) state
  pub ranked : waiting ≡ slice_set a.index.waiting (job - 1) (rank_of a.rules.attempts job state)

ended_by_spent : (b : Bool) (journal : List Entry) → IsEndingOf journal (cond b (Some ending.Spent) None) (given_if b verdict.Spent)
ended_by_spent true journal = (refl, refl)
ended_by_spent false journal = refl

-- where the job of an attempt that spent its budget stands
abbrev pub spent_state : ℕ → JobState → JobState
spent_state most before = record { open_now = before.open_now - 1; spent = before.spent + 1; ending = if nat_le most (before.spent + 1) then Some ending.Spent else None }

unsettled_ending : (journal : List Entry) (how : Option Ending) (given : Option Verdict) → how ≡ None → IsEndingOf journal how given → given ≡ None
unsettled_ending journal how given none is = subst (λ h. IsEndingOf journal h given) none is

pub unsettled_at : (a : Inside) (job : ℕ) → IsKept a → (state_at a.index.jobs.items job).ending ≡ None → settled a.rules a.journal.items job ≡ None
unsettled_at a job kept none = unsettled_ending a.journal.items (state_at a.index.jobs.items job).ending (settled a.rules a.journal.items job) none (kept.index.states job).ending

pub kept_spent : (a : Inside) (after : Vec Entry Global) (states : Vec JobState Global) (waiting : List (Option Rank)) (caller number : ℕ) (learnt : Arc (Items (List ℕ)) Global) (begun : Attempt) → IsKept a → IsRunning a.journal.items caller number begun
    → (state_at a.index.jobs.items begun.job).ending ≡ None → IsSpentFor a.journal.items begun.job a.rules.conflicts (arc_value learnt)
    → IsWritten a after states waiting caller (event.Spent number learnt) begun.job (spent_state a.rules.attempts (state_at a.index.jobs.items begun.job))
    → IsKept (record a {
      journal = after;
      index = record a.index {
        jobs = states;
        waiting = waiting;
        open_now = a.index.open_now - 1;
        settled = a.index.settled + cond (is_some (spent_state a.rules.attempts (state_at a.index.jobs.items begun.job)).ending) 1 0;
      };
    })
kept_spent a after states waiting caller number learnt begun kept running none spent written =
    let happened : Event = event.Spent number learnt in
    let entry : Entry = entry_by caller happened in
    let journal : List Entry = a.journal.items in
    let base = base_of a kept in
    let before : JobState = state_at a.index.jobs.items begun.job in
    let state : JobState = spent_state a.rules.attempts before in
    let stands = kept.index.states begun.job in
    let unsettled : settled a.rules journal begun.job ≡ None = unsettled_at a begun.job kept none in
    let work = at_work a caller number begun kept running in
    let own = at_own journal number begun running.found in
    let one : spent_attempts journal begun.job + cond (is_attempt_at journal begun.job number) 1 0 ≡ before.spent + 1 =
    ap (λ b. spent_attempts journal begun.job + cond b 1 0) own ∙ ap (λ n. n + 1) (sym stands.spent) in
    let settles : settled a.rules (journal ++ entry ∷ []) begun.job ≡ given_if (nat_le a.rules.attempts (before.spent + 1)) verdict.Spent =
    step a.rules journal caller happened begun.job base ∙ ap (λ o. or_else o (verdict_by a.rules journal begun.job happened)) unsettled ∙ ap (λ n. given_if (nat_le a.rules.attempts n) verdict.Spent) one in
    let ends_so : IsEndingOf (journal ++ entry ∷ []) state.ending (settled a.rules (journal ++ entry ∷ []) begun.job) =
    subst (IsEndingOf (journal ++ entry ∷ []) state.ending) (sym settles) (ended_by_spent (nat_le a.rules.attempts (before.spent + 1)) (journal ++ entry ∷ [])) in
    let others : (other : ℕ) → other ≢ begun.job → settled a.rules (journal ++ entry ∷ []) other ≡ settled a.rules journal other = λ other differs.
    stays_settled a.rules journal caller happened other base
    (λ is. ap (λ b. given_if (nat_le a.rules.attempts (spent_attempts journal other + cond b 1 0)) verdict.Spent) (at_other journal number other begun running.found differs)
    ∙ nothing a.rules journal other (unsettled_free a.rules journal other base.some is)) in
    let tallied = tally_after a.rules journal entry begun.job state.ending refl work.job_from work.job_to unsettled ends_so others in
    let count = kept.index.settled in
    let most = work.total in
    let opened = work.opened in
    kept_ended a after caller happened number begun state states waiting (a.index.settled + cond (is_some state.ending) 1 0) (a.index.open_now - 1) kept
    (record { begins = refl; ends = refl; adds = refl; shares = refl; closes = refl }) running
    (record { begun = begun; running = running; unsettled = unsettled; spent = spent })
    (record {
      open_now = omega arith;
      spent = sym one ∙ sym (spent_more journal entry begun.job number refl refl);
      ending = ends_so;
      others_spent = λ other differs. spent_more journal entry other number refl refl ∙ ap (λ b. spent_attempts journal other + cond b 1 0) (at_other journal number other begun running.found differs)
          ∙ (let e : spent_attempts journal other + 0 ≡ spent_attempts journal other = omega arith in e);
      others_settled = others;
    })
    (ap (λ n. n + cond (is_some state.ending) 1 0) count ∙ sym tallied) (more_or_same a.index.settled (is_some state.ending)) (omega arith)
    (models_same a.rules journal a.index entry refl refl refl kept.index) written.entry written.capacity written.state_is written.ranked
  where
    more_or_same : (n : ℕ) (b : Bool) → n ≤ n + cond b 1 0
    more_or_same n true = omega arith
    more_or_same n false = omega arith

-- where the job of an attempt that settled it stands
abbrev pub settled_state : Ending → JobState → JobState
settled_state how before = record { open_now = before.open_now - 1; spent = before.spent; ending = Some how }

-- an end that gives the job its verdict
settling : (a : Inside) (caller : ℕ) (happened : Event) (number : ℕ) (begun : Attempt) (how : Ending) (given : Verdict) → IsKept a → IsEnd caller happened number → spent_by happened ≡ None
    → IsRunning a.journal.items caller number begun → settled a.rules a.journal.items begun.job ≡ None
    → verdict_in (a.journal.items ++ entry_by caller happened ∷ []) how ≡ Some given
    → ((job : ℕ) → settled a.rules a.journal.items job ≡ None → verdict_by a.rules a.journal.items job happened ≡ given_if (is_attempt_at a.journal.items job number) given)
    → Ends a.rules a.journal.items (entry_by caller happened) begun.job (state_at a.index.jobs.items begun.job) (settled_state how (state_at a.index.jobs.items begun.job))
    × (a.index.settled + 1 ≡ settled_jobs a.rules (a.journal.items ++ entry_by caller happened ∷ []))
settling a caller happened number begun how given kept end spends running unsettled named gives =
    let entry : Entry = entry_by caller happened in
    let journal : List Entry = a.journal.items in
    let base = base_of a kept in
    let stands = kept.index.states begun.job in
    let work = at_work a caller number begun kept running in
    let settles : settled a.rules (journal ++ entry ∷ []) begun.job ≡ Some given =
    step a.rules journal caller happened begun.job base ∙ ap (λ o. or_else o (verdict_by a.rules journal begun.job happened)) unsettled ∙ gives begun.job unsettled
    ∙ ap (λ b. given_if b given) (at_own journal number begun running.found) in
    let ends_so : IsEndingOf (journal ++ entry ∷ []) (Some how) (settled a.rules (journal ++ entry ∷ []) begun.job) =
    subst (λ g. IsSome g × (verdict_in (journal ++ entry ∷ []) how ≡ g)) (sym settles) (refl, named) in
    let others : (other : ℕ) → other ≢ begun.job → settled a.rules (journal ++ entry ∷ []) other ≡ settled a.rules journal other = λ other differs.
    stays_settled a.rules journal caller happened other base (λ is. gives other is ∙ ap (λ b. given_if b given) (at_other journal number other begun running.found differs)) in
    let opened = work.opened in (
      record {
        open_now = omega arith;
        spent = stands.spent ∙ sym (spent_same journal entry begun.job end.begins spends);
        ending = ends_so;
        others_spent = λ other differs. spent_same journal entry other end.begins spends;
        others_settled = others;
      },
      ap (λ n. n + 1) kept.index.settled ∙ sym (tally_after a.rules journal entry begun.job (Some how) end.adds work.job_from work.job_to unsettled ends_so others),
    )

pub get_last : {X : Type 0} (xs : List X) (x : X) → slice_get (xs ++ x ∷ []) (length xs) ≡ Some x
get_last [] x = refl
get_last (y ∷ ys) x = get_last ys x

-- an answer that isn't a model, under the rule
nobody_more : (begun : List Attempt) (rule : Bool) (decision : Decision) → rule ≡ true → (rule && is_model (arc_value decision.given)) ≡ false → cons_option (satisfied_by begun decision) [] ≡ []
nobody_more begun rule decision is nobody =
    let none : is_model (arc_value decision.given) ≡ false = sym (ap (λ b. b && is_model (arc_value decision.given)) is) ∙ nobody in
    ap (λ b. cons_option (cond b (job_of (item_at begun decision.number)) None) []) none

pub kept_decided : (a : Inside) (after : Vec Entry Global) (states : Vec JobState Global) (waiting : List (Option Rank)) (caller number place : ℕ) (given : Arc Answer Global) (begun : Attempt) → IsKept a → IsRunning a.journal.items caller number begun
    → (state_at a.index.jobs.items begun.job).ending ≡ None → IsRightAnswer a.rules.traces a.journal.items begun.job (arc_value given) → place ≡ vec_len a.journal
    → (a.rules.first && is_model (arc_value given)) ≡ false
    → IsWritten a after states waiting caller (event.Decided number given) begun.job (settled_state (ending.Answered place) (state_at a.index.jobs.items begun.job))
    → IsKept (record a { journal = after; index = record a.index { jobs = states; waiting = waiting; settled = a.index.settled + 1; open_now = a.index.open_now - 1 } })
kept_decided a after states waiting caller number place given begun kept running none right here nobody written =
    let happened : Event = event.Decided number given in
    let entry : Entry = entry_by caller happened in
    let decision : Decision = record { number = number; given = given } in
    let unsettled : settled a.rules a.journal.items begun.job ≡ None = unsettled_at a begun.job kept none in
    let work = at_work a caller number begun kept running in
    let most = work.total in
    let named : verdict_in (a.journal.items ++ entry ∷ []) (ending.Answered place) ≡ Some (verdict.Answered given) =
    ap (option_and_then (λ (e : Entry). answered_by e.event)) (ap (slice_get (a.journal.items ++ entry ∷ [])) (here ∙ a.journal.ok.0) ∙ get_last a.journal.items entry) in
    let end : IsEnd caller happened number = record { begins = refl; ends = refl; adds = refl; shares = refl; closes = refl } in
    let parts = settling a caller happened number begun (ending.Answered place) (verdict.Answered given) kept end refl running unsettled named
    (λ job is. ap (or_else (given_if (is_attempt_at a.journal.items job number) (verdict.Answered given)))
    (cancels_nobody a.rules a.journal.items decision job nobody (unsettled_free a.rules a.journal.items job kept.limits.some_attempt is)) ∙ or_none (given_if (is_attempt_at a.journal.items job number) (verdict.Answered given))) in
    kept_ended a after caller happened number begun (settled_state (ending.Answered place) (state_at a.index.jobs.items begun.job)) states waiting (a.index.settled + 1) (a.index.open_now - 1) kept end running
    (record { begun = begun; running = running; unsettled = unsettled; right = right }) parts.0 parts.1 (omega arith) (omega arith)
    (models_pass a.rules a.journal.items (a.journal.items ++ entry ∷ []) a.index.models (cons_option (satisfied_by (attempts a.journal.items) decision) []) (one_more_model a.journal.items entry decision refl refl)
    (λ rule. nobody_more (attempts a.journal.items) a.rules.first decision rule nobody) (let e = ap length (same_segments a.journal.items entry refl) in omega arith) kept.index.models) written.entry written.capacity written.state_is written.ranked

pub kept_starved : (a : Inside) (after : Vec Entry Global) (states : Vec JobState Global) (waiting : List (Option Rank)) (caller number : ℕ) (begun : Attempt) → IsKept a → IsRunning a.journal.items caller number begun
    → (state_at a.index.jobs.items begun.job).ending ≡ None
    → IsWritten a after states waiting caller (event.Starved number) begun.job (settled_state ending.Starved (state_at a.index.jobs.items begun.job))
    → IsKept (record a { journal = after; index = record a.index { jobs = states; waiting = waiting; settled = a.index.settled + 1; open_now = a.index.open_now - 1 } })
kept_starved a after states waiting caller number begun kept running none written =
    let happened : Event = event.Starved number in
    let unsettled : settled a.rules a.journal.items begun.job ≡ None = unsettled_at a begun.job kept none in
    let work = at_work a caller number begun kept running in
    let most = work.total in
    let end : IsEnd caller happened number = record { begins = refl; ends = refl; adds = refl; shares = refl; closes = refl } in
    let parts = settling a caller happened number begun ending.Starved verdict.Starved kept end refl running unsettled refl (λ job is. refl) in
    kept_ended a after caller happened number begun (settled_state ending.Starved (state_at a.index.jobs.items begun.job)) states waiting (a.index.settled + 1) (a.index.open_now - 1) kept end running
    (record { begun = begun; running = running; unsettled = unsettled }) parts.0 parts.1 (omega arith) (omega arith)
    (models_same a.rules a.journal.items a.index (entry_by caller happened) refl refl refl kept.index) written.entry written.capacity written.state_is written.ranked

-- where the job of a dropped attempt stands
abbrev pub dropped_state : JobState → JobState
dropped_state before = record { open_now = before.open_now - 1; spent = before.spent; ending = before.ending }

pub kept_dropped : (a : Inside) (after : Vec Entry Global) (states : Vec JobState Global) (waiting : List (Option Rank)) (caller number : ℕ) (begun : Attempt) → IsKept a → IsRunning a.journal.items caller number begun
    → IsSome (settled a.rules a.journal.items begun.job)
    → IsWritten a after states waiting caller (event.Dropped number) begun.job (dropped_state (state_at a.index.jobs.items begun.job))
    → IsKept (record a { journal = after; index = record a.index { jobs = states; waiting = waiting; open_now = a.index.open_now - 1 } })
kept_dropped a after states waiting caller number begun kept running is_settled written =
    let happened : Event = event.Dropped number in
    let entry : Entry = entry_by caller happened in
    let journal : List Entry = a.journal.items in
    let base = base_of a kept in
    let before : JobState = state_at a.index.jobs.items begun.job in
    let stands = kept.index.states begun.job in
    let work = at_work a caller number begun kept running in
    let most = work.total in
    let opened = work.opened in
    let stays : (other : ℕ) → settled a.rules (journal ++ entry ∷ []) other ≡ settled a.rules journal other = λ other. stays_settled a.rules journal caller happened other base (λ is. refl) in
    kept_ended a after caller happened number begun (dropped_state before) states waiting a.index.settled (a.index.open_now - 1) kept
    (record { begins = refl; ends = refl; adds = refl; shares = refl; closes = refl }) running
    (record { begun = begun; running = running; settled_job = is_settled })
    (record {
      open_now = omega arith;
      spent = stands.spent ∙ sym (spent_same journal entry begun.job refl refl);
      ending = subst (IsEndingOf (journal ++ entry ∷ []) before.ending) (sym (stays begun.job)) (ending_stays journal (entry ∷ []) before.ending (settled a.rules journal begun.job) stands.ending);
      others_spent = λ other differs. spent_same journal entry other refl refl;
      others_settled = λ other differs. stays other;
    })
    (kept.index.settled ∙ sym (same_tally a.rules journal entry refl stays)) (omega arith) (omega arith)
    (models_same a.rules journal a.index entry refl refl refl kept.index) written.entry written.capacity written.state_is written.ranked
