-- What a board keeps after a model that cancels every later job.
use Rattle.std.proofs.Common.{◌≡◌, ◌∙◌, ◌≢◌, ◌⊎◌, inl, inr, ℕ, ◌+◌, ◌-◌, ◌<◌, ◌≤◌, Bool, true, false, cond, Option, Some, None, List, [], ◌∷◌, ◌++◌, length, refl, ap, sym, subst, arith, ◌&&◌, Vec, vec_len, vec_capacity}
use Rattle.std.specs.Prelude.{is_some, IsSome, option_and_then, slice_get, slice_set, nat_le}
use Rattle.std.specs.List.{cons_option}
use Rattle.std.specs.Arc.{arc_value}
use Rattle.std.specs.declared.sync.Arc.{Arc}
use Rattle.std.specs.declared.alloc.Global.{Global}
use Rattle.std.proofs.lemmas.Bool.Decides.{nat_tests}
use Rattle.std.proofs.lemmas.List.{length-set}
use Rattle.entry_core.specs.declared.answers.Answer.{Answer}
use Rattle.entry_core.specs.declared.answers.Verdict.{Verdict}
use Rattle.entry_core.specs.declared.answers.Verdict.TheVariants as verdict
use Rattle.entry_core.specs.declared.entries.Entry.{Entry}
use Rattle.entry_core.specs.declared.entries.Event.{Event}
use Rattle.entry_core.specs.declared.entries.Event.TheVariants as event
use Rattle.entry_core.specs.Journal.{segment_of, jobs}
use Rattle.entry_core.specs.Attempts.{Attempt, attempt, spent_attempts, open_attempts}
use Rattle.entry_core.specs.Settled.{Decision, is_model, job_of, satisfied, or_else, given_if, settled, settled_up_to, settled_jobs}
use Rattle.entry_core.specs.Right.{IsRightAnswer}
use Rattle.entry_core.specs.Legal.{IsRunning}
use Rattle.board_core.specs.declared.board.Board.TheInside.{Inside}
use Rattle.board_core.specs.declared.index.Ending.{Ending}
use Rattle.board_core.specs.declared.index.Ending.TheVariants as ending
use Rattle.board_core.specs.declared.index.JobState.{JobState}
use Rattle.board_core.specs.declared.index.Index.{Index}
use Rattle.board_core.specs.Index.{state_at, rank_of, ranks_from, answered_by, verdict_in, IsEndingOf, IsStateOf, ended_at}
use Rattle.board_core.specs.Overtaking.{last_of, models_after, overtaken_at, ended_up_to, AreOvertaken, MayOvertake}
use Rattle.board_core.specs.Kept.{IsKept}
use Rattle.board_core.proofs.Readings.{IsFree, over_of, unsettled_free}
use Rattle.board_core.proofs.Verdicts.{entry_by, verdict_by, models_on, one_more_model}
use Rattle.board_core.proofs.Models.{models_more, not_after_last, over_after, over_before, over_past, last_there}
use Rattle.board_core.proofs.Indexed.{ending_some, spent_same}
use Rattle.board_core.proofs.Changes.{step, same_or_other, same_state, same_segments, state_set_same, state_set_other}
use Rattle.board_core.proofs.Ended.{IsEnd, own_ended, other_opened}
use Rattle.board_core.proofs.Keeping.{base_of, settled_few, ranks_written}
use Rattle.board_core.proofs.Overtaken.{ended_one, tally_states, stays_overtaken, is_overtaken}
use Rattle.board_core.proofs.Attempted.{at_work, kept_ended_with}
use Rattle.board_core.proofs.Endings.{at_own, at_other, settled_state, get_last, unsettled_at}

-- a state of a settled job isn't changed
unchanged : (by last : ℕ) (old new : List JobState) (job : ℕ) → AreOvertaken by last old new → is_some (state_at old job).ending ≡ true → state_at new job ≡ state_at old job
unchanged by last old new job are is = by_place (nat_le job by) refl (nat_le job last) refl
  where
    by_place : (b : Bool) → nat_le job by ≡ b → (c : Bool) → nat_le job last ≡ c → state_at new job ≡ state_at old job
    by_place true h c k = are.others job (inl (grind (arith, nat_tests)))
    by_place false h false k = are.others job (inr (grind (arith, nat_tests)))
    by_place false h true k =
        let after : by < job = grind (arith, nat_tests) in
        let to : job ≤ last = grind (arith, nat_tests) in
        are.later job after to ∙ stays_overtaken by (state_at old job) is

-- a model's job, the entry, and what the call before the walk and the walk wrote
pub record IsOvertaking (a : Inside) (mid new : Index) (job place : ℕ) : Type 0 where
  pub early : mid ≡ record (ended_at a.index mid) { settled = a.index.settled + 1 }
  pub written : mid.jobs.items ≡ slice_set a.index.jobs.items (job - 1) (settled_state (ending.Answered place) (state_at a.index.jobs.items job))
  pub walked : AreOvertaken job (last_of mid.models (length mid.jobs.items)) mid.jobs.items new.jobs.items
  pub ranked : new.waiting ≡ ranks_from a.rules.attempts 1 new.jobs.items
  pub counted : new.settled + ended_up_to mid.jobs.items (length mid.jobs.items) ≡ mid.settled + ended_up_to new.jobs.items (length mid.jobs.items)
  pub no_fewer : mid.settled ≤ new.settled
  pub rest : new ≡ overtaken_at mid new job

-- the job's model may cancel later ones
pub may_overtake : (a : Inside) (mid : Index) (caller number place : ℕ) (begun : Attempt) → IsKept a → IsRunning a.journal.items caller number begun → (state_at a.index.jobs.items begun.job).ending ≡ None
    → mid ≡ record (ended_at a.index mid) { settled = a.index.settled + 1 }
    → mid.jobs.items ≡ slice_set a.index.jobs.items (begun.job - 1) (settled_state (ending.Answered place) (state_at a.index.jobs.items begun.job))
    → mid.waiting ≡ slice_set a.index.waiting (begun.job - 1) (rank_of a.rules.attempts begun.job (settled_state (ending.Answered place) (state_at a.index.jobs.items begun.job)))
    → MayOvertake a.rules.attempts mid begun.job
may_overtake a mid caller number place begun kept running none early written ranked =
    let work = at_work a caller number begun kept running in
    let own : JobState = settled_state (ending.Answered place) (state_at a.index.jobs.items begun.job) in
    let free : IsFree a.rules a.journal.items begun.job = unsettled_free a.rules a.journal.items begun.job kept.limits.some_attempt (unsettled_at a begun.job kept none) in
    let size : jobs a.journal.items ≡ length mid.jobs.items = sym kept.index.jobs ∙ sym (ap length written ∙ length-set a.index.jobs.items (begun.job - 1) own) in
    let same : a.index.models ≡ mid.models = sym (ap (λ (i : Index). i.models) early) in
    let few = kept.few.jobs in
    let settled_now : mid.settled ≡ a.index.settled + 1 = ap (λ (i : Index). i.settled) early in
    let most = settled_few a kept in
    record {
      ranked = ranks_written a mid.jobs mid.waiting begun.job own kept work.job_from written ranked;
      few = omega arith;
      from = subst (λ n. begun.job ≤ last_of mid.models n) size (subst (λ models. begun.job ≤ last_of models (jobs a.journal.items)) same
          (not_after_last a.rules a.journal.items a.index.models begun.job kept.index.models work.job_to free));
      there = subst (λ n. last_of mid.models n ≤ n) size (subst (λ models. last_of models (jobs a.journal.items) ≤ jobs a.journal.items) same
          (last_there a.rules a.journal.items a.index.models kept.index.models));
      settled = omega arith;
    }

-- the model of the job's attempt
record IsModelled (a : Inside) (caller number : ℕ) (given : Arc Answer Global) (begun : Attempt) : Type 0 where
  kept : IsKept a
  running : IsRunning a.journal.items caller number begun
  unsettled : settled a.rules a.journal.items begun.job ≡ None
  rule : a.rules.first ≡ true
  more : models_on a.journal.items (record { number = number; given = given }) ≡ satisfied a.journal.items ++ begun.job ∷ []

one_model : (journal : List Entry) (number : ℕ) (given : Arc Answer Global) (begun : Attempt) → attempt journal number ≡ Some begun → is_model (arc_value given) ≡ true
    → models_on journal (record { number = number; given = given }) ≡ satisfied journal ++ begun.job ∷ []
one_model journal number given begun found model =
    ap (λ b. satisfied journal ++ cons_option (cond b (job_of (attempt journal number)) None) []) model
    ∙ ap (λ o. satisfied journal ++ cons_option (job_of o) []) found

-- what each other job's verdict is
other_settled : (a : Inside) (caller number : ℕ) (given : Arc Answer Global) (begun : Attempt) (other : ℕ) (over : Option Verdict) → IsModelled a caller number given begun → other ≢ begun.job
    → settled a.rules a.journal.items other ≡ None → over_of a.rules.first (jobs a.journal.items) (satisfied a.journal.items ++ begun.job ∷ []) other ≡ over
    → settled a.rules (a.journal.items ++ entry_by caller (event.Decided number given) ∷ []) other ≡ over
other_settled a caller number given begun other over m differs none is =
    step a.rules a.journal.items caller (event.Decided number given) other (base_of a m.kept)
    ∙ ap (λ o. or_else o (verdict_by a.rules a.journal.items other (event.Decided number given))) none
    ∙ ap (λ b. or_else (given_if b (verdict.Answered given)) (over_of a.rules.first (jobs a.journal.items) (models_on a.journal.items (record { number = number; given = given })) other)) (at_other a.journal.items number other begun m.running.found differs)
    ∙ ap (λ all. over_of a.rules.first (jobs a.journal.items) all other) m.more ∙ is

other_stays : (a : Inside) (caller number : ℕ) (given : Arc Answer Global) (begun : Attempt) (other : ℕ) (found : Verdict) → IsModelled a caller number given begun
    → settled a.rules a.journal.items other ≡ Some found
    → settled a.rules (a.journal.items ++ entry_by caller (event.Decided number given) ∷ []) other ≡ settled a.rules a.journal.items other
other_stays a caller number given begun other found m some =
    step a.rules a.journal.items caller (event.Decided number given) other (base_of a m.kept)
    ∙ ap (λ o. or_else o (verdict_by a.rules a.journal.items other (event.Decided number given))) some ∙ sym some

has_ending : (how : Option Ending) (given : Option Verdict) (journal : List Entry) (found : Verdict) → IsEndingOf journal how given → given ≡ Some found → is_some how ≡ true
has_ending how given journal found is some = ending_some journal how given is ∙ ap is_some some

no_ending : (how : Option Ending) (given : Option Verdict) (journal : List Entry) → IsEndingOf journal how given → given ≡ None → is_some how ≡ false
no_ending how given journal is none = ending_some journal how given is ∙ ap is_some none

-- where another job stands
other_stands : (a : Inside) (caller number : ℕ) (given : Arc Answer Global) (begun : Attempt) (other : ℕ) (old new : List JobState) → IsModelled a caller number given begun → other ≢ begun.job
    → state_at old other ≡ state_at a.index.jobs.items other → AreOvertaken begun.job (last_of a.index.models (jobs a.journal.items)) old new
    → IsStateOf a.rules (a.journal.items ++ entry_by caller (event.Decided number given) ∷ []) other (state_at new other)
other_stands a caller number given begun other old new m differs before are = by_verdict (settled a.rules journal other) refl
  where
    journal : List Entry
    journal = a.journal.items

    entry : Entry
    entry = entry_by caller (event.Decided number given)

    longer : List Entry
    longer = journal ++ entry ∷ []

    end : IsEnd caller (event.Decided number given) number
    end = record { begins = refl; ends = refl; adds = refl; shares = refl; closes = refl }

    was : IsStateOf a.rules journal other (state_at old other)
    was = subst (IsStateOf a.rules journal other) (sym before) (m.kept.index.states other)

    opens : open_attempts longer other ≡ open_attempts journal other
    opens = other_opened journal caller (event.Decided number given) number begun other m.kept.orderly end m.running.found m.running.open_yet differs

    spends : spent_attempts longer other ≡ spent_attempts journal other
    spends = spent_same journal entry other refl refl

    keeps : state_at new other ≡ state_at old other → settled a.rules longer other ≡ settled a.rules journal other → IsStateOf a.rules longer other (state_at new other)
    keeps same stays = subst (IsStateOf a.rules longer other) (sym same) (same_state a.rules journal entry other (state_at old other) was opens spends stays)

    unsettled_case : settled a.rules journal other ≡ None → IsFree a.rules journal other → (b : Bool) → nat_le other begun.job ≡ b → (c : Bool) → nat_le other (jobs journal) ≡ c
        → IsStateOf a.rules longer other (state_at new other)
    unsettled_case none free true h c k =
        let le : other ≤ begun.job = grind (arith, nat_tests) in
        keeps (are.others other (inl le)) (other_settled a caller number given begun other None m differs none (over_before a.rules journal begun.job other m.rule le free) ∙ sym none)
    unsettled_case none free false h false k =
        let past : jobs journal < other = grind (arith, nat_tests) in
        let last = last_there a.rules journal a.index.models m.kept.index.models in
        keeps (are.others other (inr (omega arith))) (other_settled a caller number given begun other None m differs none (over_past a.rules journal (satisfied journal ++ begun.job ∷ []) other past) ∙ sym none)
    unsettled_case none free false h true k =
        let after : begun.job < other = grind (arith, nat_tests) in
        let there : other ≤ jobs journal = grind (arith, nat_tests) in
        let to : other ≤ last_of a.index.models (jobs journal) = not_after_last a.rules journal a.index.models other m.kept.index.models there free in
        let open_yet : is_some (state_at old other).ending ≡ false = no_ending (state_at old other).ending (settled a.rules journal other) journal was.ending none in
        let cancels : settled a.rules longer other ≡ Some (verdict.Cancelled begun.job) =
        other_settled a caller number given begun other (Some (verdict.Cancelled begun.job)) m differs none (over_after a.rules journal begun.job other m.rule after there free) in
        subst (IsStateOf a.rules longer other) (sym (are.later other after to ∙ is_overtaken begun.job (state_at old other) open_yet))
        (record {
          open_now = was.open_now ∙ sym opens;
          spent = was.spent ∙ sym spends;
          ending = subst (λ given. IsSome given × (Some (verdict.Cancelled begun.job) ≡ given)) (sym cancels) (refl, refl);
        })

    by_verdict : (o : Option Verdict) → settled a.rules journal other ≡ o → IsStateOf a.rules longer other (state_at new other)
    by_verdict (Some found) is =
        keeps (unchanged begun.job (last_of a.index.models (jobs journal)) old new other are (has_ending (state_at old other).ending (settled a.rules journal other) journal found was.ending is))
        (other_stays a caller number given begun other found m is)
    by_verdict None is = unsettled_case is (unsettled_free a.rules journal other m.kept.limits.some_attempt is) (nat_le other begun.job) refl (nat_le other (jobs journal)) refl

-- a model that cancels the later jobs
pub kept_overtaken : (a : Inside) (after : Vec Entry Global) (mid new : Index) (caller number place : ℕ) (given : Arc Answer Global) (begun : Attempt) → IsKept a → IsRunning a.journal.items caller number begun
    → (state_at a.index.jobs.items begun.job).ending ≡ None → IsRightAnswer a.rules.traces a.journal.items begun.job (arc_value given) → place ≡ vec_len a.journal
    → a.rules.first ≡ true → is_model (arc_value given) ≡ true
    → after.items ≡ a.journal.items ++ entry_by caller (event.Decided number given) ∷ [] → vec_capacity after ≡ vec_capacity a.journal
    → IsOvertaking a mid new begun.job place
    → IsKept (record a { journal = after; index = new })
kept_overtaken a after mid new caller number place given begun kept running none right here rule model more capacity walk =
    let happened : Event = event.Decided number given in
    let journal : List Entry = a.journal.items in
    let entry : Entry = entry_by caller happened in
    let longer : List Entry = journal ++ entry ∷ [] in
    let decision : Decision = record { number = number; given = given } in
    let unsettled : settled a.rules journal begun.job ≡ None = unsettled_at a begun.job kept none in
    let work = at_work a caller number begun kept running in
    let opened = work.opened in
    let total = work.total in
    let end : IsEnd caller happened number = record { begins = refl; ends = refl; adds = refl; shares = refl; closes = refl } in
    let one : models_on journal decision ≡ satisfied journal ++ begun.job ∷ [] = one_model journal number given begun running.found model in
    let m : IsModelled a caller number given begun = record { kept = kept; running = running; unsettled = unsettled; rule = rule; more = one } in
    let old : List JobState = a.index.jobs.items in
    let own : JobState = settled_state (ending.Answered place) (state_at old begun.job) in
    let size : length mid.jobs.items ≡ length old = ap length walk.written ∙ length-set old (begun.job - 1) own in
    let number_of : length old ≡ jobs journal = kept.index.jobs in
    let same_models : mid.models ≡ a.index.models = ap (λ (i : Index). i.models) walk.early in
    let are : AreOvertaken begun.job (last_of a.index.models (jobs journal)) mid.jobs.items new.jobs.items =
    subst (λ n. AreOvertaken begun.job (last_of a.index.models n) mid.jobs.items new.jobs.items) (size ∙ number_of)
    (subst (λ models. AreOvertaken begun.job (last_of models (length mid.jobs.items)) mid.jobs.items new.jobs.items) same_models walk.walked) in
    let named : verdict_in longer (ending.Answered place) ≡ Some (verdict.Answered given) =
    ap (option_and_then (λ (e : Entry). answered_by e.event)) (ap (slice_get longer) (here ∙ a.journal.ok.0) ∙ get_last journal entry) in
    let settles : settled a.rules longer begun.job ≡ Some (verdict.Answered given) =
    step a.rules journal caller happened begun.job (base_of a kept) ∙ ap (λ o. or_else o (verdict_by a.rules journal begun.job happened)) unsettled
    ∙ ap (λ b. or_else (given_if b (verdict.Answered given)) (over_of a.rules.first (jobs journal) (models_on journal decision) begun.job)) (at_own journal number begun running.found) in
    let ends_so : IsEndingOf longer (Some (ending.Answered place)) (settled a.rules longer begun.job) =
    subst (λ g. IsSome g × (verdict_in longer (ending.Answered place) ≡ g)) (sym settles) (refl, named) in
    let own_there : state_at mid.jobs.items begun.job ≡ own = ap (λ all. state_at all begun.job) walk.written ∙ state_set_same old begun.job own work.job_from work.job_there in
    let itself : begun.job ≤ begun.job = omega arith in
    let own_stands : IsStateOf a.rules longer begun.job (state_at new.jobs.items begun.job) =
    subst (IsStateOf a.rules longer begun.job) (sym (are.others begun.job (inl itself) ∙ own_there))
    (own_ended a.rules journal a.index caller happened number begun own (base_of a kept) kept.index end running.found running.open_yet (omega arith)
    ((kept.index.states begun.job).spent ∙ sym (spent_same journal entry begun.job refl refl)) ends_so) in
    let stand : (other : ℕ) → IsStateOf a.rules longer other (state_at new.jobs.items other) = λ other.
    all_stand a caller number given begun other mid.jobs.items new.jobs.items own m work.job_from walk.written are own_stands (same_or_other other begun.job) in
    let count : length new.jobs.items ≡ length old = are.same_number ∙ size in
    let tally : settled_jobs a.rules longer ≡ ended_up_to new.jobs.items (length mid.jobs.items) =
    ap (settled_up_to a.rules longer) (ap length (same_segments journal entry refl) ∙ sym number_of ∙ sym size) ∙ tally_states a.rules longer new.jobs.items (length mid.jobs.items) stand in
    let before : a.index.settled ≡ ended_up_to old (length mid.jobs.items) =
    kept.index.settled ∙ ap (settled_up_to a.rules journal) (sym number_of ∙ sym size) ∙ tally_states a.rules journal old (length mid.jobs.items) kept.index.states in
    let there = work.job_there in
    let between : ended_up_to mid.jobs.items (length mid.jobs.items) ≡ ended_up_to old (length mid.jobs.items) + 1 =
    ap (λ all. ended_up_to all (length mid.jobs.items)) walk.written
    ∙ ended_one old begun.job own (length mid.jobs.items) work.job_from (omega arith) there (ap is_some none) refl in
    let early : mid.settled ≡ a.index.settled + 1 = ap (λ (i : Index). i.settled) walk.early in
    let counted = walk.counted in
    let no_fewer = walk.no_fewer in
    let tallied : new.settled ≡ settled_jobs a.rules longer = omega arith in
    let shape : new ≡ record a.index { jobs = new.jobs; waiting = new.waiting; settled = new.settled; open_now = a.index.open_now - 1; models = Some (models_after a.index.models begun.job) } =
    walk.rest ∙ ap (λ i. overtaken_at i new begun.job) walk.early in
    subst (λ i. IsKept (record a { journal = after; index = i })) (sym shape)
    (kept_ended_with a after caller happened number begun new.jobs new.waiting new.settled (a.index.open_now - 1) (Some (models_after a.index.models begun.job)) kept end running
    (record { begun = begun; running = running; unsettled = unsettled; right = right }) stand count tallied (omega arith) (omega arith) more capacity walk.ranked
    (models_more a.rules journal longer a.index.models begun.job (one_more_model journal entry decision refl refl ∙ one) rule (job_in_longer journal entry begun.job refl work.job_to)
    (let e = ap length (same_segments journal entry refl) in omega arith) kept.index.models))
  where
    job_in_longer : (journal : List Entry) (entry : Entry) (job : ℕ) → segment_of entry.event ≡ None → job ≤ jobs journal → job ≤ jobs (journal ++ entry ∷ [])
    job_in_longer journal entry job adds le = let e = ap length (same_segments journal entry adds) in omega arith

    all_stand : (a : Inside) (caller number : ℕ) (given : Arc Answer Global) (begun : Attempt) (other : ℕ) (mid new : List JobState) (own : JobState) → IsModelled a caller number given begun → 1 ≤ begun.job
        → mid ≡ slice_set a.index.jobs.items (begun.job - 1) own → AreOvertaken begun.job (last_of a.index.models (jobs a.journal.items)) mid new
        → IsStateOf a.rules (a.journal.items ++ entry_by caller (event.Decided number given) ∷ []) begun.job (state_at new begun.job)
        → (other ≡ begun.job) ⊎ (other ≢ begun.job)
        → IsStateOf a.rules (a.journal.items ++ entry_by caller (event.Decided number given) ∷ []) other (state_at new other)
    all_stand a caller number given begun other mid new own m from written are here (inl same) =
        subst (λ n. IsStateOf a.rules (a.journal.items ++ entry_by caller (event.Decided number given) ∷ []) n (state_at new n)) (sym same) here
    all_stand a caller number given begun other mid new own m from written are here (inr differs) =
        other_stands a caller number given begun other mid new m differs
        (ap (λ all. state_at all other) written ∙ state_set_other a.index.jobs.items begun.job other own from differs) are

pub both_true : (b c : Bool) → (b && c) ≡ true → (b ≡ true) × (c ≡ true)
both_true true true is = (refl, refl)
both_true true false is = absurd (cc)
both_true false c is = absurd (cc)
