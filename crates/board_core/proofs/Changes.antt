-- The index after one more entry, by the kind of the entry.
use Rattle.std.proofs.Common.{Option, ◌≡◌, ◌∙◌, ◌≢◌, ◌⊎◌, inl, inr, ℕ, zero, suc, ◌+◌, ◌-◌, ◌<◌, ◌≤◌, Bool, true, false, cond, Some, None, List, [], ◌∷◌, ◌++◌, map, length, refl, ap, sym, subst, arith, ◌==◌, Vec, length-append}
use Rattle.std.specs.Prelude.{count_by, sum_by, IsSome, is_some, slice_get, slice_set, if◌then◌else◌}
use Rattle.std.specs.Arc.{arc_value}
use Rattle.std.specs.declared.sync.Arc.{Arc}
use Rattle.std.specs.declared.alloc.Global.{Global}
use Rattle.std.proofs.lemmas.Bool.Decides.{nat_tests}
use Rattle.std.proofs.lemmas.List.{map_push, length_push, length-set, append-nil, length-map}
use Rattle.std.proofs.lemmas.List.Sums.{sum_by_push}
use Rattle.trace_core.specs.Known.{Known}
use Rattle.trace_core.specs.declared.derivation.Packet.{Packet}
use Rattle.entry_core.specs.declared.answers.Verdict.{Verdict}
use Rattle.entry_core.specs.declared.answers.Verdict.TheVariants as verdict
use Rattle.entry_core.specs.declared.entries.Entry.{Entry}
use Rattle.entry_core.specs.declared.entries.Event.{Event}
use Rattle.entry_core.specs.declared.entries.Event.TheVariants as event
use Rattle.entry_core.specs.declared.rules.Rules.{Rules}
use Rattle.entry_core.specs.declared.segments.Segment.{Segment}
use Rattle.entry_core.specs.Journal.{segment_of, segments, jobs, tagged_from, inputs, literals, segment_literals, packet_of, packets}
use Rattle.entry_core.specs.Attempts.{Attempt, begun_by, attempts, ended_by, is_open, open_attempts, spent_attempts}
use Rattle.entry_core.specs.Settled.{decision_of, satisfied, or_else, given_if, settled, settled_up_to, settled_jobs}
use Rattle.entry_core.proofs.LongerJournals.{tagged-append}
use Rattle.board_core.specs.declared.index.Ending.TheVariants as ending
use Rattle.board_core.specs.declared.rank.Rank.{Rank}
use Rattle.board_core.specs.declared.index.JobState.{JobState}
use Rattle.board_core.specs.declared.index.Index.{Index}
use Rattle.board_core.specs.Index.{new_job, or_new, state_at, IsEndingOf, IsStateOf, IsOrderly, IsIndexOf}
use Rattle.board_core.proofs.Readings.{IsFree, over_of, unsettled_free, unread, read_on, or_none, closed_push, closed_now, place_unread, closing_unread}
use Rattle.board_core.specs.Overtaking.{IsModelsOf, next_ending}
use Rattle.board_core.proofs.Verdicts.{entry_by, verdict_by, settled_step, same_models}
use Rattle.board_core.proofs.Models.{models_stay, over_more, next_over}
use Rattle.entry_core.proofs.OpenAttempts.{open_same}
use Rattle.board_core.proofs.Tallies.{tally_same, tally_one}
use Rattle.board_core.proofs.Indexed.{ending_stays, ending_some, spent_same}

-- what the steps below stand on
pub record IsBase (rules : Rules) (journal : List Entry) : Type 0 where
  pub some : 1 ≤ rules.attempts
  pub orderly : IsOrderly journal

pub step : (rules : Rules) (journal : List Entry) (caller : ℕ) (happened : Event) (job : ℕ) → IsBase rules journal
    → settled rules (journal ++ entry_by caller happened ∷ []) job ≡ or_else (settled rules journal job) (verdict_by rules journal job happened)
step rules journal caller happened job base = settled_step rules journal caller happened job base.some base.orderly

pub same_state : (rules : Rules) (journal : List Entry) (entry : Entry) (job : ℕ) (state : JobState) → IsStateOf rules journal job state
    → open_attempts (journal ++ entry ∷ []) job ≡ open_attempts journal job → spent_attempts (journal ++ entry ∷ []) job ≡ spent_attempts journal job
    → settled rules (journal ++ entry ∷ []) job ≡ settled rules journal job → IsStateOf rules (journal ++ entry ∷ []) job state
same_state rules journal entry job state is opens spends settles = record {
  open_now = is.open_now ∙ sym opens;
  spent = is.spent ∙ sym spends;
  ending = subst (IsEndingOf (journal ++ entry ∷ []) state.ending) (sym settles) (ending_stays journal (entry ∷ []) state.ending (settled rules journal job) is.ending);
}

-- readings of jobs, where no job is added
pub same_segments : (journal : List Entry) (entry : Entry) → segment_of entry.event ≡ None → segments (journal ++ entry ∷ []) ≡ segments journal
same_segments journal entry none = unread (λ (e : Entry). segment_of e.event) journal entry none

pub same_packets : (journal : List Entry) (entry : Entry) → packet_of entry.event ≡ None → packets (journal ++ entry ∷ []) ≡ packets journal
same_packets journal entry none = unread (λ (e : Entry). packet_of e.event) journal entry none

pub same_attempts : (journal : List Entry) (entry : Entry) → begun_by entry.caller entry.event ≡ None → attempts (journal ++ entry ∷ []) ≡ attempts journal
same_attempts journal entry none = unread (λ (e : Entry). begun_by e.caller e.event) journal entry none

pub same_tally : (rules : Rules) (journal : List Entry) (entry : Entry) → segment_of entry.event ≡ None → ((job : ℕ) → settled rules (journal ++ entry ∷ []) job ≡ settled rules journal job)
    → settled_jobs rules (journal ++ entry ∷ []) ≡ settled_jobs rules journal
same_tally rules journal entry none same =
    ap (λ all. settled_up_to rules (journal ++ entry ∷ []) (length all)) (same_segments journal entry none) ∙ tally_same rules journal (journal ++ entry ∷ []) (jobs journal) (λ job le. same job)

pub one_settled : (rules : Rules) (journal : List Entry) (entry : Entry) (job : ℕ) → segment_of entry.event ≡ None → 1 ≤ job → job ≤ jobs journal → settled rules journal job ≡ None
    → is_some (settled rules (journal ++ entry ∷ []) job) ≡ true → ((other : ℕ) → other ≢ job → settled rules (journal ++ entry ∷ []) other ≡ settled rules journal other)
    → settled_jobs rules (journal ++ entry ∷ []) ≡ settled_jobs rules journal + 1
one_settled rules journal entry job none from to unsettled now others =
    ap (λ all. settled_up_to rules (journal ++ entry ∷ []) (length all)) (same_segments journal entry none)
    ∙ tally_one rules journal (journal ++ entry ∷ []) (jobs journal) job from to unsettled now others

pub open_total : (journal : List Entry) (entry : Entry) → begun_by entry.caller entry.event ≡ None → ended_by entry.event ≡ None
    → count_by (is_open (journal ++ entry ∷ [])) (attempts (journal ++ entry ∷ [])) ≡ count_by (is_open journal) (attempts journal)
open_total journal entry begins ends = open_same (λ n. true) journal entry begins ends

-- the models, where none comes
pub models_same : (rules : Rules) (journal : List Entry) (index : Index) (entry : Entry) → begun_by entry.caller entry.event ≡ None → decision_of entry.event ≡ None → segment_of entry.event ≡ None → IsIndexOf rules journal index
    → IsModelsOf rules (journal ++ entry ∷ []) index.models
models_same rules journal index entry begins decides adds is =
    models_stay rules journal (journal ++ entry ∷ []) index.models (same_models journal entry begins decides) (let e = ap length (same_segments journal entry adds) in omega arith) is.models

-- the closing
pub index_closed : (rules : Rules) (journal : List Entry) (index : Index) (caller place : ℕ) → IsBase rules journal → IsIndexOf rules journal index → index.closed ≡ None → place ≡ length journal + 1
    → IsIndexOf rules (journal ++ entry_by caller event.Closed ∷ []) (record index { closed = Some place })
index_closed rules journal index caller place base is none here =
    let entry : Entry = entry_by caller event.Closed in
    let stays : (job : ℕ) → settled rules (journal ++ entry ∷ []) job ≡ settled rules journal job = λ job. step rules journal caller event.Closed job base ∙ or_none (settled rules journal job) in
    record {
      jobs = is.jobs ∙ ap length (sym (same_segments journal entry refl));
      states = λ job. same_state rules journal entry job (state_at index.jobs.items job) (is.states job) (open_same (λ n. n == job) journal entry refl refl) (spent_same journal entry job refl refl) (stays job);
      segments = is.segments ∙ sym (same_segments journal entry refl);
      packets = is.packets ∙ sym (same_packets journal entry refl);
      begun = ap (map (λ (attempt : Attempt). attempt.job)) (same_attempts journal entry refl) ∙ is.begun;
      place = ap Some here ∙ sym (closed_push journal entry refl (sym is.place ∙ none));
      closed = sym (closed_now journal entry refl);
      clauses = is.clauses ∙ ap (λ all. length (tagged_from 1 all)) (sym (same_segments journal entry refl));
      literals = is.literals ∙ ap (sum_by segment_literals) (sym (same_segments journal entry refl));
      settled = is.settled ∙ sym (same_tally rules journal entry refl stays);
      open_now = is.open_now ∙ sym (open_total journal entry refl refl);
      models = models_same rules journal index entry refl refl refl is;
    }

-- a shared packet
pub index_shared : (rules : Rules) (journal : List Entry) (index : Index) (caller : ℕ) (packet copy : Arc Packet Global) (kept : Vec (Arc Packet Global) Global) → IsBase rules journal → IsIndexOf rules journal index
    → kept.items ≡ index.packets.items ++ copy ∷ [] → arc_value copy ≡ arc_value packet
    → IsIndexOf rules (journal ++ entry_by caller (event.Shared packet) ∷ []) (record index { packets = kept })
index_shared rules journal index caller packet copy kept base is more same =
    let entry : Entry = entry_by caller (event.Shared packet) in
    let stays : (job : ℕ) → settled rules (journal ++ entry ∷ []) job ≡ settled rules journal job = λ job. step rules journal caller (event.Shared packet) job base ∙ or_none (settled rules journal job) in
    record {
      jobs = is.jobs ∙ ap length (sym (same_segments journal entry refl));
      states = λ job. same_state rules journal entry job (state_at index.jobs.items job) (is.states job) (open_same (λ n. n == job) journal entry refl refl) (spent_same journal entry job refl refl) (stays job);
      segments = is.segments ∙ sym (same_segments journal entry refl);
      packets = ap (map arc_value) more ∙ map_push arc_value index.packets.items copy ∙ ap (λ all. all ++ arc_value copy ∷ []) is.packets ∙ ap (λ last. packets journal ++ last ∷ []) same
          ∙ sym (read_on (λ (e : Entry). packet_of e.event) journal entry (arc_value packet) refl);
      begun = ap (map (λ (attempt : Attempt). attempt.job)) (same_attempts journal entry refl) ∙ is.begun;
      place = is.place ∙ sym (place_unread journal entry refl);
      closed = is.closed ∙ sym (closing_unread journal entry refl);
      clauses = is.clauses ∙ ap (λ all. length (tagged_from 1 all)) (sym (same_segments journal entry refl));
      literals = is.literals ∙ ap (sum_by segment_literals) (sym (same_segments journal entry refl));
      settled = is.settled ∙ sym (same_tally rules journal entry refl stays);
      open_now = is.open_now ∙ sym (open_total journal entry refl refl);
      models = models_same rules journal index entry refl refl refl is;
    }

-- places among the states
get_set_same : {X : Type 0} (xs : List X) (i : ℕ) (x : X) → i < length xs → slice_get (slice_set xs i x) i ≡ Some x
get_set_same [] i x lt = absurd (omega arith)
get_set_same (y ∷ ys) zero x lt = refl
get_set_same (y ∷ ys) (suc i) x lt = get_set_same ys i x (omega arith)

get_set_other : {X : Type 0} (xs : List X) (i k : ℕ) (x : X) → k ≢ i → slice_get (slice_set xs i x) k ≡ slice_get xs k
get_set_other [] i k x differs = refl
get_set_other (y ∷ ys) zero zero x differs = absurd (differs refl)
get_set_other (y ∷ ys) zero (suc k) x differs = refl
get_set_other (y ∷ ys) (suc i) zero x differs = refl
get_set_other (y ∷ ys) (suc i) (suc k) x differs = get_set_other ys i k x (λ h. differs (ap suc h))

pub state_set_same : (states : List JobState) (job : ℕ) (state : JobState) → 1 ≤ job → job ≤ length states → state_at (slice_set states (job - 1) state) job ≡ state
state_set_same states job state from to =
    let some : (job == 0) ≡ false = grind (arith, nat_tests) in
    ap (λ b. or_new (cond b None (slice_get (slice_set states (job - 1) state) (job - 1)))) some ∙ ap or_new (get_set_same states (job - 1) state (omega arith))

pub state_set_other : (states : List JobState) (job other : ℕ) (state : JobState) → 1 ≤ job → other ≢ job → state_at (slice_set states (job - 1) state) other ≡ state_at states other
state_set_other states job other state from differs = by_zero (other == 0) refl
  where
    by_zero : (b : Bool) → (other == 0) ≡ b → or_new (cond b None (slice_get (slice_set states (job - 1) state) (other - 1))) ≡ or_new (cond b None (slice_get states (other - 1)))
    by_zero true h = refl
    by_zero false h =
        let some : 1 ≤ other = grind (arith, nat_tests) in
        ap or_new (get_set_other states (job - 1) (other - 1) state (λ same. differs (omega arith)))

get_push : (states : List JobState) (state : JobState) (i : ℕ) → i ≢ length states → or_new (slice_get (states ++ state ∷ []) i) ≡ or_new (slice_get states i)
get_push [] state zero differs = absurd (differs refl)
get_push [] state (suc i) differs = refl
get_push (other ∷ states) state zero differs = refl
get_push (other ∷ states) state (suc i) differs = get_push states state i (λ same. differs (ap suc same))

get_pushed : (states : List JobState) (state : JobState) → slice_get (states ++ state ∷ []) (length states) ≡ Some state
get_pushed [] state = refl
get_pushed (other ∷ states) state = get_pushed states state

-- the states where one came
pub state_push : (states : List JobState) (state : JobState) (job : ℕ) → job ≢ suc (length states) → state_at (states ++ state ∷ []) job ≡ state_at states job
state_push states state job differs = by_zero (job == 0) refl
  where
    by_zero : (b : Bool) → (job == 0) ≡ b → or_new (cond b None (slice_get (states ++ state ∷ []) (job - 1))) ≡ or_new (cond b None (slice_get states (job - 1)))
    by_zero true h = refl
    by_zero false h =
        let some : 1 ≤ job = grind (arith, nat_tests) in
        get_push states state (job - 1) (λ same. differs (omega arith))

pub state_pushed : (states : List JobState) (state : JobState) → state_at (states ++ state ∷ []) (suc (length states)) ≡ state
state_pushed states state =
    let some : (suc (length states) == 0) ≡ false = grind (arith, nat_tests) in
    let place : suc (length states) - 1 ≡ length states = omega arith in
    ap (λ b. or_new (cond b None (slice_get (states ++ state ∷ []) (suc (length states) - 1)))) some
    ∙ ap (λ n. or_new (slice_get (states ++ state ∷ []) n)) place ∙ ap or_new (get_pushed states state)

pub same_or_other : (other job : ℕ) → (other ≡ job) ⊎ (other ≢ job)
same_or_other other job = by_test (other == job) refl
  where
    by_test : (b : Bool) → (other == job) ≡ b → (other ≡ job) ⊎ (other ≢ job)
    by_test true h = inl (grind (arith, nat_tests))
    by_test false h = inr (λ same. absurd (grind (arith, nat_tests)))

-- the states where one was written
pub states_set : (rules : Rules) (journal : List Entry) (states : List JobState) (job : ℕ) (state : JobState) → 1 ≤ job → job ≤ length states → IsStateOf rules journal job state
    → ((other : ℕ) → other ≢ job → IsStateOf rules journal other (state_at states other)) → (other : ℕ) → IsStateOf rules journal other (state_at (slice_set states (job - 1) state) other)
states_set rules journal states job state from to own others other = by_place (same_or_other other job)
  where
    by_place : (other ≡ job) ⊎ (other ≢ job) → IsStateOf rules journal other (state_at (slice_set states (job - 1) state) other)
    by_place (inl same) =
        subst (λ n. IsStateOf rules journal n (state_at (slice_set states (job - 1) state) n)) (sym same) (subst (IsStateOf rules journal job) (sym (state_set_same states job state from to)) own)
    by_place (inr differs) = subst (IsStateOf rules journal other) (sym (state_set_other states job other state from differs)) (others other differs)

test_same : (n : ℕ) → (n == n) ≡ true
test_same n = grind (arith, nat_tests)

test_other : (n k : ℕ) → k ≢ n → (n == k) ≡ false
test_other n k differs = grind (arith, nat_tests)

-- a cancelled job
pub index_cancelled : (rules : Rules) (journal : List Entry) (index : Index) (caller job : ℕ) (states : Vec JobState Global) (waiting : List (Option Rank)) → IsBase rules journal → IsIndexOf rules journal index
    → 1 ≤ job → job ≤ jobs journal → settled rules journal job ≡ None → states.items ≡ slice_set index.jobs.items (job - 1) (record (state_at index.jobs.items job) { ending = Some (ending.Cancelled 0) })
    → IsIndexOf rules (journal ++ entry_by caller (event.Cancelled job) ∷ []) (record index { jobs = states; waiting = waiting; settled = index.settled + 1 })
index_cancelled rules journal index caller job states waiting base is from to unsettled written =
    let entry : Entry = entry_by caller (event.Cancelled job) in
    let longer : List Entry = journal ++ entry ∷ [] in
    let cancels : settled rules longer job ≡ Some (verdict.Cancelled 0) =
    step rules journal caller (event.Cancelled job) job base ∙ ap (λ o. or_else o (given_if (job == job) (verdict.Cancelled 0))) unsettled ∙ ap (λ b. given_if b (verdict.Cancelled 0)) (test_same job) in
    let others : (other : ℕ) → other ≢ job → settled rules longer other ≡ settled rules journal other = λ other differs.
    step rules journal caller (event.Cancelled job) other base ∙ ap (λ b. or_else (settled rules journal other) (given_if b (verdict.Cancelled 0))) (test_other job other differs) ∙ or_none (settled rules journal other) in
    let opens : (other : ℕ) → open_attempts longer other ≡ open_attempts journal other = λ other. open_same (λ n. n == other) journal entry refl refl in
    let spends : (other : ℕ) → spent_attempts longer other ≡ spent_attempts journal other = λ other. spent_same journal entry other refl refl in
    let before : JobState = state_at index.jobs.items job in
    let was : IsStateOf rules journal job before = is.states job in
    let own : IsStateOf rules longer job (record before { ending = Some (ending.Cancelled 0) }) = record {
      open_now = was.open_now ∙ sym (opens job);
      spent = was.spent ∙ sym (spends job);
      ending = subst (λ given. IsSome given × (Some (verdict.Cancelled 0) ≡ given)) (sym cancels) (refl, refl);
    } in
    let there : job ≤ length index.jobs.items = let e = is.jobs in omega arith in
    record {
      jobs = ap length written ∙ length-set index.jobs.items (job - 1) (record before { ending = Some (ending.Cancelled 0) }) ∙ is.jobs ∙ ap length (sym (same_segments journal entry refl));
      states = subst (λ items. (other : ℕ) → IsStateOf rules longer other (state_at items other)) (sym written)
          (states_set rules longer index.jobs.items job (record before { ending = Some (ending.Cancelled 0) }) from there own
          (λ other differs. same_state rules journal entry other (state_at index.jobs.items other) (is.states other) (opens other) (spends other) (others other differs)));
      segments = is.segments ∙ sym (same_segments journal entry refl);
      packets = is.packets ∙ sym (same_packets journal entry refl);
      begun = ap (map (λ (attempt : Attempt). attempt.job)) (same_attempts journal entry refl) ∙ is.begun;
      place = is.place ∙ sym (place_unread journal entry refl);
      closed = is.closed ∙ sym (closing_unread journal entry refl);
      clauses = is.clauses ∙ ap (λ all. length (tagged_from 1 all)) (sym (same_segments journal entry refl));
      literals = is.literals ∙ ap (sum_by segment_literals) (sym (same_segments journal entry refl));
      settled = ap (λ n. n + 1) is.settled ∙ sym (one_settled rules journal entry job refl from to unsettled (ap is_some cancels) others);
      open_now = is.open_now ∙ sym (open_total journal entry refl refl);
      models = models_same rules journal index entry refl refl refl is;
    }

-- vectors that have the same items
pub index_grown : (rules : Rules) (journal : List Entry) (index : Index) (states : Vec JobState Global) (added : Vec (Arc Segment Global) Global) (kept : Vec (Arc Packet Global) Global) (begun : Vec ℕ Global) (waiting : List (Option Rank))
    → states.items ≡ index.jobs.items → added.items ≡ index.segments.items → kept.items ≡ index.packets.items → begun.items ≡ index.attempts.items → IsIndexOf rules journal index
    → IsIndexOf rules journal (record index { jobs = states; segments = added; packets = kept; attempts = begun; waiting = waiting })
index_grown rules journal index states added kept begun waiting same_states same_added same_kept same_begun is = record {
  jobs = ap length same_states ∙ is.jobs;
  states = subst (λ items. (job : ℕ) → IsStateOf rules journal job (state_at items job)) (sym same_states) is.states;
  segments = ap (map arc_value) same_added ∙ is.segments;
  packets = ap (map arc_value) same_kept ∙ is.packets;
  begun = is.begun ∙ sym same_begun;
  place = is.place;
  closed = is.closed;
  clauses = is.clauses;
  literals = is.literals;
  settled = is.settled;
  open_now = is.open_now;
  models = is.models;
}

get_past : (states : List JobState) (place : ℕ) → length states ≤ place → slice_get states place ≡ None
get_past [] place le = refl
get_past (state ∷ states) zero le = absurd (omega arith)
get_past (state ∷ states) (suc place) le = get_past states place (omega arith)

-- a job that isn't there yet stands as a new one
next_state : (rules : Rules) (journal : List Entry) (index : Index) → IsIndexOf rules journal index → state_at index.jobs.items (suc (jobs journal)) ≡ new_job
next_state rules journal index is =
    let some : (suc (jobs journal) == 0) ≡ false = grind (arith, nat_tests) in
    let place : suc (jobs journal) - 1 ≡ jobs journal = omega arith in
    ap (λ b. or_new (cond b None (slice_get index.jobs.items (suc (jobs journal) - 1)))) some
    ∙ ap (λ n. or_new (slice_get index.jobs.items n)) place ∙ ap or_new (get_past index.jobs.items (jobs journal) (let e = is.jobs in omega arith))

-- and isn't settled
pub next_unsettled : (rules : Rules) (journal : List Entry) (index : Index) → IsIndexOf rules journal index → settled rules journal (suc (jobs journal)) ≡ None
next_unsettled rules journal index is =
    subst (λ (state : JobState). IsEndingOf journal state.ending (settled rules journal (suc (jobs journal)))) (next_state rules journal index is) (is.states (suc (jobs journal))).ending

one_segment : (job : ℕ) (segment : Segment) → length (tagged_from job (segment ∷ [])) ≡ length segment.clauses
one_segment job segment =
    let tagged : List Known = map (λ clause. record { clause = clause; tag = job }) segment.clauses in
    ap length (append-nil tagged) ∙ length-map segment.clauses (λ clause. record { clause = clause; tag = job })

pub inputs_push : (journal : List Entry) (entry : Entry) (segment : Segment) → segments (journal ++ entry ∷ []) ≡ segments journal ++ segment ∷ []
    → length (inputs (journal ++ entry ∷ [])) ≡ length (inputs journal) + length segment.clauses
inputs_push journal entry segment more =
    ap (λ all. length (tagged_from 1 all)) more ∙ ap length (tagged-append 1 (segments journal) (segment ∷ []))
    ∙ length-append (inputs journal) (tagged_from (1 + length (segments journal)) (segment ∷ [])) ∙ ap (λ n. length (inputs journal) + n) (one_segment (1 + length (segments journal)) segment)

pub literals_push : (journal : List Entry) (entry : Entry) (segment : Segment) → segments (journal ++ entry ∷ []) ≡ segments journal ++ segment ∷ []
    → literals (journal ++ entry ∷ []) ≡ literals journal + segment_literals segment
literals_push journal entry segment more = ap (sum_by segment_literals) more ∙ sum_by_push segment_literals (segments journal) segment

pub jobs_push : (journal : List Entry) (entry : Entry) (segment : Segment) → segments (journal ++ entry ∷ []) ≡ segments journal ++ segment ∷ [] → jobs (journal ++ entry ∷ []) ≡ suc (jobs journal)
jobs_push journal entry segment more = let one : length (segments journal ++ segment ∷ []) ≡ length (segments journal) + 1 = length_push (segments journal) segment in ap length more ∙ one ∙ omega arith

-- where a job stands that comes after these models
abbrev pub added_state : Index → JobState
added_state index = record { open_now = 0; spent = 0; ending = next_ending index.models }

-- one job more gives no verdict to another
stays_by : (rules : Rules) (journal : List Entry) (job : ℕ) → 1 ≤ rules.attempts → job ≢ suc (jobs journal)
    → or_else (settled rules journal job) (over_of rules.first (suc (jobs journal)) (satisfied journal) job) ≡ settled rules journal job
stays_by rules journal job some differs = by_verdict (settled rules journal job) refl
  where
    by_verdict : (given : Option Verdict) → settled rules journal job ≡ given → or_else given (over_of rules.first (suc (jobs journal)) (satisfied journal) job) ≡ given
    by_verdict (Some found) is = refl
    by_verdict None is =
        let free : IsFree rules journal job = unsettled_free rules journal job some is in
        over_more rules.first (jobs journal) (satisfied journal) job differs ∙ free.not_overtaken

-- a job more
pub index_added : (rules : Rules) (journal : List Entry) (index : Index) (caller : ℕ) (segment copy : Arc Segment Global) (states : Vec JobState Global) (added : Vec (Arc Segment Global) Global) (waiting : List (Option Rank)) (clauses occurrences tally : ℕ)
    → IsBase rules journal → IsIndexOf rules journal index → states.items ≡ index.jobs.items ++ added_state index ∷ [] → added.items ≡ index.segments.items ++ copy ∷ [] → arc_value copy ≡ arc_value segment
    → clauses ≡ length (arc_value segment).clauses → occurrences ≡ segment_literals (arc_value segment) → tally ≡ (if is_some (next_ending index.models) then 1 else 0)
    → IsIndexOf rules (journal ++ entry_by caller (event.Added segment) ∷ [])
    (record index { jobs = states; segments = added; waiting = waiting; clauses = index.clauses + clauses; literals = index.literals + occurrences; settled = index.settled + tally })
index_added rules journal index caller segment copy states added waiting clauses occurrences tally base is more_states more_added same same_clauses same_literals tallied =
    let entry : Entry = entry_by caller (event.Added segment) in
    let longer : List Entry = journal ++ entry ∷ [] in
    let next : ℕ = suc (jobs journal) in
    let more : segments longer ≡ segments journal ++ arc_value segment ∷ [] = read_on (λ (e : Entry). segment_of e.event) journal entry (arc_value segment) refl in
    let one_more : jobs longer ≡ next = jobs_push journal entry (arc_value segment) more in
    let stays : (job : ℕ) → job ≢ next → settled rules longer job ≡ settled rules journal job = λ job differs.
    step rules journal caller (event.Added segment) job base ∙ stays_by rules journal job base.some differs in
    let settles : settled rules longer next ≡ over_of rules.first next (satisfied journal) next =
    step rules journal caller (event.Added segment) next base ∙ ap (λ o. or_else o (over_of rules.first next (satisfied journal) next)) (next_unsettled rules journal index is) in
    let next_ends : IsEndingOf longer (next_ending index.models) (settled rules longer next) =
    subst (IsEndingOf longer (next_ending index.models)) (sym settles) (next_over rules journal longer index.models is.models) in
    let was : IsStateOf rules journal next new_job = subst (IsStateOf rules journal next) (next_state rules journal index is) (is.states next) in
    let own : IsStateOf rules longer next (added_state index) = record {
      open_now = was.open_now ∙ sym (open_same (λ n. n == next) journal entry refl refl);
      spent = was.spent ∙ sym (spent_same journal entry next refl refl);
      ending = next_ends;
    } in
    let place : suc (length index.jobs.items) ≡ next = ap suc is.jobs in
    let by_job : (job : ℕ) → (job ≡ next) ⊎ (job ≢ next) → IsStateOf rules longer job (state_at (index.jobs.items ++ added_state index ∷ []) job) = λ job which. stands job which own place stays in
    record {
      jobs = ap length more_states ∙ length_push index.jobs.items (added_state index) ∙ ap (λ n. n + 1) is.jobs ∙ (let e : jobs journal + 1 ≡ next = omega arith in e) ∙ sym one_more;
      states = subst (λ items. (job : ℕ) → IsStateOf rules longer job (state_at items job)) (sym more_states) (λ job. by_job job (same_or_other job next));
      segments = ap (map arc_value) more_added ∙ map_push arc_value index.segments.items copy ∙ ap (λ all. all ++ arc_value copy ∷ []) is.segments ∙ ap (λ last. segments journal ++ last ∷ []) same ∙ sym more;
      packets = is.packets ∙ sym (same_packets journal entry refl);
      begun = ap (map (λ (attempt : Attempt). attempt.job)) (same_attempts journal entry refl) ∙ is.begun;
      place = is.place ∙ sym (place_unread journal entry refl);
      closed = is.closed ∙ sym (closing_unread journal entry refl);
      clauses = let a = is.clauses in let b = inputs_push journal entry (arc_value segment) more in omega arith;
      literals = let a = is.literals in let b = literals_push journal entry (arc_value segment) more in omega arith;
      settled = ap (λ n. n + tally) is.settled ∙ ap (λ n. settled_jobs rules journal + n) (tallied ∙ ap (λ b. if b then 1 else 0) (ending_some longer (next_ending index.models) (settled rules longer next) next_ends))
          ∙ sym (ap (settled_up_to rules longer) one_more
          ∙ ap (λ n. n + (if is_some (settled rules longer next) then 1 else 0)) (tally_same rules journal longer (jobs journal) (λ job le. stays job (λ h. absurd (omega arith)))));
      open_now = is.open_now ∙ sym (open_total journal entry refl refl);
      models = models_stay rules journal longer index.models (same_models journal entry refl refl) (omega arith) is.models;
    }
  where
    stands : (job : ℕ) → (job ≡ suc (jobs journal)) ⊎ (job ≢ suc (jobs journal)) → IsStateOf rules (journal ++ entry_by caller (event.Added segment) ∷ []) (suc (jobs journal)) (added_state index)
        → suc (length index.jobs.items) ≡ suc (jobs journal) → ((job : ℕ) → job ≢ suc (jobs journal) → settled rules (journal ++ entry_by caller (event.Added segment) ∷ []) job ≡ settled rules journal job)
        → IsStateOf rules (journal ++ entry_by caller (event.Added segment) ∷ []) job (state_at (index.jobs.items ++ added_state index ∷ []) job)
    stands job (inl itself) own place stays =
        subst (λ n. IsStateOf rules (journal ++ entry_by caller (event.Added segment) ∷ []) n (state_at (index.jobs.items ++ added_state index ∷ []) n)) (place ∙ sym itself)
        (subst (λ state. IsStateOf rules (journal ++ entry_by caller (event.Added segment) ∷ []) (suc (length index.jobs.items)) state) (sym (state_pushed index.jobs.items (added_state index)))
        (subst (λ n. IsStateOf rules (journal ++ entry_by caller (event.Added segment) ∷ []) n (added_state index)) (sym place) own))
    stands job (inr differs) own place stays =
        subst (IsStateOf rules (journal ++ entry_by caller (event.Added segment) ∷ []) job) (sym (state_push index.jobs.items (added_state index) job (λ h. differs (h ∙ place))))
        (same_state rules journal (entry_by caller (event.Added segment)) job (state_at index.jobs.items job) (is.states job) (open_same (λ n. n == job) journal (entry_by caller (event.Added segment)) refl refl)
        (spent_same journal (entry_by caller (event.Added segment)) job refl refl) (stays job differs))
