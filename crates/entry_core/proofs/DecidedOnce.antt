-- No job of a legal journal is decided twice.
use Rattle.std.proofs.Common.{◌≡◌, ◌∙◌, ℕ, zero, suc, ◌+◌, ◌-◌, ◌<◌, Bool, true, false, cond, Option}
use Rattle.std.proofs.Common.{Some, None, List, [], ◌∷◌, ◌++◌, length, refl, ap, subst, sym, inl, inr}
use Rattle.std.proofs.Common.{arith, append_assoc, ◌==◌}
use Rattle.std.specs.Prelude.{◌⊎◌, Contains, find, option_map, slice_get}
use Rattle.std.proofs.lemmas.Bool.{cases_order}
use Rattle.std.proofs.lemmas.Bool.Decides.{nat_tests}
use Rattle.std.proofs.lemmas.List.{length_push}
use Rattle.std.proofs.lemmas.Option.{same_Some}
use Rattle.sat_base.proofs.Members.{Contains-cases}
use Rattle.trace_core.specs.Known.{item_at}
use Rattle.trace_core.proofs.Items.{nothing_in, item_at-found, item_at-contains, item_at-kept}
use Rattle.entry_core.specs.declared.answers.Verdict.{Verdict}
use Rattle.entry_core.specs.declared.answers.Verdict.TheVariants as verdict
use Rattle.entry_core.specs.declared.entries.Entry.{Entry}
use Rattle.entry_core.specs.declared.entries.Event.{Event}
use Rattle.entry_core.specs.declared.entries.Event.TheVariants as event
use Rattle.entry_core.specs.declared.rules.Rules.{Rules}
use Rattle.entry_core.specs.Attempts.{is_at, is_attempt_at}
use Rattle.entry_core.specs.Settled.{Decision, decision_of, decisions, job_of, or_else, answer_to}
use Rattle.entry_core.specs.Settled.{standing, settled_after, settled}
use Rattle.entry_core.specs.Legal.{IsAllowed, IsLegalAfter, IsLegal}
use Rattle.entry_core.specs.Law.{decided_by, Decides, JobsAreDecidedOnce}
use Rattle.entry_core.proofs.LegalEntries.{into_reading, legal_push, was_allowed, attempt_kept}
use Rattle.entry_core.proofs.LegalEntries.{own_kept}
use Rattle.entry_core.proofs.LongerJournals.{no_case_later}

-- the entry at a place was allowed after those at the places before it
record WasAllowedAt (rules : Rules) (journal : List Entry) (place : ℕ)
    (entry : Entry) : Type 0 where
  front : List Entry
  more : List Entry
  whole : front ++ more ≡ journal
  size : length front + 1 ≡ place
  legal : IsLegal rules front
  allowed : IsAllowed rules front entry.caller entry.event

allowed_at : (rules : Rules) (before rest : List Entry) (i : ℕ) (entry : Entry)
    → IsLegal rules before → IsLegalAfter rules before rest → slice_get rest i ≡ Some entry
    → WasAllowedAt rules (before ++ rest) (length before + i + 1) entry
allowed_at rules before [] i entry past legal is = absurd (cc)
allowed_at rules before (first ∷ rest) zero entry past legal is =
    let same : first ≡ entry = same_Some first entry is in
    record {
      front = before;
      more = first ∷ rest;
      whole = refl;
      size = omega arith;
      legal = past;
      allowed = subst (λ (e : Entry). IsAllowed rules before e.caller e.event) same legal.0;
    }
allowed_at rules before (first ∷ rest) (suc i) entry past legal is =
    let longer : length (before ++ first ∷ []) ≡ length before + 1 = length_push before first in
    let same : length (before ++ first ∷ []) + i + 1 ≡ length before + suc i + 1 = omega arith in
    subst (λ n. WasAllowedAt rules (before ++ first ∷ rest) n entry) same
    (subst (λ all. WasAllowedAt rules all (length (before ++ first ∷ []) + i + 1) entry)
    (append_assoc before (first ∷ []) rest)
    (allowed_at rules (before ++ first ∷ []) rest i entry
    (legal_push rules before first past legal.0) legal.1 is))

-- after these entries the job was unsettled, and an attempt at it was ended by a decision
record HasDecided (rules : Rules) (front : List Entry) (happened : Event) (job : ℕ) : Type 0 where
  decision : Decision
  reads : decision_of happened ≡ Some decision
  own : is_attempt_at front job decision.number ≡ true
  unsettled : settled rules front job ≡ None

has_decided : (rules : Rules) (front more : List Entry) (caller : ℕ) (happened : Event) (job : ℕ)
    → decided_by (front ++ more) happened ≡ Some job → IsAllowed rules front caller happened
    → HasDecided rules front happened job
has_decided rules front more caller (event.Decided number given) job is allowed =
    let begun = allowed.begun in
    let kept = attempt_kept front more number begun allowed.running.found in
    let same : begun.job ≡ job = same_Some begun.job job (sym (ap job_of kept) ∙ is) in
    let itself : (begun.job == job) ≡ true = grind (arith, nat_tests) in
    record {
      decision = record { number = number; given = given };
      reads = refl;
      own = ap (is_at job) allowed.running.found ∙ itself;
      unsettled = subst (λ n. settled rules front n ≡ None) same allowed.unsettled;
    }
has_decided rules front more caller (event.Added segment) job is allowed = absurd (cc)
has_decided rules front more caller event.Closed job is allowed = absurd (cc)
has_decided rules front more caller (event.Cancelled other) job is allowed = absurd (cc)
has_decided rules front more caller (event.Began other number) job is allowed = absurd (cc)
has_decided rules front more caller (event.Shared packet) job is allowed = absurd (cc)
has_decided rules front more caller (event.Spent number learnt) job is allowed = absurd (cc)
has_decided rules front more caller (event.Dropped number) job is allowed = absurd (cc)
has_decided rules front more caller (event.Starved number) job is allowed = absurd (cc)

pub neither : (a b : Option Verdict) → or_else a b ≡ None → (a ≡ None) × (b ≡ None)
neither None b is = (refl, is)
neither (Some found) b is = absurd (cc)

-- Behind at least one entry no case stands for a job that isn't settled.
pub no_case : (rules : Rules) (journal : List Entry) (entry : Entry) (job : ℕ)
    → Contains journal entry → settled rules journal job ≡ None → standing rules journal job ≡ None
no_case rules [] entry job has is = nothing_in entry has
no_case rules (first ∷ rest) entry job has is =
    let now = standing rules (first ∷ []) job in
    let both = neither now (settled_after rules (first ∷ []) rest job) is in
    no_case_later rules (first ∷ []) rest job both.0 both.1

-- A list in which none is found has no member that passes.
none_found : {X A : Type 0} (test : X → Bool) (items : List X) (x : X) → Contains items x
    → test x ≡ true → find test items ≡ None → A
none_found test [] x has passes none = nothing_in x has
none_found {X} {A} test (item ∷ rest) x has passes none =
    by_test (test item) refl (Contains-cases item x rest has)
    (λ later h. none_found test rest x later passes h) none
  where
    by_test : (b : Bool) → test item ≡ b → (item ≡ x) ⊎ Contains rest x
        → (Contains rest x → find test rest ≡ None → A)
        → cond b (Some item) (find test rest) ≡ None → A
    by_test true is where_it_is recur h = absurd (cc)
    by_test false is (inl same) recur h =
        absurd (let e : false ≡ true = sym is ∙ ap test same ∙ passes in cc)
    by_test false is (inr later) recur h = recur later h

unmapped : (found : Option Decision)
    → option_map (λ (d : Decision). verdict.Answered d.given) found ≡ None → found ≡ None
unmapped None is = refl
unmapped (Some decision) is = absurd (cc)

-- A job with a decided attempt is settled.
pub is_settled : {A : Type 0} (rules : Rules) (journal : List Entry) (entry : Entry)
    (decision : Decision) (job : ℕ) → Contains journal entry
    → decision_of entry.event ≡ Some decision → is_attempt_at journal job decision.number ≡ true
    → settled rules journal job ≡ None → A
is_settled rules journal entry decision job has reads own none =
    let answer = (neither (answer_to journal job) _ (no_case rules journal entry job has none)).0 in
    none_found (λ (d : Decision). is_attempt_at journal job d.number) (decisions journal) decision
    (into_reading (λ (e : Entry). decision_of e.event) journal entry decision has reads) own
    (unmapped _ answer)

-- None of two places that decide a job is before the other.
not_before : {A : Type 0} (rules : Rules) (journal : List Entry) (job first second : ℕ)
    → IsLegal rules journal → Decides journal job first → Decides journal job second
    → first < second → A
not_before rules journal job first second legal one other less =
    let at = item_at-found journal second other.entry other.there in
    let positive = at.0 in
    let place : 0 + (second - 1) + 1 ≡ second = omega arith in
    let was : WasAllowedAt rules journal second other.entry =
    subst (λ n. WasAllowedAt rules journal n other.entry) place
    (allowed_at rules [] journal (second - 1) other.entry tt legal at.1) in
    let later = has_decided rules was.front was.more other.entry.caller other.entry.event job
    (subst (λ all. decided_by all other.entry.event ≡ Some job) (sym was.whole) other.decided)
    was.allowed in
    let size = was.size in
    let there : item_at was.front first ≡ Some one.entry =
    sym (item_at-kept was.front was.more first (omega arith))
    ∙ ap (λ all. item_at all first) was.whole ∙ one.there in
    let has = item_at-contains was.front first one.entry there in
    let before = was_allowed rules was.front one.entry was.legal has in
    let parts : before.front ++ (before.more ++ was.more) ≡ journal =
    sym (append_assoc before.front before.more was.more)
    ∙ ap (λ front. front ++ was.more) before.whole ∙ was.whole in
    let earlier = has_decided rules before.front (before.more ++ was.more) one.entry.caller
    one.entry.event job
    (subst (λ all. decided_by all one.entry.event ≡ Some job) (sym parts) one.decided)
    before.allowed in
    is_settled rules was.front one.entry earlier.decision job has earlier.reads
    (subst (λ all. is_attempt_at all job earlier.decision.number ≡ true) before.whole
    (own_kept before.front before.more job earlier.decision.number earlier.own)) later.unsettled

pub jobs_are_decided_once : JobsAreDecidedOnce
jobs_are_decided_once rules journal job first second legal one other =
    by_order (cases_order first second)
  where
    by_order : (first ≡ second) ⊎ ((first < second) ⊎ (second < first)) → first ≡ second
    by_order (inl same) = same
    by_order (inr (inl less)) = not_before rules journal job first second legal one other less
    by_order (inr (inr more)) = not_before rules journal job second first legal other one more
