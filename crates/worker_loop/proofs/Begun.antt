-- The beginning of an attempt settles no job, so that its end isn't late.
use Rattle.std.proofs.Common.{◌≡◌, ◌∙◌, inl, inr, ℕ, ◌≤◌, Bool, true, false, cond, Option, Some, None, List, [], ◌∷◌, ◌++◌, length, refl, ap, sym, subst, arith, ◌==◌, ◌&&◌, ◌||◌}
use Rattle.std.specs.Prelude.{Contains, IsSome, filter_map, find, count_by, option_map, nat_le, nat_lt, if◌then◌else◌}
use Rattle.std.specs.List.{cons_option, list_any}
use Rattle.std.specs.Arc.{arc_value}
use Rattle.std.proofs.lemmas.Bool.Decides.{nat_tests}
use Rattle.std.proofs.lemmas.Option.{same_Some}
use Rattle.sat_base.proofs.Members.{Contains-here, Contains-there, All-from_members}
use Rattle.entry_core.specs.declared.answers.Verdict.{Verdict}
use Rattle.entry_core.specs.declared.answers.Verdict.TheVariants as verdict
use Rattle.entry_core.specs.declared.entries.Entry.{Entry}
use Rattle.entry_core.specs.declared.entries.Event.{Event}
use Rattle.entry_core.specs.declared.entries.Event.TheVariants as event
use Rattle.entry_core.specs.declared.rules.Rules.{Rules}
use Rattle.entry_core.specs.Attempts.{Attempt, attempt, ended_by, is_at, is_attempt_at, spent_by, spent_attempts}
use Rattle.entry_core.specs.Journal.{jobs}
use Rattle.entry_core.specs.Legal.{IsAllowed, IsLegal}
use Rattle.entry_core.specs.Settled.{Decision, decision_of, decisions, cancelled_by, cancelled, starved_by, starved, is_model, job_of, satisfied, or_else, given_if, answer_to, overtaken, standing, settled}
use Rattle.entry_core.proofs.LegalEntries.{from_reading, was_allowed, attempt_kept}
use Rattle.entry_core.proofs.LongerJournals.{no_case_later}
use Rattle.board_core.specs.State.{State, entered}
use Rattle.board_core.specs.Replies.{IsBegun, job_at}
use Rattle.board_core.proofs.Changes.{same_segments}
use Rattle.board_core.proofs.Readings.{unread, settled_push}
use Rattle.board_core.proofs.Indexed.{decided_ends, spent_ends, starved_ends}
use Rattle.board_core.proofs.Verdicts.{entry_by, count_same}
use Rattle.worker_loop.specs.Attempts.{EndsBy}
use Rattle.worker_loop.proofs.Rested.{begun_at}

-- tests and readings that agree on the members
find_same : {X : Type 0} (p q : X → Bool) (xs : List X) → ((x : X) → Contains xs x → p x ≡ q x) → find p xs ≡ find q xs
find_same p q [] same = refl
find_same p q (x ∷ xs) same =
    ap (λ b. cond b (Some x) (find p xs)) (same x (Contains-here x xs))
    ∙ ap (λ o. cond (q x) (Some x) o) (find_same p q xs (λ y has. same y (Contains-there x y xs has)))

any_same : {X : Type 0} (p q : X → Bool) (xs : List X) → ((x : X) → Contains xs x → p x ≡ q x) → list_any p xs ≡ list_any q xs
any_same p q [] same = refl
any_same p q (x ∷ xs) same =
    ap (λ b. b || list_any p xs) (same x (Contains-here x xs))
    ∙ ap (λ b. q x || b) (any_same p q xs (λ y has. same y (Contains-there x y xs has)))

read_same : {X Y : Type 0} (f g : X → Option Y) (xs : List X) → ((x : X) → Contains xs x → f x ≡ g x) → filter_map f xs ≡ filter_map g xs
read_same f g [] same = refl
read_same f g (x ∷ xs) same =
    ap (λ o. cons_option o (filter_map f xs)) (same x (Contains-here x xs))
    ∙ ap (λ all. cons_option (g x) all) (read_same f g xs (λ y has. same y (Contains-there x y xs has)))

-- the attempt of that number was begun
abbrev HasBegun : List Entry → ℕ → Type 0
HasBegun journal number = (begun : Attempt) × (attempt journal number ≡ Some begun)

-- an attempt that ends was begun
ends_begun : (rules : Rules) (before : List Entry) (caller : ℕ) (happened : Event) (number : ℕ) → ended_by happened ≡ Some number → IsAllowed rules before caller happened → HasBegun before number
ends_begun rules before caller (event.Spent n learnt) number is allowed = subst (HasBegun before) (same_Some n number is) (allowed.begun, allowed.running.found)
ends_begun rules before caller (event.Dropped n) number is allowed = subst (HasBegun before) (same_Some n number is) (allowed.begun, allowed.running.found)
ends_begun rules before caller (event.Decided n given) number is allowed = subst (HasBegun before) (same_Some n number is) (allowed.begun, allowed.running.found)
ends_begun rules before caller (event.Starved n) number is allowed = subst (HasBegun before) (same_Some n number is) (allowed.begun, allowed.running.found)
ends_begun rules before caller (event.Added segment) number is allowed = absurd (cc)
ends_begun rules before caller event.Closed number is allowed = absurd (cc)
ends_begun rules before caller (event.Cancelled job) number is allowed = absurd (cc)
ends_begun rules before caller (event.Began job n) number is allowed = absurd (cc)
ends_begun rules before caller (event.Shared packet) number is allowed = absurd (cc)

-- what a reading of ends gives names attempts that were begun
all_begun : {X : Type 0} (read : Event → Option X) (number_of : X → ℕ) (rules : Rules) (journal : List Entry) → IsLegal rules journal
    → ((happened : Event) (x : X) → read happened ≡ Some x → ended_by happened ≡ Some (number_of x))
    → (x : X) → Contains (filter_map (λ (e : Entry). read e.event) journal) x → HasBegun journal (number_of x)
all_begun read number_of rules journal legal ends x has =
    let from = from_reading (λ (e : Entry). read e.event) journal x has in
    let was = was_allowed rules journal from.0 legal from.1 in
    let begun = ends_begun rules was.front from.0.caller from.0.event (number_of x) (ends from.0.event x from.2) was.allowed in
    subst (λ all. HasBegun all (number_of x)) was.whole (begun.0, attempt_kept was.front was.more (number_of x) begun.0 begun.1)

-- the first case that stands, of five
abbrev five : Option Verdict → Bool → Bool → Bool → Option Verdict → Option Verdict
five answer cancel spent starve over =
    or_else answer (or_else (given_if cancel (verdict.Cancelled 0)) (or_else (given_if spent verdict.Spent) (or_else (given_if starve verdict.Starved) over)))

abbrev satisfied_by : List Entry → Decision → Option ℕ
satisfied_by journal decision = if is_model (arc_value decision.given) then job_of (attempt journal decision.number) else None

-- Where an attempt was begun, the same cases stand as before.
same_cases : (rules : Rules) (journal : List Entry) (caller job number other : ℕ) → IsLegal rules journal
    → standing rules (journal ++ entry_by caller (event.Began job number) ∷ []) other ≡ standing rules journal other
same_cases rules journal caller job number other legal =
    ap (λ a. five a (list_any (λ n. n == other) (cancelled longer)) (nat_le rules.attempts (spent_attempts longer other)) (list_any (is_attempt_at longer other) (starved longer)) (overtaken rules longer other)) answers
    ∙ ap (λ b. five (answer_to journal other) b (nat_le rules.attempts (spent_attempts longer other)) (list_any (is_attempt_at longer other) (starved longer)) (overtaken rules longer other)) cancels
    ∙ ap (λ n. five (answer_to journal other) (list_any (λ k. k == other) (cancelled journal)) (nat_le rules.attempts n) (list_any (is_attempt_at longer other) (starved longer)) (overtaken rules longer other)) spends
    ∙ ap (λ b. five (answer_to journal other) (list_any (λ k. k == other) (cancelled journal)) (nat_le rules.attempts (spent_attempts journal other)) b (overtaken rules longer other)) starves
    ∙ ap (λ o. five (answer_to journal other) (list_any (λ k. k == other) (cancelled journal)) (nat_le rules.attempts (spent_attempts journal other)) (list_any (is_attempt_at journal other) (starved journal)) o) overtakes
  where
    entry : Entry
    entry = entry_by caller (event.Began job number)

    longer : List Entry
    longer = journal ++ entry_by caller (event.Began job number) ∷ []

    -- an attempt that was begun stays the one of its number
    stays : (n : ℕ) → HasBegun journal n → attempt (journal ++ entry_by caller (event.Began job number) ∷ []) n ≡ attempt journal n
    stays n begun = attempt_kept journal (entry_by caller (event.Began job number) ∷ []) n begun.0 begun.1 ∙ sym begun.1

    decided : (d : Decision) → Contains (decisions journal) d → HasBegun journal d.number
    decided = all_begun decision_of (λ (d : Decision). d.number) rules journal legal decided_ends

    answers : answer_to (journal ++ entry_by caller (event.Began job number) ∷ []) other ≡ answer_to journal other
    answers =
        ap (λ all. option_map (λ (d : Decision). verdict.Answered d.given) (find (λ (d : Decision). is_attempt_at longer other d.number) all)) (unread (λ (e : Entry). decision_of e.event) journal entry refl)
        ∙ ap (option_map (λ (d : Decision). verdict.Answered d.given))
        (find_same (λ (d : Decision). is_attempt_at longer other d.number) (λ (d : Decision). is_attempt_at journal other d.number) (decisions journal) (λ d has. ap (is_at other) (stays d.number (decided d has))))

    cancels : list_any (λ n. n == other) (cancelled (journal ++ entry_by caller (event.Began job number) ∷ [])) ≡ list_any (λ n. n == other) (cancelled journal)
    cancels = ap (list_any (λ n. n == other)) (unread (λ (e : Entry). cancelled_by e.event) journal entry refl)

    spends : spent_attempts (journal ++ entry_by caller (event.Began job number) ∷ []) other ≡ spent_attempts journal other
    spends =
        ap (count_by (is_attempt_at longer other)) (unread (λ (e : Entry). spent_by e.event) journal entry refl)
        ∙ count_same (is_attempt_at longer other) (is_attempt_at journal other) (filter_map (λ (e : Entry). spent_by e.event) journal)
        (All-from_members (λ n. is_attempt_at longer other n ≡ is_attempt_at journal other n) (filter_map (λ (e : Entry). spent_by e.event) journal)
        (λ n has. ap (is_at other) (stays n (all_begun spent_by (λ k. k) rules journal legal spent_ends n has))))

    starves : list_any (is_attempt_at (journal ++ entry_by caller (event.Began job number) ∷ []) other) (starved (journal ++ entry_by caller (event.Began job number) ∷ [])) ≡ list_any (is_attempt_at journal other) (starved journal)
    starves =
        ap (list_any (is_attempt_at longer other)) (unread (λ (e : Entry). starved_by e.event) journal entry refl)
        ∙ any_same (is_attempt_at longer other) (is_attempt_at journal other) (starved journal)
        (λ n has. ap (is_at other) (stays n (all_begun starved_by (λ k. k) rules journal legal starved_ends n has)))

    models : satisfied (journal ++ entry_by caller (event.Began job number) ∷ []) ≡ satisfied journal
    models =
        ap (filter_map (satisfied_by longer)) (unread (λ (e : Entry). decision_of e.event) journal entry refl)
        ∙ read_same (satisfied_by longer) (satisfied_by journal) (decisions journal)
        (λ d has. ap (λ o. if is_model (arc_value d.given) then job_of o else None) (stays d.number (decided d has)))

    overtakes : overtaken rules (journal ++ entry_by caller (event.Began job number) ∷ []) other ≡ overtaken rules journal other
    overtakes =
        ap (λ n. if rules.first && nat_le other n then option_map (λ k. verdict.Cancelled k) (find (λ k. nat_lt k other) (satisfied longer)) else None) (ap length (same_segments journal entry refl))
        ∙ ap (λ all. if rules.first && nat_le other (jobs journal) then option_map (λ k. verdict.Cancelled k) (find (λ k. nat_lt k other) all) else None) models

-- of a journal without entries no case stands
none_at_first : (rules : Rules) (job : ℕ) → 1 ≤ rules.attempts → standing rules [] job ≡ None
none_at_first rules job some =
    let few : nat_le rules.attempts 0 ≡ false = grind (arith, nat_tests) in
    ap (λ b. or_else (given_if b verdict.Spent) (overtaken rules [] job)) few ∙ none_overtaken (rules.first && nat_le job 0)
  where
    none_overtaken : (b : Bool) → (let none : Option Verdict = None in cond b none none ≡ none)
    none_overtaken true = refl
    none_overtaken false = refl

-- So a job that isn't settled isn't either then.
pub unsettled_still : (rules : Rules) (journal : List Entry) (caller job number other : ℕ) → IsLegal rules journal → 1 ≤ rules.attempts → settled rules journal other ≡ None
    → settled rules (journal ++ entry_by caller (event.Began job number) ∷ []) other ≡ None
unsettled_still rules journal caller job number other legal some unsettled =
    settled_push rules journal (entry_by caller (event.Began job number)) other
    ∙ ap (λ o. or_else o (standing rules (journal ++ entry_by caller (event.Began job number) ∷ []) other)) unsettled
    ∙ same_cases rules journal caller job number other legal
    ∙ no_case_later rules [] journal other (none_at_first rules other some) unsettled

-- An attempt that ends right after it began isn't late.
pub in_time : (old mid new : State) (caller job number : ℕ) (happened : Event) → IsLegal old.rules old.journal → IsBegun old mid caller job number → EndsBy mid new caller number happened
    → new ≡ entered mid caller happened
in_time old mid new caller job number happened legal begun (inl is) = is
in_time old mid new caller job number happened legal begun (inr late) =
    let waiting = begun.next.waiting in
    let few = waiting.allowed in
    let here : job_at mid number ≡ job = (begun_at old mid caller job number begun).at_job in
    let open_yet : settled mid.rules mid.journal job ≡ None =
    ap (λ (b : State). settled b.rules b.journal job) begun.adds
    ∙ unsettled_still old.rules old.journal caller job number job legal (omega (arith, few)) waiting.unsettled in
    absurd (let none = subst IsSome (ap (settled mid.rules mid.journal) here ∙ open_yet) late.0 in cc)
