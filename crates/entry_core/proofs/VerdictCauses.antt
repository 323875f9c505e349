-- Each verdict of a legal journal has its cause.
use Rattle.std.proofs.Common.{◌≡◌, ◌∙◌, ℕ, ◌+◌, ◌≤◌, Bool, true, false, cond, Option, Some, None, List, [], ◌∷◌, ◌++◌, length, refl, ap, subst, sym, inl, inr, arith, append_assoc, length-append, ◌==◌, ◌&&◌}
use Rattle.std.specs.Prelude.{Contains, filter_map, find, count_by, option_map, nat_le, nat_lt, if◌then◌else◌}
use Rattle.std.specs.List.{list_any, cons_option}
use Rattle.std.specs.Arc.{arc_value}
use Rattle.std.proofs.lemmas.Bool.Decides.{nat_tests}
use Rattle.std.proofs.lemmas.List.Elements.{filter_map-append, Contains-append_left}
use Rattle.std.proofs.lemmas.List.Sums.{sum_by-cons}
use Rattle.std.proofs.lemmas.Option.{same_Some}
use Rattle.sat_base.specs.Truth.{IsModelOf}
use Rattle.sat_base.proofs.Members.{All-from_members, any_member, Contains-here, Contains-there}
use Rattle.entry_core.specs.declared.answers.Answer.{Answer}
use Rattle.entry_core.specs.declared.answers.Answer.TheVariants as answer
use Rattle.entry_core.specs.declared.answers.Verdict.{Verdict}
use Rattle.entry_core.specs.declared.answers.Verdict.TheVariants as verdict
use Rattle.entry_core.specs.declared.entries.Entry.{Entry}
use Rattle.entry_core.specs.declared.entries.Event.{Event}
use Rattle.entry_core.specs.declared.entries.Event.TheVariants as event
use Rattle.entry_core.specs.declared.rules.Rules.{Rules}
use Rattle.entry_core.specs.Journal.{jobs, clauses_of, cube_of}
use Rattle.entry_core.specs.Attempts.{Attempt, attempt, is_at, is_attempt_at, spent_by, spent_attempts}
use Rattle.entry_core.specs.Settled.{Decision, decision_of, decisions, cancelled_by, cancelled, starved_by, starved, is_model, job_of, satisfied, or_else, given_if, overtaken, standing, settled_after}
use Rattle.entry_core.specs.Right.{IsRightAnswer, IsSpentFor}
use Rattle.entry_core.specs.Legal.{IsLegal}
use Rattle.entry_core.specs.Causes.{spent_list_of, spent_lists, HasCause}
use Rattle.entry_core.specs.Law.{VerdictsHaveCauses}
use Rattle.entry_core.proofs.LegalEntries.{from_reading, into_reading, attempt_kept, own_kept, decision_right, list_right}

-- the place at which a case first stands
record HasStood (rules : Rules) (journal : List Entry) (job : ℕ) (given : Verdict) : Type 0 where
  front : List Entry
  more : List Entry
  whole : front ++ more ≡ journal
  stands : standing rules front job ≡ Some given

has_stood : (rules : Rules) (before journal : List Entry) (job : ℕ) (given : Verdict) → settled_after rules before journal job ≡ Some given → HasStood rules (before ++ journal) job given
has_stood rules before [] job given is = absurd (cc)
has_stood rules before (entry ∷ rest) job given is =
    by_case (standing rules (before ++ entry ∷ []) job) refl (λ later. has_stood rules (before ++ entry ∷ []) rest job given later) is
  where
    by_case : (now : Option Verdict) → standing rules (before ++ entry ∷ []) job ≡ now
        → (settled_after rules (before ++ entry ∷ []) rest job ≡ Some given → HasStood rules ((before ++ entry ∷ []) ++ rest) job given)
        → or_else now (settled_after rules (before ++ entry ∷ []) rest job) ≡ Some given → HasStood rules (before ++ entry ∷ rest) job given
    by_case (Some found) now recur h = record { front = before ++ entry ∷ []; more = rest; whole = append_assoc before (entry ∷ []) rest; stands = now ∙ h }
    by_case None now recur h = subst (λ (all : List Entry). HasStood rules all job given) (append_assoc before (entry ∷ []) rest) (recur h)

-- the first case that stands is one of five
one_of_five : (P : Verdict → Type 0) (decided : Option Decision) (cancel spent starve : Bool) (over : Option Verdict) (given : Verdict)
    → ((decision : Decision) → decided ≡ Some decision → P (verdict.Answered decision.given)) → (cancel ≡ true → P (verdict.Cancelled 0)) → (spent ≡ true → P verdict.Spent)
    → (starve ≡ true → P verdict.Starved) → ((found : Verdict) → over ≡ Some found → P found)
    → or_else (option_map (λ (decision : Decision). verdict.Answered decision.given) decided)
    (or_else (given_if cancel (verdict.Cancelled 0)) (or_else (given_if spent verdict.Spent) (or_else (given_if starve verdict.Starved) over))) ≡ Some given
    → P given
one_of_five P (Some decision) cancel spent starve over given answered cancels spends starves overtakes is = subst P (same_Some (verdict.Answered decision.given) given is) (answered decision refl)
one_of_five P None true spent starve over given answered cancels spends starves overtakes is = subst P (same_Some (verdict.Cancelled 0) given is) (cancels refl)
one_of_five P None false true starve over given answered cancels spends starves overtakes is = subst P (same_Some verdict.Spent given is) (spends refl)
one_of_five P None false false true over given answered cancels spends starves overtakes is = subst P (same_Some verdict.Starved given is) (starves refl)
one_of_five P None false false false over given answered cancels spends starves overtakes is = overtakes given is

-- what is found is a member that passes
found_in : {X : Type 0} (test : X → Bool) (items : List X) (x : X) → find test items ≡ Some x → Contains items x × (test x ≡ true)
found_in test [] x is = absurd (cc)
found_in {X} test (item ∷ rest) x is = by_test (test item) refl (λ h. found_in test rest x h) is
  where
    by_test : (b : Bool) → test item ≡ b → (find test rest ≡ Some x → Contains rest x × (test x ≡ true)) → cond b (Some item) (find test rest) ≡ Some x → Contains (item ∷ rest) x × (test x ≡ true)
    by_test true passes recur h =
        let same : item ≡ x = same_Some item x h in
        (subst (Contains (item ∷ rest)) same (Contains-here item rest), subst (λ y. test y ≡ true) same passes)
    by_test false fails recur h = let later = recur h in (Contains-there item x rest later.0, later.1)

-- what a reading of a journal gives, it gives of a longer one
reading_kept : {X : Type 0} (read : Entry → Option X) (journal more : List Entry) (x : X) → Contains (filter_map read journal) x → Contains (filter_map read (journal ++ more)) x
reading_kept read journal more x has =
    subst (λ items. Contains items x) (sym (filter_map-append read journal more))
    (Contains-append_left (filter_map read journal) (filter_map read more) x has)

same_job : (number job : ℕ) → (number == job) ≡ true → number ≡ job
same_job number job is = grind (arith, nat_tests)

-- a spent attempt at the job has its list
one_counted : (front more : List Entry) (job : ℕ) (happened : Event) (numbers : List ℕ) (lists : List (List (List ℕ))) → count_by (is_attempt_at front job) numbers ≤ length lists
    → count_by (is_attempt_at front job) (cons_option (spent_by happened) numbers) ≤ length (cons_option (spent_list_of (front ++ more) job happened) lists)
one_counted front more job (event.Spent number learnt) numbers lists le =
    by_test (is_attempt_at front job number) (is_attempt_at (front ++ more) job number) (own_kept front more job number) _ (sum_by-cons (λ n. cond (is_attempt_at front job n) 1 0) number numbers)
  where
    by_test : (b longer : Bool) → (b ≡ true → longer ≡ true) → (count : ℕ) → count ≡ cond b 1 0 + count_by (is_attempt_at front job) numbers
        → count ≤ length (cons_option (cond longer (Some (arc_value learnt)) None) lists)
    by_test true true stays count is = omega arith
    by_test true false stays count is = absurd (let e : false ≡ true = stays refl in cc)
    by_test false true stays count is = omega arith
    by_test false false stays count is = omega arith
one_counted front more job (event.Added segment) numbers lists le = le
one_counted front more job event.Closed numbers lists le = le
one_counted front more job (event.Cancelled other) numbers lists le = le
one_counted front more job (event.Began other number) numbers lists le = le
one_counted front more job (event.Shared packet) numbers lists le = le
one_counted front more job (event.Dropped number) numbers lists le = le
one_counted front more job (event.Decided number given) numbers lists le = le
one_counted front more job (event.Starved number) numbers lists le = le

all_counted : (front more journal : List Entry) (job : ℕ)
    → count_by (is_attempt_at front job) (filter_map (λ (entry : Entry). spent_by entry.event) journal) ≤ length (filter_map (λ (entry : Entry). spent_list_of (front ++ more) job entry.event) journal)
all_counted front more [] job = omega arith
all_counted front more (entry ∷ rest) job =
    one_counted front more job entry.event (filter_map (λ (entry : Entry). spent_by entry.event) rest) (filter_map (λ (entry : Entry). spent_list_of (front ++ more) job entry.event) rest)
    (all_counted front more rest job)

-- a longer journal has at least as many lists as attempts were spent
enough_lists : (front more : List Entry) (job : ℕ) → spent_attempts front job ≤ length (spent_lists (front ++ more) job)
enough_lists front more job =
    let read : Entry → Option (List (List ℕ)) = λ entry. spent_list_of (front ++ more) job entry.event in
    let count : spent_attempts front job ≤ length (filter_map read front) = all_counted front more front job in
    let whole : length (spent_lists (front ++ more) job) ≡ length (filter_map read front) + length (filter_map read more) =
    ap length (filter_map-append read front more) ∙ length-append (filter_map read front) (filter_map read more) in
    omega arith

-- the job that a decision answers by a model
abbrev satisfied_by : List Entry → Decision → Option ℕ
satisfied_by journal decision = if is_model (arc_value decision.given) then job_of (attempt journal decision.number) else None

-- a model for the job, also in a longer journal
record IsModelOn (front more : List Entry) (decision : Decision) (job : ℕ) : Type 0 where
  model : is_model (arc_value decision.given) ≡ true
  own : is_attempt_at front job decision.number ≡ true
  stays : satisfied_by (front ++ more) decision ≡ Some job

model_on : (front more : List Entry) (decision : Decision) (job : ℕ) → satisfied_by front decision ≡ Some job → IsModelOn front more decision job
model_on front more decision job is = by_test (is_model (arc_value decision.given)) refl (attempt front decision.number) refl is
  where
    by_test : (b : Bool) → is_model (arc_value decision.given) ≡ b → (o : Option Attempt) → attempt front decision.number ≡ o → cond b (job_of o) None ≡ Some job → IsModelOn front more decision job
    by_test false model o found h = absurd (cc)
    by_test true model None found h = absurd (cc)
    by_test true model (Some begun) found h =
        let same : begun.job ≡ job = same_Some begun.job job h in
        let itself : (begun.job == job) ≡ true = grind (arith, nat_tests) in
        record {
          model = model;
          own = ap (is_at job) found ∙ itself;
          stays = ap (λ b. cond b (job_of (attempt (front ++ more) decision.number)) None) model ∙ ap job_of (attempt_kept front more decision.number begun found) ∙ h;
        }

-- a right answer that is a model is one
model_of : (traces : Bool) (journal : List Entry) (job : ℕ) (given : Answer) → is_model given ≡ true → IsRightAnswer traces journal job given → (values : List Bool) × IsModelOf (clauses_of journal job) (cube_of journal job) values
model_of traces journal job (answer.Model values) is right = (values, right)
model_of traces journal job (answer.Refuted part steps) is right = absurd (cc)

-- the case that stood is the verdict's cause
cause : (rules : Rules) (front more : List Entry) (job : ℕ) (given : Verdict) → IsLegal rules (front ++ more) → standing rules front job ≡ Some given → HasCause rules (front ++ more) job given
cause rules front more job given legal is =
    one_of_five (HasCause rules (front ++ more) job) (find (λ decision. is_attempt_at front job decision.number) (decisions front)) (list_any (λ number. number == job) (cancelled front))
    (nat_le rules.attempts (spent_attempts front job)) (list_any (is_attempt_at front job) (starved front)) (overtaken rules front job) given
    answered cancels spends starves overtakes is
  where
    answered : (decision : Decision) → find (λ decision. is_attempt_at front job decision.number) (decisions front) ≡ Some decision → HasCause rules (front ++ more) job (verdict.Answered decision.given)
    answered decision found =
        let there = found_in (λ (d : Decision). is_attempt_at front job d.number) (decisions front) decision found in
        decision_right rules (front ++ more) job decision legal
        (reading_kept (λ (entry : Entry). decision_of entry.event) front more decision there.0) (own_kept front more job decision.number there.1)

    cancels : list_any (λ number. number == job) (cancelled front) ≡ true → HasCause rules (front ++ more) job (verdict.Cancelled 0)
    cancels some =
        let there = any_member (λ number. number == job) (cancelled front) some in
        inl (refl, reading_kept (λ (entry : Entry). cancelled_by entry.event) front more job (subst (Contains (cancelled front)) (same_job there.0 job there.2) there.1))

    spends : nat_le rules.attempts (spent_attempts front job) ≡ true → HasCause rules (front ++ more) job verdict.Spent
    spends enough = record {
      enough = (let count = enough_lists front more job in
          let le : rules.attempts ≤ spent_attempts front job = grind (arith, nat_tests) in omega arith);
      each = All-from_members (IsSpentFor (front ++ more) job rules.conflicts) (spent_lists (front ++ more) job) (λ learnt has. list_right rules (front ++ more) job learnt legal has);
    }

    starves : list_any (is_attempt_at front job) (starved front) ≡ true → HasCause rules (front ++ more) job verdict.Starved
    starves some =
        let there = any_member (is_attempt_at front job) (starved front) some in
        record {
          number = there.0;
          starved_attempt = reading_kept (λ (entry : Entry). starved_by entry.event) front more there.0 there.1;
          own = own_kept front more job there.0 there.2;
        }

    overtakes : (found : Verdict) → overtaken rules front job ≡ Some found → HasCause rules (front ++ more) job found
    overtakes found over = by_rule rules.first refl (nat_le job (jobs front)) (find (λ earlier. nat_lt earlier job) (satisfied front)) refl over
      where
        by_rule : (first : Bool) → rules.first ≡ first → (added : Bool) → (o : Option ℕ) → find (λ earlier. nat_lt earlier job) (satisfied front) ≡ o
            → cond (first && added) (option_map (λ earlier. verdict.Cancelled earlier) o) None ≡ Some found → HasCause rules (front ++ more) job found
        by_rule false rule added o by h = absurd (cc)
        by_rule true rule false o by h = absurd (cc)
        by_rule true rule true None by h = absurd (cc)
        by_rule true rule true (Some earlier) by h =
            let there = found_in (λ earlier. nat_lt earlier job) (satisfied front) earlier by in
            let from = from_reading (satisfied_by front) (decisions front) earlier there.0 in
            let kept = model_on front more from.0 earlier from.2 in
            let has = reading_kept (λ (entry : Entry). decision_of entry.event) front more from.0 from.1 in
            subst (HasCause rules (front ++ more) job) (same_Some (verdict.Cancelled earlier) found h)
            (inr (record {
              first = rule;
              earlier = (let lt = there.1 in grind (arith, nat_tests));
              answered = into_reading (satisfied_by (front ++ more)) (decisions (front ++ more)) from.0 earlier has kept.stays;
              model = model_of rules.traces (front ++ more) earlier (arc_value from.0.given) kept.model
                  (decision_right rules (front ++ more) earlier from.0 legal has (own_kept front more earlier from.0.number kept.own));
            }))

pub verdicts_have_causes : VerdictsHaveCauses
verdicts_have_causes rules journal job given legal is =
    let stood = has_stood rules [] journal job given is in
    subst (λ all. HasCause rules all job given) stood.whole
    (cause rules stood.front stood.more job given (subst (IsLegal rules) (sym stood.whole) legal) stood.stands)
