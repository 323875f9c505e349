-- Readings of a journal after one more entry.
use Rattle.std.proofs.Common.{◌≡◌, ◌∙◌, ℕ, suc, ◌+◌, ◌≤◌, Bool, true, false, cond, not, Option, Some, None, List, [], ◌∷◌, ◌++◌, length, refl, ap, sym, arith, append_assoc, length-append, nat_lt, ◌==◌, eqb, ◌||◌, ◌&&◌}
use Rattle.std.specs.Prelude.{find, position, nat_le, option_map}
use Rattle.std.specs.List.{list_any, position_or_len}
use Rattle.std.proofs.lemmas.Bool.Decides.{nat_tests}
use Rattle.std.proofs.lemmas.List.Folds.{list_any-append, position_or_len_push}
use Rattle.std.proofs.lemmas.List.Sums.{prefix_len-le-length}
use Rattle.std.proofs.lemmas.List.{append-nil}
use Rattle.entry_core.specs.declared.answers.Verdict.{Verdict}
use Rattle.entry_core.specs.declared.answers.Verdict.TheVariants as verdict
use Rattle.entry_core.specs.declared.entries.Entry.{Entry}
use Rattle.entry_core.specs.declared.rules.Rules.{Rules}
use Rattle.entry_core.specs.Journal.{is_closing, is_closed, closing_place}
use Rattle.entry_core.specs.Attempts.{is_attempt_at, spent_attempts}
use Rattle.entry_core.specs.Settled.{Decision, decisions, cancelled, starved, or_else, given_if, overtaken, standing, settled_after, settled}
pub use Rattle.entry_core.proofs.Readings.{unread, read_on}

pub or_none : (given : Option Verdict) → or_else given None ≡ given
or_none None = refl
or_none (Some found) = refl

or_else_assoc : (a b c : Option Verdict) → or_else a (or_else b c) ≡ or_else (or_else a b) c
or_else_assoc None b c = refl
or_else_assoc (Some found) b c = refl

settled_on : (rules : Rules) (before journal : List Entry) (entry : Entry) (job : ℕ)
    → settled_after rules before (journal ++ entry ∷ []) job ≡ or_else (settled_after rules before journal job) (standing rules (before ++ (journal ++ entry ∷ [])) job)
settled_on rules before [] entry job = or_none (standing rules (before ++ entry ∷ []) job)
settled_on rules before (first ∷ rest) entry job =
    ap (or_else (standing rules (before ++ first ∷ []) job))
    (settled_on rules (before ++ first ∷ []) rest entry job
    ∙ ap (λ (all : List Entry). or_else (settled_after rules (before ++ first ∷ []) rest job) (standing rules all job)) (append_assoc before (first ∷ []) (rest ++ entry ∷ [])))
    ∙ or_else_assoc (standing rules (before ++ first ∷ []) job) (settled_after rules (before ++ first ∷ []) rest job) (standing rules (before ++ (first ∷ rest ++ entry ∷ [])) job)

-- settled after one more entry: settled before, or else by the case that stands
pub settled_push : (rules : Rules) (journal : List Entry) (entry : Entry) (job : ℕ)
    → settled rules (journal ++ entry ∷ []) job ≡ or_else (settled rules journal job) (standing rules (journal ++ entry ∷ []) job)
settled_push rules journal entry job = settled_on rules [] journal entry job

-- none of the cases stands
pub record IsFree (rules : Rules) (journal : List Entry) (job : ℕ) : Type 0 where
  pub unanswered : find (λ decision. is_attempt_at journal job decision.number) (decisions journal) ≡ None
  pub uncancelled : list_any (λ number. number == job) (cancelled journal) ≡ false
  pub unspent : nat_le rules.attempts (spent_attempts journal job) ≡ false
  pub unstarved : list_any (is_attempt_at journal job) (starved journal) ≡ false
  pub not_overtaken : overtaken rules journal job ≡ None

-- under the rule, the first model of a smaller job cancels each of so many jobs
abbrev pub over_of : Bool → ℕ → List ℕ → ℕ → Option Verdict
over_of rule count models job =
    cond (rule && nat_le job count) (option_map (λ (earlier : ℕ). verdict.Cancelled earlier) (find (λ earlier. nat_lt earlier job) models)) None

-- the first case that stands
abbrev pub first_case : Option Decision → Bool → Bool → Bool → Option Verdict → Option Verdict
first_case answer cancel spent starve over =
    or_else (option_map (λ decision. verdict.Answered decision.given) answer)
    (or_else (given_if cancel (verdict.Cancelled 0)) (or_else (given_if spent verdict.Spent) (or_else (given_if starve verdict.Starved) over)))

no_case : (answer : Option Decision) (cancel spent starve : Bool) (over : Option Verdict) → first_case answer cancel spent starve over ≡ None
    → (answer ≡ None) × ((cancel ≡ false) × ((spent ≡ false) × ((starve ≡ false) × (over ≡ None))))
no_case (Some given) cancel spent starve over is = absurd (cc)
no_case None true spent starve over is = absurd (cc)
no_case None false true starve over is = absurd (cc)
no_case None false false true over is = absurd (cc)
no_case None false false false over is = (refl, (refl, (refl, (refl, is))))

both_none : (a b : Option Verdict) → or_else a b ≡ None → (a ≡ None) × (b ≡ None)
both_none None b is = (refl, is)
both_none (Some found) b is = absurd (cc)

stands_not : (rules : Rules) (before journal : List Entry) (job : ℕ) → standing rules before job ≡ None → settled_after rules before journal job ≡ None → standing rules (before ++ journal) job ≡ None
stands_not rules before [] job none is = ap (λ (all : List Entry). standing rules all job) (append-nil before) ∙ none
stands_not rules before (entry ∷ rest) job none is =
    let parts = both_none (standing rules (before ++ entry ∷ []) job) (settled_after rules (before ++ entry ∷ []) rest job) is in
    ap (λ (all : List Entry). standing rules all job) (sym (append_assoc before (entry ∷ []) rest)) ∙ stands_not rules (before ++ entry ∷ []) rest job parts.0 parts.1

never : (test : Bool) → cond test (option_map (λ (earlier : ℕ). verdict.Cancelled earlier) None) None ≡ None
never true = refl
never false = refl

-- of a job that isn't settled, none of the cases stands
pub unsettled_free : (rules : Rules) (journal : List Entry) (job : ℕ) → 1 ≤ rules.attempts → settled rules journal job ≡ None → IsFree rules journal job
unsettled_free rules journal job some is =
    let few : nat_le rules.attempts 0 ≡ false = grind (arith, nat_tests) in
    let nothing : first_case None false (nat_le rules.attempts 0) false (overtaken rules [] job) ≡ None =
    ap (λ b. first_case None false b false (overtaken rules [] job)) few ∙ never (rules.first && nat_le job 0) in
    let parts = no_case (find (λ decision. is_attempt_at journal job decision.number) (decisions journal)) (list_any (λ number. number == job) (cancelled journal))
    (nat_le rules.attempts (spent_attempts journal job)) (list_any (is_attempt_at journal job) (starved journal)) (overtaken rules journal job)
    (stands_not rules [] journal job nothing is) in
    record { unanswered = parts.0; uncancelled = parts.1.0; unspent = parts.1.1.0; unstarved = parts.1.1.1.0; not_overtaken = parts.1.1.1.1 }

-- where the first place is after one more item
first_place_yes : (place size place' size' : ℕ) → place ≤ size → size' ≡ size + 1 → place' ≡ cond (eqb place size) (size + 0) place
    → cond (nat_lt place size) (Some place) None ≡ None → cond (nat_lt place' size') (Some place') None ≡ Some size
first_place_yes place size place' size' le more is none = grind (arith, nat_tests)

first_place_no : (place size place' size' : ℕ) → place ≤ size → size' ≡ size + 1 → place' ≡ cond (eqb place size) (size + 1) place
    → cond (nat_lt place' size') (Some place') None ≡ cond (nat_lt place size) (Some place) None
first_place_no place size place' size' le more is = grind (arith, nat_tests)

or_true : (b : Bool) → (b || true) ≡ true
or_true true = refl
or_true false = refl

or_false : (b : Bool) → (b || false) ≡ b
or_false true = refl
or_false false = refl

-- an entry that closes, where none did before
pub closed_push : (journal : List Entry) (entry : Entry) → is_closing entry.event ≡ true → closing_place journal ≡ None → closing_place (journal ++ entry ∷ []) ≡ Some (length journal + 1)
closed_push journal entry is none =
    let test = λ (e : Entry). is_closing e.event in
    let place = position_or_len_push test journal entry ∙ ap (λ b. cond (eqb (position_or_len test journal) (length journal)) (length journal + cond b 0 1) (position_or_len test journal)) is in
    let before : position test journal ≡ None = no_place (position test journal) none in
    let after : position test (journal ++ entry ∷ []) ≡ Some (length journal) =
    first_place_yes (position_or_len test journal) (length journal) (position_or_len test (journal ++ entry ∷ [])) (length (journal ++ entry ∷ []))
    (prefix_len-le-length (λ (e : Entry). not (test e)) journal) (length-append journal (entry ∷ [])) place before in
    let more : suc (length journal) ≡ length journal + 1 = omega arith in
    ap (option_map suc) after ∙ ap Some more
  where
    no_place : (o : Option ℕ) → option_map suc o ≡ None → o ≡ None
    no_place None h = refl
    no_place (Some place) h = absurd (cc)

pub closed_now : (journal : List Entry) (entry : Entry) → is_closing entry.event ≡ true → is_closed (journal ++ entry ∷ []) ≡ true
closed_now journal entry is =
    let test = λ (e : Entry). is_closing e.event in
    list_any-append test journal (entry ∷ []) ∙ ap (λ b. list_any test journal || (b || false)) is ∙ or_true (list_any test journal)

-- an entry that doesn't close
pub place_unread : (journal : List Entry) (entry : Entry) → is_closing entry.event ≡ false → closing_place (journal ++ entry ∷ []) ≡ closing_place journal
place_unread journal entry is =
    let test = λ (e : Entry). is_closing e.event in
    let place = position_or_len_push test journal entry ∙ ap (λ b. cond (eqb (position_or_len test journal) (length journal)) (length journal + cond b 0 1) (position_or_len test journal)) is in
    ap (option_map suc) (first_place_no (position_or_len test journal) (length journal) (position_or_len test (journal ++ entry ∷ [])) (length (journal ++ entry ∷ []))
    (prefix_len-le-length (λ (e : Entry). not (test e)) journal) (length-append journal (entry ∷ [])) place)

pub closing_unread : (journal : List Entry) (entry : Entry) → is_closing entry.event ≡ false → is_closed (journal ++ entry ∷ []) ≡ is_closed journal
closing_unread journal entry is =
    let test = λ (e : Entry). is_closing e.event in
    list_any-append test journal (entry ∷ []) ∙ ap (λ b. list_any test journal || (b || false)) is ∙ or_false (list_any test journal)
