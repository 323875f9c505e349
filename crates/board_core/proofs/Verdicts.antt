-- Which verdict an entry gives.
use Rattle.std.proofs.Common.{◌≡◌, ◌∙◌, ℕ, suc, ◌+◌, ◌≤◌, Bool, true, false, cond, Option, Some, None, List, [], ◌∷◌, ◌++◌, length, refl, ap, sym, arith, ◌==◌, ◌||◌}
use Rattle.std.specs.Prelude.{filter_map, find, nat_le, count_by, All, slice_index_or}
use Rattle.std.specs.List.{list_any, cons_option}
use Rattle.std.specs.Option.{option_or}
use Rattle.std.proofs.lemmas.List.Elements.{filter_map-append}
use Rattle.std.proofs.lemmas.List.Folds.{list_any-append, find-append}
use Rattle.std.proofs.lemmas.List.Sums.{sum_by-append, sum_by-cons}
use Rattle.trace_core.specs.Known.{item_at}
use Rattle.std.specs.Arc.{arc_value}
use Rattle.std.proofs.lemmas.List.{length_push}
use Rattle.entry_core.specs.declared.answers.Verdict.{Verdict}
use Rattle.entry_core.specs.declared.answers.Verdict.TheVariants as verdict
use Rattle.entry_core.specs.declared.entries.Entry.{Entry}
use Rattle.entry_core.specs.declared.entries.Event.{Event}
use Rattle.entry_core.specs.declared.entries.Event.TheVariants as event
use Rattle.entry_core.specs.declared.rules.Rules.{Rules}
use Rattle.entry_core.specs.Journal.{segment_of, segments, jobs}
use Rattle.entry_core.specs.Attempts.{Attempt, begun_by, attempts, is_at, is_attempt_at, spent_by, spent_attempts}
use Rattle.entry_core.specs.Settled.{Decision, decision_of, decisions, cancelled_by, cancelled, starved_by, starved, is_model, job_of, satisfied, or_else, given_if, overtaken, standing, settled}
use Rattle.trace_core.proofs.Items.{item_at-kept as item_kept}
use Rattle.board_core.specs.Index.{IsOrderly}
use Rattle.board_core.proofs.Readings.{unread, read_on, settled_push, IsFree, over_of, first_case, unsettled_free}

abbrev pub entry_by : ℕ → Event → Entry
entry_by caller happened = record { caller = caller; event = happened }

-- the job that an answer of an attempt gives a model
abbrev pub satisfied_by : List Attempt → Decision → Option ℕ
satisfied_by begun decision = cond (is_model (arc_value decision.given)) (job_of (item_at begun decision.number)) None

-- the models after a decision
abbrev pub models_on : List Entry → Decision → List ℕ
models_on journal decision = satisfied journal ++ cons_option (satisfied_by (attempts journal) decision) []

-- the verdict that an event gives a job that isn't settled before it
abbrev pub verdict_by : Rules → List Entry → ℕ → Event → Option Verdict
verdict_by rules journal job (event.Added segment) = over_of rules.first (suc (jobs journal)) (satisfied journal) job
verdict_by rules journal job (event.Decided number given) =
    or_else (given_if (is_attempt_at journal job number) (verdict.Answered given))
    (over_of rules.first (jobs journal) (models_on journal (record { number = number; given = given })) job)
verdict_by rules journal job (event.Cancelled other) = given_if (other == job) (verdict.Cancelled 0)
verdict_by rules journal job (event.Spent number learnt) = given_if (nat_le rules.attempts (spent_attempts journal job + cond (is_attempt_at journal job number) 1 0)) verdict.Spent
verdict_by rules journal job (event.Starved number) = given_if (is_attempt_at journal job number) verdict.Starved
verdict_by rules journal job _ = None

abbrev spents : List Entry → List ℕ
spents journal = filter_map (λ (entry : Entry). spent_by entry.event) journal

-- the case that stands, of the readings alone
abbrev standing_in : Rules → ℕ → List Attempt → List Decision → List ℕ → List ℕ → List ℕ → Option Verdict → Option Verdict
standing_in rules job begun decided cancels spent starves over =
    first_case (find (λ decision. is_at job (item_at begun decision.number)) decided) (list_any (λ number. number == job) cancels)
    (nat_le rules.attempts (count_by (λ number. is_at job (item_at begun number)) spent)) (list_any (λ number. is_at job (item_at begun number)) starves) over

same_five : {A B C D E Z : Type 0} (f : A → B → C → D → E → Z) {a a' : A} {b b' : B} {c c' : C} {d d' : D} {e e' : E}
    → a ≡ a' → b ≡ b' → c ≡ c' → d ≡ d' → e ≡ e' → f a b c d e ≡ f a' b' c' d' e'
same_five f {a = a} {a' = a'} {b = b} {b' = b'} {c = c} {c' = c'} {d = d} {d' = d'} {e = e} p q r s t =
    ap (λ x. f x b c d e) p ∙ ap (λ x. f a' x c d e) q ∙ ap (λ x. f a' b' x d e) r ∙ ap (λ x. f a' b' c' x e) s ∙ ap (f a' b' c' d') t

-- the cases after an entry that begins no attempt
standing_by : (rules : Rules) (journal : List Entry) (entry : Entry) (job : ℕ) (over : Option Verdict) → overtaken rules (journal ++ entry ∷ []) job ≡ over → IsFree rules journal job → begun_by entry.caller entry.event ≡ None
    → standing rules (journal ++ entry ∷ []) job
    ≡ first_case (find (λ decision. is_attempt_at journal job decision.number) (cons_option (decision_of entry.event) []))
    (list_any (λ number. number == job) (cons_option (cancelled_by entry.event) []))
    (nat_le rules.attempts (spent_attempts journal job + count_by (is_attempt_at journal job) (cons_option (spent_by entry.event) [])))
    (list_any (is_attempt_at journal job) (cons_option (starved_by entry.event) [])) over
standing_by rules journal entry job over is free none =
    let begun : attempts (journal ++ entry ∷ []) ≡ attempts journal = unread (λ (e : Entry). begun_by e.caller e.event) journal entry none in
    let decided : decisions (journal ++ entry ∷ []) ≡ decisions journal ++ cons_option (decision_of entry.event) [] = filter_map-append (λ (e : Entry). decision_of e.event) journal (entry ∷ []) in
    let cancels : cancelled (journal ++ entry ∷ []) ≡ cancelled journal ++ cons_option (cancelled_by entry.event) [] = filter_map-append (λ (e : Entry). cancelled_by e.event) journal (entry ∷ []) in
    let spent : spents (journal ++ entry ∷ []) ≡ spents journal ++ cons_option (spent_by entry.event) [] = filter_map-append (λ (e : Entry). spent_by e.event) journal (entry ∷ []) in
    let starves : starved (journal ++ entry ∷ []) ≡ starved journal ++ cons_option (starved_by entry.event) [] = filter_map-append (λ (e : Entry). starved_by e.event) journal (entry ∷ []) in
    let at : ℕ → Bool = is_attempt_at journal job in
    ap (λ all. standing_in rules job all (decisions (journal ++ entry ∷ [])) (cancelled (journal ++ entry ∷ [])) (spents (journal ++ entry ∷ [])) (starved (journal ++ entry ∷ [])) (overtaken rules (journal ++ entry ∷ []) job)) begun
    ∙ same_five (standing_in rules job (attempts journal)) decided cancels spent starves is
    ∙ same_five first_case
    (find-append (λ (decision : Decision). at decision.number) (decisions journal) (cons_option (decision_of entry.event) [])
    ∙ ap (λ o. option_or o (find (λ (decision : Decision). at decision.number) (cons_option (decision_of entry.event) []))) free.unanswered)
    (list_any-append (λ number. number == job) (cancelled journal) (cons_option (cancelled_by entry.event) [])
    ∙ ap (λ b. b || list_any (λ number. number == job) (cons_option (cancelled_by entry.event) [])) free.uncancelled)
    (ap (nat_le rules.attempts) (sum_by-append (λ number. cond (at number) 1 0) (spents journal) (cons_option (spent_by entry.event) [])))
    (list_any-append at (starved journal) (cons_option (starved_by entry.event) [])
    ∙ ap (λ b. b || list_any at (cons_option (starved_by entry.event) [])) free.unstarved)
    refl

-- tests that agree on each item
All-rest : {X : Type 0} (P : X → Type 0) (x : X) (xs : List X) → All P (x ∷ xs) → All P xs
All-rest P x xs all k d lt = all (suc k) d (omega arith)

All-first : {X : Type 0} (P : X → Type 0) (x : X) (xs : List X) → All P (x ∷ xs) → P x
All-first P x xs all = all 0 x (omega arith)

find_same : {X : Type 0} (p q : X → Bool) (xs : List X) → All (λ x. p x ≡ q x) xs → find p xs ≡ find q xs
find_same p q [] all = refl
find_same p q (x ∷ xs) all =
    ap (λ b. cond b (Some x) (find p xs)) (All-first (λ y. p y ≡ q y) x xs all) ∙ ap (λ o. cond (q x) (Some x) o) (find_same p q xs (All-rest (λ y. p y ≡ q y) x xs all))

any_same : {X : Type 0} (p q : X → Bool) (xs : List X) → All (λ x. p x ≡ q x) xs → list_any p xs ≡ list_any q xs
any_same p q [] all = refl
any_same p q (x ∷ xs) all =
    ap (λ b. b || list_any p xs) (All-first (λ y. p y ≡ q y) x xs all) ∙ ap (λ b. q x || b) (any_same p q xs (All-rest (λ y. p y ≡ q y) x xs all))

pub count_same : {X : Type 0} (p q : X → Bool) (xs : List X) → All (λ x. p x ≡ q x) xs → count_by p xs ≡ count_by q xs
count_same p q [] all = refl
count_same p q (x ∷ xs) all =
    sum_by-cons (λ y. cond (p y) 1 0) x xs ∙ ap (λ b. cond b 1 0 + count_by p xs) (All-first (λ y. p y ≡ q y) x xs all)
    ∙ ap (λ n. cond (q x) 1 0 + n) (count_same p q xs (All-rest (λ y. p y ≡ q y) x xs all)) ∙ sym (sum_by-cons (λ y. cond (q y) 1 0) x xs)

-- an attempt that was begun stays the one of its number
pub attempt_kept : (begun : List Attempt) (new : Attempt) (job number : ℕ) → number ≤ length begun → is_at job (item_at (begun ++ new ∷ []) number) ≡ is_at job (item_at begun number)
attempt_kept begun new job number le = ap (is_at job) (item_kept begun (new ∷ []) number le)

-- tests that agree on each item read the same
read_same : {X Y : Type 0} (p q : X → Option Y) (xs : List X) → All (λ x. p x ≡ q x) xs → filter_map p xs ≡ filter_map q xs
read_same p q [] all = refl
read_same p q (x ∷ xs) all =
    ap (λ o. cons_option o (filter_map p xs)) (All-first (λ y. p y ≡ q y) x xs all) ∙ ap (cons_option (q x)) (read_same p q xs (All-rest (λ y. p y ≡ q y) x xs all))

-- the models after one more entry
abbrev satisfied_in : List Attempt → List Decision → List ℕ
satisfied_in begun decided = filter_map (satisfied_by begun) decided

pub same_models : (journal : List Entry) (entry : Entry) → begun_by entry.caller entry.event ≡ None → decision_of entry.event ≡ None → satisfied (journal ++ entry ∷ []) ≡ satisfied journal
same_models journal entry none undecided =
    ap (λ all. satisfied_in all (decisions (journal ++ entry ∷ []))) (unread (λ (e : Entry). begun_by e.caller e.event) journal entry none)
    ∙ ap (satisfied_in (attempts journal)) (unread (λ (e : Entry). decision_of e.event) journal entry undecided)

pub one_more_model : (journal : List Entry) (entry : Entry) (decision : Decision) → begun_by entry.caller entry.event ≡ None → decision_of entry.event ≡ Some decision → satisfied (journal ++ entry ∷ []) ≡ models_on journal decision
one_more_model journal entry decision none decided =
    ap (λ all. satisfied_in all (decisions (journal ++ entry ∷ []))) (unread (λ (e : Entry). begun_by e.caller e.event) journal entry none)
    ∙ ap (satisfied_in (attempts journal)) (read_on (λ (e : Entry). decision_of e.event) journal entry decision decided)
    ∙ filter_map-append (satisfied_by (attempts journal)) (decisions journal) (decision ∷ [])

pub begun_models : (journal : List Entry) (entry : Entry) (new : Attempt) → IsOrderly journal → begun_by entry.caller entry.event ≡ Some new → decision_of entry.event ≡ None → satisfied (journal ++ entry ∷ []) ≡ satisfied journal
begun_models journal entry new orderly begins undecided =
    ap (λ all. satisfied_in all (decisions (journal ++ entry ∷ []))) (read_on (λ (e : Entry). begun_by e.caller e.event) journal entry new begins)
    ∙ ap (satisfied_in (attempts journal ++ new ∷ [])) (unread (λ (e : Entry). decision_of e.event) journal entry undecided)
    ∙ read_same (satisfied_by (attempts journal ++ new ∷ [])) (satisfied_by (attempts journal)) (decisions journal)
    (λ k d lt. ap (λ found. cond (is_model (arc_value (slice_index_or (decisions journal) k d).given)) (job_of found) None)
    (item_kept (attempts journal) (new ∷ []) (slice_index_or (decisions journal) k d).number (orderly.decided k d lt)))

-- an entry that adds no job and no model overtakes nobody
still_over : (rules : Rules) (journal : List Entry) (entry : Entry) (job : ℕ) → IsFree rules journal job → segment_of entry.event ≡ None → satisfied (journal ++ entry ∷ []) ≡ satisfied journal → overtaken rules (journal ++ entry ∷ []) job ≡ None
still_over rules journal entry job free adds same =
    ap (λ all. over_of rules.first (length all) (satisfied (journal ++ entry ∷ [])) job) (unread (λ (e : Entry). segment_of e.event) journal entry adds)
    ∙ ap (λ all. over_of rules.first (jobs journal) all job) same ∙ free.not_overtaken

quiet_over : (rules : Rules) (journal : List Entry) (entry : Entry) (job : ℕ) → IsFree rules journal job → begun_by entry.caller entry.event ≡ None → decision_of entry.event ≡ None → segment_of entry.event ≡ None
    → overtaken rules (journal ++ entry ∷ []) job ≡ None
quiet_over rules journal entry job free begins decides adds = still_over rules journal entry job free adds (same_models journal entry begins decides)

begun_over : (rules : Rules) (journal : List Entry) (entry : Entry) (new : Attempt) (job : ℕ) → IsOrderly journal → IsFree rules journal job → begun_by entry.caller entry.event ≡ Some new → decision_of entry.event ≡ None → segment_of entry.event ≡ None
    → overtaken rules (journal ++ entry ∷ []) job ≡ None
begun_over rules journal entry new job orderly free begins decides adds = still_over rules journal entry job free adds (begun_models journal entry new orderly begins decides)

-- the beginning of an attempt settles no job
standing_begun : (rules : Rules) (journal : List Entry) (caller other number job : ℕ) → IsFree rules journal job → IsOrderly journal
    → standing rules (journal ++ entry_by caller (event.Began other number) ∷ []) job ≡ None
standing_begun rules journal caller other number job free orderly =
    let entry : Entry = entry_by caller (event.Began other number) in
    let new : Attempt = record { number = number; worker = caller; job = other } in
    let begun : attempts (journal ++ entry ∷ []) ≡ attempts journal ++ new ∷ [] = read_on (λ (e : Entry). begun_by e.caller e.event) journal entry new refl in
    let decided : decisions (journal ++ entry ∷ []) ≡ decisions journal = unread (λ (e : Entry). decision_of e.event) journal entry refl in
    let cancels : cancelled (journal ++ entry ∷ []) ≡ cancelled journal = unread (λ (e : Entry). cancelled_by e.event) journal entry refl in
    let spent : spents (journal ++ entry ∷ []) ≡ spents journal = unread (λ (e : Entry). spent_by e.event) journal entry refl in
    let starves : starved (journal ++ entry ∷ []) ≡ starved journal = unread (λ (e : Entry). starved_by e.event) journal entry refl in
    let longer : ℕ → Bool = λ n. is_at job (item_at (attempts journal ++ new ∷ []) n) in
    let at : ℕ → Bool = is_attempt_at journal job in
    ap (λ all. standing_in rules job all (decisions (journal ++ entry ∷ [])) (cancelled (journal ++ entry ∷ [])) (spents (journal ++ entry ∷ [])) (starved (journal ++ entry ∷ [])) (overtaken rules (journal ++ entry ∷ []) job)) begun
    ∙ same_five (standing_in rules job (attempts journal ++ new ∷ [])) decided cancels spent starves (begun_over rules journal entry new job orderly free refl refl refl)
    ∙ same_five first_case {a' = None} {b' = false} {c' = false} {d' = false} {e' = None}
    (find_same (λ (d : Decision). longer d.number) (λ (d : Decision). at d.number) (decisions journal) (λ k d lt. attempt_kept (attempts journal) new job (slice_index_or (decisions journal) k d).number (orderly.decided k d lt)) ∙ free.unanswered)
    free.uncancelled
    (ap (nat_le rules.attempts) (count_same longer at (spents journal) (λ k d lt. attempt_kept (attempts journal) new job (slice_index_or (spents journal) k d) (orderly.spents k d lt))) ∙ free.unspent)
    (any_same longer at (starved journal) (λ k d lt. attempt_kept (attempts journal) new job (slice_index_or (starved journal) k d) (orderly.starved k d lt)) ∙ free.unstarved)
    refl

decided_case : (is over : Bool) (decision : Decision) (cancels : Option Verdict) → over ≡ false → first_case (cond is (Some decision) None) false over false cancels ≡ or_else (given_if is (verdict.Answered decision.given)) cancels
decided_case true over decision cancels few = refl
decided_case false over decision cancels few = ap (λ b. first_case None false b false cancels) few

added_case : (over : Bool) (cancels : Option Verdict) → over ≡ false → first_case None false over false cancels ≡ cancels
added_case over cancels few = ap (λ b. first_case None false b false cancels) few

cancelled_case : (is over : Bool) → over ≡ false → first_case None (is || false) over false None ≡ given_if is (verdict.Cancelled 0)
cancelled_case true over few = refl
cancelled_case false over few = ap (λ b. first_case None false b false None) few

spent_case : (over : Bool) → first_case None false over false None ≡ given_if over verdict.Spent
spent_case true = refl
spent_case false = refl

starved_case : (is over : Bool) → over ≡ false → first_case None false over (is || false) None ≡ given_if is verdict.Starved
starved_case true over few = ap (λ b. first_case None false b true None) few
starved_case false over few = ap (λ b. first_case None false b false None) few

pub still_few : (rules : Rules) (journal : List Entry) (job : ℕ) → IsFree rules journal job → nat_le rules.attempts (spent_attempts journal job + 0) ≡ false
still_few rules journal job free = let same : spent_attempts journal job + 0 ≡ spent_attempts journal job = omega arith in ap (nat_le rules.attempts) same ∙ free.unspent

pub nothing : (rules : Rules) (journal : List Entry) (job : ℕ) → IsFree rules journal job → given_if (nat_le rules.attempts (spent_attempts journal job + 0)) verdict.Spent ≡ None
nothing rules journal job free = ap (λ b. given_if b verdict.Spent) (still_few rules journal job free)

one_counted : {X : Type 0} (p : X → Bool) (x : X) → count_by p (x ∷ []) ≡ cond (p x) 1 0
one_counted p x = let more : cond (p x) 1 0 + 0 ≡ cond (p x) 1 0 = omega arith in sum_by-cons (λ y. cond (p y) 1 0) x [] ∙ more

-- the cases after an entry that begins no attempt, adds no job and decides none
standing_quiet : (rules : Rules) (journal : List Entry) (caller : ℕ) (happened : Event) (job : ℕ) → IsFree rules journal job → begun_by caller happened ≡ None → decision_of happened ≡ None → segment_of happened ≡ None
    → standing rules (journal ++ entry_by caller happened ∷ []) job
    ≡ first_case (find (λ decision. is_attempt_at journal job decision.number) (cons_option (decision_of happened) []))
    (list_any (λ number. number == job) (cons_option (cancelled_by happened) []))
    (nat_le rules.attempts (spent_attempts journal job + count_by (is_attempt_at journal job) (cons_option (spent_by happened) [])))
    (list_any (is_attempt_at journal job) (cons_option (starved_by happened) [])) None
standing_quiet rules journal caller happened job free begins decides adds =
    standing_by rules journal (entry_by caller happened) job None (quiet_over rules journal (entry_by caller happened) job free begins decides adds) free begins

-- the case that stands for a job that isn't settled is the one that the new entry makes
standing_verdict : (rules : Rules) (journal : List Entry) (caller : ℕ) (happened : Event) (job : ℕ) → IsFree rules journal job → IsOrderly journal
    → standing rules (journal ++ entry_by caller happened ∷ []) job ≡ verdict_by rules journal job happened
standing_verdict rules journal caller (event.Added segment) job free orderly =
    let entry : Entry = entry_by caller (event.Added segment) in
    let more : jobs (journal ++ entry ∷ []) ≡ suc (jobs journal) =
    ap length (read_on (λ (e : Entry). segment_of e.event) journal entry (arc_value segment) refl) ∙ length_push (segments journal) (arc_value segment)
    ∙ (let e : jobs journal + 1 ≡ suc (jobs journal) = omega arith in e) in
    standing_by rules journal entry job (over_of rules.first (suc (jobs journal)) (satisfied journal) job)
    (ap (λ n. over_of rules.first n (satisfied (journal ++ entry ∷ [])) job) more ∙ ap (λ all. over_of rules.first (suc (jobs journal)) all job) (same_models journal entry refl refl)) free refl
    ∙ added_case (nat_le rules.attempts (spent_attempts journal job + 0)) (over_of rules.first (suc (jobs journal)) (satisfied journal) job) (still_few rules journal job free)
standing_verdict rules journal caller event.Closed job free orderly =
    standing_quiet rules journal caller event.Closed job free refl refl refl ∙ spent_case (nat_le rules.attempts (spent_attempts journal job + 0)) ∙ nothing rules journal job free
standing_verdict rules journal caller (event.Cancelled other) job free orderly =
    standing_quiet rules journal caller (event.Cancelled other) job free refl refl refl ∙ cancelled_case (other == job) (nat_le rules.attempts (spent_attempts journal job + 0)) (still_few rules journal job free)
standing_verdict rules journal caller (event.Began other number) job free orderly = standing_begun rules journal caller other number job free orderly
standing_verdict rules journal caller (event.Shared packet) job free orderly =
    standing_quiet rules journal caller (event.Shared packet) job free refl refl refl ∙ spent_case (nat_le rules.attempts (spent_attempts journal job + 0)) ∙ nothing rules journal job free
standing_verdict rules journal caller (event.Spent number learnt) job free orderly =
    standing_quiet rules journal caller (event.Spent number learnt) job free refl refl refl
    ∙ spent_case (nat_le rules.attempts (spent_attempts journal job + count_by (is_attempt_at journal job) (number ∷ [])))
    ∙ ap (λ n. given_if (nat_le rules.attempts (spent_attempts journal job + n)) verdict.Spent) (one_counted (is_attempt_at journal job) number)
standing_verdict rules journal caller (event.Dropped number) job free orderly =
    standing_quiet rules journal caller (event.Dropped number) job free refl refl refl ∙ spent_case (nat_le rules.attempts (spent_attempts journal job + 0)) ∙ nothing rules journal job free
standing_verdict rules journal caller (event.Decided number given) job free orderly =
    let entry : Entry = entry_by caller (event.Decided number given) in
    let decision : Decision = record { number = number; given = given } in
    standing_by rules journal entry job (over_of rules.first (jobs journal) (models_on journal decision) job)
    (ap (λ all. over_of rules.first (length all) (satisfied (journal ++ entry ∷ [])) job) (unread (λ (e : Entry). segment_of e.event) journal entry refl)
    ∙ ap (λ all. over_of rules.first (jobs journal) all job) (one_more_model journal entry decision refl refl)) free refl
    ∙ decided_case (is_attempt_at journal job number) (nat_le rules.attempts (spent_attempts journal job + 0)) decision (over_of rules.first (jobs journal) (models_on journal decision) job) (still_few rules journal job free)
standing_verdict rules journal caller (event.Starved number) job free orderly =
    standing_quiet rules journal caller (event.Starved number) job free refl refl refl
    ∙ starved_case (is_attempt_at journal job number) (nat_le rules.attempts (spent_attempts journal job + 0)) (still_few rules journal job free)

-- settled after one more entry
pub settled_step : (rules : Rules) (journal : List Entry) (caller : ℕ) (happened : Event) (job : ℕ) → 1 ≤ rules.attempts → IsOrderly journal
    → settled rules (journal ++ entry_by caller happened ∷ []) job ≡ or_else (settled rules journal job) (verdict_by rules journal job happened)
settled_step rules journal caller happened job some orderly =
    settled_push rules journal (entry_by caller happened) job ∙ by_verdict (settled rules journal job) refl
  where
    by_verdict : (given : Option Verdict) → settled rules journal job ≡ given
        → or_else given (standing rules (journal ++ entry_by caller happened ∷ []) job) ≡ or_else given (verdict_by rules journal job happened)
    by_verdict (Some found) is = refl
    by_verdict None is = standing_verdict rules journal caller happened job (unsettled_free rules journal job some is) orderly
