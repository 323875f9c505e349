-- Where no job is to take, and when nothing is left to do.
use Rattle.std.proofs.Common.{◌≡◌, ◌∙◌, ◌⊎◌, inl, inr, ℕ, zero, suc, ◌+◌, ◌-◌, ◌<◌, ◌≤◌, Bool, true, false, cond, Option, Some, None, List, [], ◌∷◌, ◌++◌, length, refl, ap, subst, arith, ◌==◌, ◌&&◌}
use Rattle.std.specs.Prelude.{IsSome, is_some, nat_le, count_by, slice_get, slice_index_or, All}
use Rattle.std.specs.List.{cons_option}
use Rattle.std.proofs.lemmas.Bool.Decides.{nat_tests}
use Rattle.std.proofs.lemmas.List.Elements.{All-nil}
use Rattle.std.proofs.lemmas.List.Sums.{sum_by-cons}
use Rattle.std.proofs.lemmas.Option.{same_Some, slice_get-get_or}
use Rattle.entry_core.specs.declared.answers.Verdict.{Verdict}
use Rattle.entry_core.specs.declared.answers.Verdict.TheVariants as verdict
use Rattle.entry_core.specs.declared.entries.Entry.{Entry}
use Rattle.entry_core.specs.declared.entries.Event.{Event}
use Rattle.entry_core.specs.declared.entries.Event.TheVariants as event
use Rattle.entry_core.specs.declared.rules.Rules.{Rules}
use Rattle.entry_core.specs.Attempts.{Attempt, begun_by, attempts, attempt, is_open, open_attempts, spent_attempts}
use Rattle.entry_core.specs.Settled.{or_else, given_if, overtaken, standing, settled}
use Rattle.entry_core.specs.Schedule.{IsWaiting}
use Rattle.entry_core.specs.Legal.{AreWithinLimits, IsAllowed, IsLegal, IsLegalAfter, IsWorker}
use Rattle.entry_core.proofs.LongerJournals.{no_case_later}
use Rattle.board_core.specs.State.{State}
use Rattle.board_core.specs.declared.task.Task.{Task}
use Rattle.board_core.specs.declared.task.Task.TheVariants as task
use Rattle.board_core.specs.Replies.{IsJob, IsDone, IsTask}
use Rattle.worker_loop.specs.Working.{IsResting}

-- of a board that is done no job waits
done_idle : (board : State) (job : ℕ) → IsDone board → IsWaiting board.rules board.journal job → ⊥
done_idle board job done waiting =
    let given = done.settled_all job (record { from_one = waiting.from_one; added = waiting.added }) in
    let none : is_some (settled board.rules board.journal job) ≡ false = ap is_some waiting.unsettled in
    absurd (cc)

-- where there is no attempt to make, the board is as before and no job waits
pub no_task : (old new : State) (caller : ℕ) (told : Task) → (told ≡ task.Done) ⊎ (told ≡ task.Idle) → IsTask old new caller told
    → (new ≡ old) × ((job : ℕ) → IsWaiting old.rules old.journal job → ⊥)
no_task old new caller told (inl is) said = let done = subst (IsTask old new caller) is said in (done.0, λ job waiting. done_idle old job done.1 waiting)
no_task old new caller told (inr is) said = let idle = subst (IsTask old new caller) is said in (idle.0, idle.1.nobody)

-- a job that isn't settled has spent fewer attempts than it may have
few_spent : (rules : Rules) (journal : List Entry) (job : ℕ) → 1 ≤ rules.attempts → settled rules journal job ≡ None → spent_attempts journal job < rules.attempts
few_spent rules journal job some unsettled =
    let none_yet : nat_le rules.attempts 0 ≡ false = grind (arith, nat_tests) in
    let at_first : standing rules [] job ≡ None = ap (λ b. or_else (given_if b verdict.Spent) (overtaken rules [] job)) none_yet ∙ none_overtaken (rules.first && nat_le job 0) in
    let few : nat_le rules.attempts (spent_attempts journal job) ≡ false = third _ _ (nat_le rules.attempts (spent_attempts journal job)) _ (no_case_later rules [] journal job at_first unsettled) in
    grind (arith, nat_tests)
  where
    none_overtaken : (b : Bool) → (let none : Option Verdict = None in cond b none none ≡ none)
    none_overtaken true = refl
    none_overtaken false = refl

    third : (a b : Option Verdict) (over : Bool) (c : Option Verdict) → or_else a (or_else b (or_else (given_if over verdict.Spent) c)) ≡ None → over ≡ false
    third (Some found) b over c is = absurd (cc)
    third None (Some found) over c is = absurd (cc)
    third None None true c is = absurd (cc)
    third None None false c is = refl

-- attempts are begun by workers
by_workers : (rules : Rules) (before journal : List Entry) → IsLegalAfter rules before journal → All (λ (attempt : Attempt). IsWorker rules attempt.worker) (attempts journal)
by_workers rules before [] legal = All-nil (λ (attempt : Attempt). IsWorker rules attempt.worker)
by_workers rules before (entry ∷ rest) legal =
    with_one (begun_by entry.caller entry.event) (attempts rest) (λ new is. by_worker rules before entry.caller entry.event new legal.0 is) (by_workers rules (before ++ entry ∷ []) rest legal.1)
  where
    in_front : (a : Attempt) (others : List Attempt) → IsWorker rules a.worker → All (λ (b : Attempt). IsWorker rules b.worker) others → All (λ (b : Attempt). IsWorker rules b.worker) (a ∷ others)
    in_front a others first all zero d lt = first
    in_front a others first all (suc k) d lt = all k d (omega arith)

    with_one : (o : Option Attempt) (others : List Attempt) → ((new : Attempt) → o ≡ Some new → IsWorker rules new.worker) → All (λ (a : Attempt). IsWorker rules a.worker) others
        → All (λ (a : Attempt). IsWorker rules a.worker) (cons_option o others)
    with_one None others new all = all
    with_one (Some a) others new all = in_front a others (new a refl) all

    by_worker : (rules : Rules) (before : List Entry) (caller : ℕ) (happened : Event) (new : Attempt) → IsAllowed rules before caller happened → begun_by caller happened ≡ Some new → IsWorker rules new.worker
    by_worker rules before caller (event.Began job number) new allowed is =
        subst (λ (a : Attempt). IsWorker rules a.worker) (same_Some (record { number = number; worker = caller; job = job }) new is) allowed.worker
    by_worker rules before caller (event.Added segment) new allowed is = absurd (cc)
    by_worker rules before caller event.Closed new allowed is = absurd (cc)
    by_worker rules before caller (event.Cancelled job) new allowed is = absurd (cc)
    by_worker rules before caller (event.Shared packet) new allowed is = absurd (cc)
    by_worker rules before caller (event.Spent number learnt) new allowed is = absurd (cc)
    by_worker rules before caller (event.Dropped number) new allowed is = absurd (cc)
    by_worker rules before caller (event.Decided number given) new allowed is = absurd (cc)
    by_worker rules before caller (event.Starved number) new allowed is = absurd (cc)

count_none : {X : Type 0} (p : X → Bool) (xs : List X) → All (λ x. p x ≡ false) xs → count_by p xs ≡ 0
count_none p [] all = refl
count_none p (x ∷ xs) all =
    let first : count_by p (x ∷ xs) ≡ 0 + count_by p xs = sum_by-cons (λ y. cond (p y) 1 0) x xs ∙ ap (λ b. cond b 1 0 + count_by p xs) (all 0 x (omega arith)) in
    let rest = count_none p xs (λ k d lt. all (suc k) d (omega arith)) in
    omega arith

-- where the one worker rests, no attempt is open
pub none_open : (board : State) (caller job : ℕ) → IsLegal board.rules board.journal → IsWorker board.rules caller → IsResting board caller → board.rules.workers ≡ 1 → open_attempts board.journal job ≡ 0
none_open board caller job legal worker resting alone =
    count_none (λ (a : Attempt). a.job == job && is_open board.journal a) (attempts board.journal) (λ k d lt. closed k (slice_index_or (attempts board.journal) k d) (at_number k d lt) (all k d lt) (is_open board.journal (slice_index_or (attempts board.journal) k d)) refl)
  where
    all : All (λ (a : Attempt). IsWorker board.rules a.worker) (attempts board.journal)
    all = by_workers board.rules [] board.journal legal

    at_number : (k : ℕ) (d : Attempt) → k < length (attempts board.journal) → attempt board.journal (k + 1) ≡ Some (slice_index_or (attempts board.journal) k d)
    at_number k d lt =
        let some : ((k + 1) == 0) ≡ false = grind (arith, nat_tests) in
        let place : (k + 1) - 1 ≡ k = omega arith in
        ap (λ b. cond b None (slice_get (attempts board.journal) ((k + 1) - 1))) some ∙ ap (slice_get (attempts board.journal)) place ∙ slice_get-get_or (attempts board.journal) k d lt

    no_test : (b : Bool) → (b && false) ≡ false
    no_test true = refl
    no_test false = refl

    closed : (k : ℕ) (a : Attempt) → attempt board.journal (k + 1) ≡ Some a → IsWorker board.rules a.worker → (b : Bool) → is_open board.journal a ≡ b → (a.job == job && b) ≡ false
    closed k a found by false is = no_test (a.job == job)
    closed k a found by true is =
        let low = by.0 in let high = by.1 in let own_low = worker.0 in let own_high = worker.1 in
        let own : a.worker ≡ caller = omega arith in
        absurd (resting (k + 1) (record { begun = a; running = record { found = found; own = own; open_yet = is } }))

-- where the one worker rests and no job waits, every job is settled
pub all_settled : (board : State) (caller : ℕ) → AreWithinLimits board.rules → IsLegal board.rules board.journal → IsWorker board.rules caller → IsResting board caller
    → ((job : ℕ) → IsWaiting board.rules board.journal job → ⊥) → board.rules.workers ≡ 1 → (job : ℕ) → IsJob board job → IsSome (settled board.rules board.journal job)
all_settled board caller limits legal worker resting idle alone job there = by_verdict (settled board.rules board.journal job) refl
  where
    by_verdict : (given : Option Verdict) → settled board.rules board.journal job ≡ given → IsSome (settled board.rules board.journal job)
    by_verdict (Some found) is = ap is_some is
    by_verdict None is =
        let none = none_open board caller job legal worker resting alone in
        let few = few_spent board.rules board.journal job limits.some_attempt is in
        absurd (idle job (record { from_one = there.from_one; added = there.added; unsettled = is; allowed = omega arith }))
