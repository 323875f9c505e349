-- What a worker knows of its attempts from one hold to the next.
use Rattle.std.proofs.Common.{◌≡◌, ◌≢◌, ◌∙◌, ◌⊎◌, inl, inr, ℕ, ◌+◌, ◌≤◌, ◌==◌, ◌||◌, Bool, true, false, not, List, [], ◌∷◌, ◌++◌, length, Option, Some, None, refl, ap, sym, subst, arith, append_assoc, append-nil, length-append}
use Rattle.std.specs.Prelude.{All, Contains, nat_le, cond}
use Rattle.std.specs.List.{list_any}
use Rattle.std.proofs.lemmas.Bool.Decides.{nat_tests}
use Rattle.std.proofs.lemmas.List.Elements.{All-nil, All-cons, All-head, All-tail, filter_map-append, filter-append}
use Rattle.std.proofs.lemmas.List.{length_push}
use Rattle.std.proofs.lemmas.List.Folds.{list_any-append}
use Rattle.std.proofs.lemmas.Option.{same_Some}
use Rattle.trace_core.specs.Known.{item_at}
use Rattle.trace_core.proofs.Items.{item_at-append_cases, item_at-last, item_at-kept as item_kept}
use Rattle.entry_core.specs.declared.entries.Entry.{Entry}
use Rattle.entry_core.specs.declared.entries.Event.{Event}
use Rattle.entry_core.specs.declared.entries.Event.TheVariants as event
use Rattle.entry_core.specs.declared.rules.Rules.{Rules}
use Rattle.entry_core.specs.Attempts.{Attempt, begun_by, attempts, attempt, ended_by, ended, is_open}
use Rattle.entry_core.specs.Journal.{jobs}
use Rattle.entry_core.specs.Legal.{IsAllowed, IsLegal, IsLegalAfter, IsRunning}
use Rattle.entry_core.proofs.LegalEntries.{attempt_kept, from_reading, legal_push}
use Rattle.entry_core.proofs.LongerJournals.{longer_journal_keeps}
use Rattle.turn_lock.specs.Entries.{entries_of}
use Rattle.board_core.specs.State.{State}
use Rattle.board_core.specs.Replies.{IsOwn, job_in}
use Rattle.board_core.proofs.Readings.{unread, read_on}
use Rattle.board_core.proofs.Looked.{item_place}
use Rattle.service.specs.Passes.{BoardLock, BoardPass, Knows, board_of, caller_of}
use Rattle.worker_loop.specs.Attempts.{IsAt}
use Rattle.worker_loop.specs.Working.{IsResting}
use Rattle.worker_loop.specs.Shared.{IsSharing}

-- Attempts stand at their numbers.

abbrev AreAtNumbers : List Entry → Type 0
AreAtNumbers journal = (k : ℕ) (a : Attempt) → attempt journal k ≡ Some a → a.number ≡ k

begun_next : (rules : Rules) (before : List Entry) (caller : ℕ) (happened : Event) (a : Attempt) → begun_by caller happened ≡ Some a → IsAllowed rules before caller happened
    → a.number ≡ length (attempts before) + 1
begun_next rules before caller (event.Began job number) a is allowed =
    let same = same_Some (record { number = number; worker = caller; job = job }) a is in
    sym (ap (λ (x : Attempt). x.number) same) ∙ allowed.next_number
begun_next rules before caller (event.Added segment) a is allowed = absurd (cc)
begun_next rules before caller event.Closed a is allowed = absurd (cc)
begun_next rules before caller (event.Cancelled job) a is allowed = absurd (cc)
begun_next rules before caller (event.Shared packet) a is allowed = absurd (cc)
begun_next rules before caller (event.Spent number learnt) a is allowed = absurd (cc)
begun_next rules before caller (event.Dropped number) a is allowed = absurd (cc)
begun_next rules before caller (event.Decided number given) a is allowed = absurd (cc)
begun_next rules before caller (event.Starved number) a is allowed = absurd (cc)

one_more : (rules : Rules) (before : List Entry) (entry : Entry) → AreAtNumbers before → IsAllowed rules before entry.caller entry.event → AreAtNumbers (before ++ entry ∷ [])
one_more rules before entry at allowed k a found = by_read (begun_by entry.caller entry.event) refl
  where
    by_read : (o : Option Attempt) → begun_by entry.caller entry.event ≡ o → a.number ≡ k
    by_read None none = at k a (ap (λ (all : List Attempt). item_at all k) (sym (unread (λ (e : Entry). begun_by e.caller e.event) before entry none)) ∙ found)
    by_read (Some new) some = by_place (nat_le k (length (attempts before))) refl
      where
        all : item_at (attempts before ++ new ∷ []) k ≡ Some a
        all = ap (λ (all : List Attempt). item_at all k) (sym (read_on (λ (e : Entry). begun_by e.caller e.event) before entry new some)) ∙ found

        by_place : (b : Bool) → nat_le k (length (attempts before)) ≡ b → a.number ≡ k
        by_place true is = at k a (sym (item_kept (attempts before) (new ∷ []) k (let le : k ≤ length (attempts before) = grind (arith, nat_tests) in le)) ∙ all)
        by_place false is =
            let place = item_place (attempts before ++ new ∷ []) k a all in
            let top = length_push (attempts before) new in
            let to = place.1 in
            let last : k ≡ length (attempts before) + 1 = grind (arith, nat_tests) in
            let same = same_Some new a (sym (item_at-last (attempts before) new k last) ∙ all) in
            sym (ap (λ (x : Attempt). x.number) same) ∙ begun_next rules before entry.caller entry.event new some allowed ∙ sym last

at_numbers : (rules : Rules) (before rest : List Entry) → AreAtNumbers before → IsLegalAfter rules before rest → AreAtNumbers (before ++ rest)
at_numbers rules before [] at legal = subst AreAtNumbers (sym (append-nil before)) at
at_numbers rules before (entry ∷ rest) at legal =
    subst AreAtNumbers (append_assoc before (entry ∷ []) rest) (at_numbers rules (before ++ entry ∷ []) rest (one_more rules before entry at legal.0) legal.1)

-- in a legal journal an attempt has the number of its place
pub its_number : (rules : Rules) (journal : List Entry) (number : ℕ) (a : Attempt) → IsLegal rules journal → attempt journal number ≡ Some a → a.number ≡ number
its_number rules journal number a legal found = at_numbers rules [] journal (λ k x is. absurd (let place = item_place {X = Attempt} [] k x is in let to = place.1 in let from = place.0 in omega arith)) legal number a found

-- An attempt is ended by the one that began it.
pub ends_own : (rules : Rules) (before : List Entry) (caller : ℕ) (happened : Event) (number : ℕ) → ended_by happened ≡ Some number → IsAllowed rules before caller happened → (begun : Attempt) × IsRunning before caller number begun
ends_own rules before caller (event.Spent n learnt) number is allowed = subst (λ m. (begun : Attempt) × IsRunning before caller m begun) (same_Some n number is) (allowed.begun, allowed.running)
ends_own rules before caller (event.Dropped n) number is allowed = subst (λ m. (begun : Attempt) × IsRunning before caller m begun) (same_Some n number is) (allowed.begun, allowed.running)
ends_own rules before caller (event.Decided n given) number is allowed = subst (λ m. (begun : Attempt) × IsRunning before caller m begun) (same_Some n number is) (allowed.begun, allowed.running)
ends_own rules before caller (event.Starved n) number is allowed = subst (λ m. (begun : Attempt) × IsRunning before caller m begun) (same_Some n number is) (allowed.begun, allowed.running)
ends_own rules before caller (event.Added segment) number is allowed = absurd (cc)
ends_own rules before caller event.Closed number is allowed = absurd (cc)
ends_own rules before caller (event.Cancelled job) number is allowed = absurd (cc)
ends_own rules before caller (event.Began job n) number is allowed = absurd (cc)
ends_own rules before caller (event.Shared packet) number is allowed = absurd (cc)

-- An attempt that runs goes on to run after an entry that doesn't end it.
runs_unended : (journal : List Entry) (entry : Entry) (caller number : ℕ) (begun : Attempt) → ((n : ℕ) → ended_by entry.event ≡ Some n → (n == begun.number) ≡ false)
    → IsRunning journal caller number begun → IsRunning (journal ++ entry ∷ []) caller number begun
runs_unended journal entry caller number begun others running = record {
  found = attempt_kept journal (entry ∷ []) number begun running.found;
  own = running.own;
  open_yet = by_end (ended_by entry.event) refl;
}
  where
    by_end : (o : Option ℕ) → ended_by entry.event ≡ o → is_open (journal ++ entry ∷ []) begun ≡ true
    by_end None is = ap (λ all. not (list_any (λ n. n == begun.number) all)) (unread (λ (e : Entry). ended_by e.event) journal entry is) ∙ running.open_yet
    by_end (Some n) is =
        ap (λ all. not (list_any (λ n. n == begun.number) all)) (read_on (λ (e : Entry). ended_by e.event) journal entry n is)
        ∙ ap not (list_any-append (λ n. n == begun.number) (ended journal) (n ∷ []))
        ∙ ap (λ b. not (list_any (λ n. n == begun.number) (ended journal) || (b || false))) (others n is)
        ∙ or_no (list_any (λ n. n == begun.number) (ended journal)) ∙ running.open_yet
      where
        or_no : (b : Bool) → not (b || (false || false)) ≡ not b
        or_no true = refl
        or_no false = refl

-- an entry of another caller ends none of one's own attempts
others_end_others : (rules : Rules) (journal : List Entry) (entry : Entry) (caller number : ℕ) (begun : Attempt) → IsLegal rules journal → IsAllowed rules journal entry.caller entry.event → entry.caller ≢ caller
    → IsRunning journal caller number begun → (n : ℕ) → ended_by entry.event ≡ Some n → (n == begun.number) ≡ false
others_end_others rules journal entry caller number begun legal allowed other running n is = by_test (n == begun.number) refl
  where
    by_test : (b : Bool) → (n == begun.number) ≡ b → (n == begun.number) ≡ false
    by_test false test = test
    by_test true test =
        let ends = ends_own rules journal entry.caller entry.event n is allowed in
        let same : n ≡ begun.number = grind (arith, nat_tests) in
        let itself : ends.0 ≡ begun =
        same_Some ends.0 begun (sym ends.1.found ∙ ap (attempt journal) (same ∙ its_number rules journal number begun legal running.found) ∙ running.found) in
        absurd (other (sym ends.1.own ∙ ap (λ (a : Attempt). a.worker) itself ∙ running.own))

pub runs_besides : (rules : Rules) (journal more : List Entry) (caller number : ℕ) (begun : Attempt) → IsLegal rules journal → IsLegalAfter rules journal more → All (λ (e : Entry). caller_of e ≢ caller) more
    → IsRunning journal caller number begun → IsRunning (journal ++ more) caller number begun
runs_besides rules journal [] caller number begun legal after others running = subst (λ (all : List Entry). IsRunning all caller number begun) (sym (append-nil journal)) running
runs_besides rules journal (entry ∷ more) caller number begun legal after others running =
    let one = All-head (λ (e : Entry). caller_of e ≢ caller) entry more others in
    subst (λ (all : List Entry). IsRunning all caller number begun) (append_assoc journal (entry ∷ []) more)
    (runs_besides rules (journal ++ entry ∷ []) more caller number begun (legal_push rules journal entry legal after.0) after.1 (All-tail (λ (e : Entry). caller_of e ≢ caller) entry more others)
    (runs_unended journal entry caller number begun (others_end_others rules journal entry caller number begun legal after.0 one running) running))

sharing_ends_none : (happened : Event) → IsSharing happened → ended_by happened ≡ None
sharing_ends_none (event.Shared packet) is = refl
sharing_ends_none (event.Added segment) is = absurd is
sharing_ends_none event.Closed is = absurd is
sharing_ends_none (event.Cancelled job) is = absurd is
sharing_ends_none (event.Began job number) is = absurd is
sharing_ends_none (event.Spent number learnt) is = absurd is
sharing_ends_none (event.Dropped number) is = absurd is
sharing_ends_none (event.Decided number given) is = absurd is
sharing_ends_none (event.Starved number) is = absurd is

pub runs_shared : (journal more : List Entry) (caller number : ℕ) (begun : Attempt) → All (λ (e : Entry). IsSharing e.event) more → IsRunning journal caller number begun → IsRunning (journal ++ more) caller number begun
runs_shared journal [] caller number begun sharing running = subst (λ (all : List Entry). IsRunning all caller number begun) (sym (append-nil journal)) running
runs_shared journal (entry ∷ more) caller number begun sharing running =
    let none = sharing_ends_none entry.event (All-head (λ (e : Entry). IsSharing e.event) entry more sharing) in
    subst (λ (all : List Entry). IsRunning all caller number begun) (append_assoc journal (entry ∷ []) more)
    (runs_shared (journal ++ entry ∷ []) more caller number begun (All-tail (λ (e : Entry). IsSharing e.event) entry more sharing)
    (runs_unended journal entry caller number begun (λ n is. absurd (let e : None ≡ Some n = sym none ∙ is in cc)) running))

-- an attempt stays at its job in a longer journal in which it runs
pub at_longer : (old new : State) (more : List Entry) (caller number job : ℕ) → new.journal ≡ old.journal ++ more
    → ((begun : Attempt) → IsRunning old.journal caller number begun → IsRunning new.journal caller number begun) → IsAt old caller number job → IsAt new caller number job
at_longer old new more caller number job is runs at = record {
  own = record { begun = at.own.begun; running = runs at.own.begun at.own.running };
  at_job = ap job_in (runs at.own.begun at.own.running).found ∙ sym (ap job_in at.own.running.found) ∙ at.at_job;
  there = record {
    from_one = at.there.from_one;
    added = let le = (longer_journal_keeps old.rules old.journal more).more_jobs in let was = at.there.added in omega (arith, le, was, ap jobs is);
  };
}

-- An attempt that is open behind entries of others, or that share, was open before.

not_over : (b c : Bool) → not (b || c) ≡ true → not b ≡ true
not_over true c is = absurd (cc)
not_over false c is = refl

pub owned_before : (old new : State) (more : List Entry) (caller number : ℕ) → new.journal ≡ old.journal ++ more
    → ((begun : Attempt) → Contains (attempts more) begun → begun.worker ≡ caller → ⊥) → IsOwn new caller number → IsOwn old caller number
owned_before old new more caller number is none own =
    by_side (item_at-append_cases (attempts old.journal) (attempts more) number own.begun
    (ap (λ (all : List Attempt). item_at all number) (sym (filter_map-append (λ (e : Entry). begun_by e.caller e.event) old.journal more)) ∙ sym (ap (λ (all : List Entry). attempt all number) is) ∙ own.running.found))
  where
    open_before : is_open old.journal own.begun ≡ true
    open_before =
        not_over (list_any (λ n. n == own.begun.number) (ended old.journal)) (list_any (λ n. n == own.begun.number) (ended more))
        (sym (ap not (list_any-append (λ n. n == own.begun.number) (ended old.journal) (ended more)))
        ∙ sym (ap (λ all. not (list_any (λ n. n == own.begun.number) all)) (filter_map-append (λ (e : Entry). ended_by e.event) old.journal more))
        ∙ sym (ap (λ (all : List Entry). is_open all own.begun) is) ∙ own.running.open_yet)

    by_side : (item_at (attempts old.journal) number ≡ Some own.begun) ⊎ Contains (attempts more) own.begun → IsOwn old caller number
    by_side (inl found) = record { begun = own.begun; running = record { found = found; own = own.running.own; open_yet = open_before } }
    by_side (inr here) = absurd (none own.begun here own.running.own)

by_worker : (caller : ℕ) (happened : Event) (a : Attempt) → begun_by caller happened ≡ Some a → a.worker ≡ caller
by_worker caller (event.Began job n) a found = sym (ap (λ (x : Attempt). x.worker) (same_Some (record { number = n; worker = caller; job = job }) a found))
by_worker caller (event.Added segment) a found = absurd (cc)
by_worker caller event.Closed a found = absurd (cc)
by_worker caller (event.Cancelled job) a found = absurd (cc)
by_worker caller (event.Shared packet) a found = absurd (cc)
by_worker caller (event.Spent n learnt) a found = absurd (cc)
by_worker caller (event.Dropped n) a found = absurd (cc)
by_worker caller (event.Decided n given) a found = absurd (cc)
by_worker caller (event.Starved n) a found = absurd (cc)

pub none_of_others : (more : List Entry) (caller : ℕ) → All (λ (e : Entry). caller_of e ≢ caller) more → (begun : Attempt) → Contains (attempts more) begun → begun.worker ≡ caller → ⊥
none_of_others more caller others begun has own =
    let from = from_reading (λ (e : Entry). begun_by e.caller e.event) more begun has in
    let (k, lt, at) = from.1 in
    let apart = subst (λ (e : Entry). caller_of e ≢ caller) at (others k from.0 lt) in
    apart (sym (by_worker from.0.caller from.0.event begun from.2) ∙ own)

sharing_begins_none : (caller : ℕ) (happened : Event) → IsSharing happened → begun_by caller happened ≡ None
sharing_begins_none caller (event.Shared packet) is = refl
sharing_begins_none caller (event.Added segment) is = absurd is
sharing_begins_none caller event.Closed is = absurd is
sharing_begins_none caller (event.Cancelled job) is = absurd is
sharing_begins_none caller (event.Began job number) is = absurd is
sharing_begins_none caller (event.Spent number learnt) is = absurd is
sharing_begins_none caller (event.Dropped number) is = absurd is
sharing_begins_none caller (event.Decided number given) is = absurd is
sharing_begins_none caller (event.Starved number) is = absurd is

pub none_by_sharing : (more : List Entry) (caller : ℕ) → All (λ (e : Entry). IsSharing e.event) more → (begun : Attempt) → Contains (attempts more) begun → begun.worker ≡ caller → ⊥
none_by_sharing more caller sharing begun has own =
    let from = from_reading (λ (e : Entry). begun_by e.caller e.event) more begun has in
    let (k, lt, at) = from.1 in
    let is = subst (λ (e : Entry). IsSharing e.event) at (sharing k from.0 lt) in
    absurd (let e : None ≡ Some begun = sym (sharing_begins_none from.0.caller from.0.event is) ∙ from.2 in cc)

-- Who rests does so while others work.
pub rests_besides : (old new : State) (more : List Entry) (caller : ℕ) → new.journal ≡ old.journal ++ more → All (λ (e : Entry). caller_of e ≢ caller) more → IsResting old caller → IsResting new caller
rests_besides old new more caller is others resting number own = resting number (owned_before old new more caller number is (none_of_others more caller others) own)

-- The entries that came besides are those of others.

none_own : (number : ℕ) (log : List Entry) → entries_of caller_of number log ≡ [] → All (λ (e : Entry). caller_of e ≢ number) log
none_own number [] none = All-nil (λ (e : Entry). caller_of e ≢ number)
none_own number (entry ∷ log) none = by_test (λ rest. none_own number log rest) (caller_of entry == number) refl none
  where
    by_test : (entries_of caller_of number log ≡ [] → All (λ (e : Entry). caller_of e ≢ number) log)
        → (b : Bool) → (caller_of entry == number) ≡ b → cond b (entry ∷ entries_of caller_of number log) (entries_of caller_of number log) ≡ [] → All (λ (e : Entry). caller_of e ≢ number) (entry ∷ log)
    by_test recur true test is = absurd (cc)
    by_test recur false test is =
        All-cons (λ (e : Entry). caller_of e ≢ number) entry log (λ same. absurd (grind (arith, nat_tests))) (recur is)

nothing_more : (front more : List Entry) → front ++ more ≡ front → more ≡ []
nothing_more front [] is = refl
nothing_more front (entry ∷ more) is = absurd (let e = ap length is in omega (arith, e, length-append front (entry ∷ more)))

pub others_more : (lock : BoardLock) (pass : BoardPass) (board : State) → entries_of caller_of pass.number pass.seen ≡ pass.own → Knows pass board
    → (more : List Entry) × (board.journal ≡ pass.seen ++ more) × All (λ (e : Entry). caller_of e ≢ pass.number) more
others_more lock pass board own known =
    let more = known.seen.0 in (
      more,
      known.seen.1,
      none_own pass.number more
          (nothing_more pass.own (entries_of caller_of pass.number more)
          (ap (λ (front : List Entry). front ++ entries_of caller_of pass.number more) (sym own)
          ∙ sym (filter-append (λ (e : Entry). caller_of e == pass.number) pass.seen more)
          ∙ sym (ap (entries_of caller_of pass.number) known.seen.1) ∙ known.own)),
    )

legal_rest : (rules : Rules) (before front more : List Entry) → IsLegalAfter rules before (front ++ more) → IsLegalAfter rules (before ++ front) more
legal_rest rules before [] more legal = subst (λ (all : List Entry). IsLegalAfter rules all more) (sym (append-nil before)) legal
legal_rest rules before (entry ∷ front) more legal =
    subst (λ (all : List Entry). IsLegalAfter rules all more) (append_assoc before (entry ∷ []) front) (legal_rest rules (before ++ entry ∷ []) front more legal.1)

pub legal_front : (rules : Rules) (before front more : List Entry) → IsLegalAfter rules before (front ++ more) → IsLegalAfter rules before front
legal_front rules before [] more legal = tt
legal_front rules before (entry ∷ front) more legal = (legal.0, legal_front rules (before ++ entry ∷ []) front more legal.1)

-- So an attempt stays open while others work.
pub at_besides : (lock : BoardLock) (pass : BoardPass) (board : State) (number job : ℕ) → IsLegal lock.basis pass.seen → IsLegal lock.basis board.journal
    → entries_of caller_of pass.number pass.seen ≡ pass.own → Knows pass board → IsAt (board_of lock pass.seen) pass.number number job → IsAt board pass.number number job
at_besides lock pass board number job was legal own known at =
    let others = others_more lock pass board own known in
    at_longer (board_of lock pass.seen) board others.0 pass.number number job others.1
    (λ begun running. subst (λ (all : List Entry). IsRunning all pass.number number begun) (sym others.1)
    (runs_besides lock.basis pass.seen others.0 pass.number number begun was (legal_rest lock.basis [] pass.seen others.0 (subst (IsLegal lock.basis) others.1 legal)) others.2 running)) at

pub resting_besides : (lock : BoardLock) (pass : BoardPass) (board : State) → entries_of caller_of pass.number pass.seen ≡ pass.own → Knows pass board → IsResting (board_of lock pass.seen) pass.number → IsResting board pass.number
resting_besides lock pass board own known resting =
    let others = others_more lock pass board own known in
    rests_besides (board_of lock pass.seen) board others.0 pass.number others.1 others.2 resting
