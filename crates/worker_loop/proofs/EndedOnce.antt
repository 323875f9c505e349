-- An attempt of a legal journal is ended once at most, and once where it isn't open.
use Rattle.std.proofs.Common.{◌≡◌, ◌∙◌, ℕ, ◌+◌, ◌≤◌, ◌==◌, ◌||◌, Bool, true, false, not, cond, Option, Some, None, List, [], ◌∷◌, ◌++◌, refl, ap, sym, subst, arith, append_assoc, append-nil}
use Rattle.std.specs.Prelude.{count_by}
use Rattle.std.specs.List.{list_any}
use Rattle.std.proofs.lemmas.Bool.Decides.{nat_tests}
use Rattle.std.proofs.lemmas.List.Sums.{sum_by-cons, sum_by_push}
use Rattle.entry_core.specs.declared.entries.Entry.{Entry}
use Rattle.entry_core.specs.declared.rules.Rules.{Rules}
use Rattle.entry_core.specs.Attempts.{ended_by, ended}
use Rattle.entry_core.specs.Legal.{IsAllowed, IsLegal, IsLegalAfter, IsRunning}
use Rattle.entry_core.proofs.LegalEntries.{legal_push}
use Rattle.board_core.specs.State.{State}
use Rattle.board_core.proofs.Readings.{unread, read_on}
use Rattle.service.specs.Passes.{BoardLock, BoardPass, board_of}
use Rattle.worker_loop.specs.Slices.{IsAtWork}
use Rattle.worker_loop.specs.Work.{Rests}
use Rattle.worker_loop.specs.Working.{EndsEachOnce, IsResting, ends_of}
use Rattle.worker_loop.proofs.Passes.{ends_own, its_number}

one_more_of : (numbers : List ℕ) (m n : ℕ) → count_by (λ other. other == n) (numbers ++ m ∷ []) ≡ count_by (λ other. other == n) numbers + cond (m == n) 1 0
one_more_of numbers m n = sum_by_push (λ other. cond (other == n) 1 0) numbers m

-- a number that isn't there stands in the list no time, and one that is there stands in it at least once
no_more : (numbers : List ℕ) (m n : ℕ) (b : Bool) → (m == n) ≡ b → (b || list_any (λ other. other == n) numbers) ≡ false
    → (list_any (λ other. other == n) numbers ≡ false → count_by (λ other. other == n) numbers ≡ 0) → count_by (λ other. other == n) (m ∷ numbers) ≡ 0
no_more numbers m n true is none recur = absurd (cc)
no_more numbers m n false is none recur =
    let first : count_by (λ other. other == n) (m ∷ numbers) ≡ 0 + count_by (λ other. other == n) numbers =
    sum_by-cons (λ other. cond (other == n) 1 0) m numbers ∙ ap (λ b. cond b 1 0 + count_by (λ other. other == n) numbers) is in
    omega (arith, first, recur none)

none_of : (numbers : List ℕ) (n : ℕ) → list_any (λ other. other == n) numbers ≡ false → count_by (λ other. other == n) numbers ≡ 0
none_of [] n none = refl
none_of (m ∷ rest) n none = no_more rest m n (m == n) refl none (none_of rest n)

one_at_least : (numbers : List ℕ) (m n : ℕ) (b : Bool) → (b || list_any (λ other. other == n) numbers) ≡ true
    → (list_any (λ other. other == n) numbers ≡ true → 1 ≤ count_by (λ other. other == n) numbers) → 1 ≤ cond b 1 0 + count_by (λ other. other == n) numbers
one_at_least numbers m n true some recur = omega arith
one_at_least numbers m n false some recur = let le = recur some in omega (arith, le)

some_of : (numbers : List ℕ) (n : ℕ) → list_any (λ other. other == n) numbers ≡ true → 1 ≤ count_by (λ other. other == n) numbers
some_of [] n some = absurd (cc)
some_of (m ∷ rest) n some = subst (λ k. 1 ≤ k) (sym (sum_by-cons (λ other. cond (other == n) 1 0) m rest)) (one_at_least rest m n (m == n) some (some_of rest n))

-- the attempt of an open number wasn't ended
not_ended : (b : Bool) → not b ≡ true → b ≡ false
not_ended true is = absurd (cc)
not_ended false is = refl

-- One allowed entry more ends no attempt a second time.
still_once : (rules : Rules) (before : List Entry) (entry : Entry) → IsLegal rules before → IsAllowed rules before entry.caller entry.event
    → ((n : ℕ) → ends_of before n ≤ 1) → (n : ℕ) → ends_of (before ++ entry ∷ []) n ≤ 1
still_once rules before entry legal allowed once n = by_end (ended_by entry.event) refl
  where
    by_end : (o : Option ℕ) → ended_by entry.event ≡ o → ends_of (before ++ entry ∷ []) n ≤ 1
    by_end None none = subst (λ all. count_by (λ other. other == n) all ≤ 1) (sym (unread (λ (e : Entry). ended_by e.event) before entry none)) (once n)
    by_end (Some m) some =
        subst (λ all. count_by (λ other. other == n) all ≤ 1) (sym (read_on (λ (e : Entry). ended_by e.event) before entry m some))
        (subst (λ k. k ≤ 1) (sym (one_more_of (ended before) m n)) (by_test (m == n) refl))
      where
        by_test : (b : Bool) → (m == n) ≡ b → count_by (λ other. other == n) (ended before) + cond (m == n) 1 0 ≤ 1
        by_test false is = subst (λ b. count_by (λ other. other == n) (ended before) + cond b 1 0 ≤ 1) (sym is) (let le : count_by (λ other. other == n) (ended before) ≤ 1 = once n in omega arith)
        by_test true is =
            let own = ends_own rules before entry.caller entry.event m some allowed in
            let running : IsRunning before entry.caller m own.0 = own.1 in
            let number : own.0.number ≡ m = its_number rules before m own.0 legal running.found in
            let same : m ≡ n = grind (arith, nat_tests) in
            let open_yet : list_any (λ other. other == own.0.number) (ended before) ≡ false = not_ended (list_any (λ other. other == own.0.number) (ended before)) running.open_yet in
            let none : count_by (λ other. other == n) (ended before) ≡ 0 = none_of (ended before) n (ap (λ k. list_any (λ other. other == k) (ended before)) (sym (number ∙ same)) ∙ open_yet) in
            subst (λ b. count_by (λ other. other == n) (ended before) + cond b 1 0 ≤ 1) (sym is) (omega arith)

once_after : (rules : Rules) (before rest : List Entry) → IsLegal rules before → IsLegalAfter rules before rest
    → ((n : ℕ) → ends_of before n ≤ 1) → (n : ℕ) → ends_of (before ++ rest) n ≤ 1
once_after rules before [] legal after once n = subst (λ (all : List Entry). ends_of all n ≤ 1) (sym (append-nil before)) (once n)
once_after rules before (entry ∷ rest) legal after once n =
    subst (λ (all : List Entry). ends_of all n ≤ 1) (append_assoc before (entry ∷ []) rest)
    (once_after rules (before ++ entry ∷ []) rest (legal_push rules before entry legal after.0) after.1 (still_once rules before entry legal after.0 once) n)

-- In a legal journal no attempt is ended twice.
pub at_most_once : (rules : Rules) (journal : List Entry) → IsLegal rules journal → (n : ℕ) → ends_of journal n ≤ 1
at_most_once rules journal legal n = once_after rules [] journal tt legal (λ k. omega arith) n

-- Where the caller has no open attempt, each that it began was ended by one entry.
pub ended_once : (board : State) (caller : ℕ) → IsLegal board.rules board.journal → IsResting board caller → EndsEachOnce board caller
ended_once board caller legal resting number begun found own = by_open (list_any (λ other. other == begun.number) (ended board.journal)) refl
  where
    most : ends_of board.journal number ≤ 1
    most = at_most_once board.rules board.journal legal number

    by_open : (b : Bool) → list_any (λ other. other == begun.number) (ended board.journal) ≡ b → ends_of board.journal number ≡ 1
    by_open false is = absurd (resting number (record { begun = begun; running = record { found = found; own = own; open_yet = ap not is } }))
    by_open true is =
        let same : begun.number ≡ number = its_number board.rules board.journal number begun legal found in
        let least : 1 ≤ count_by (λ other. other == number) (ended board.journal) = some_of (ended board.journal) number (ap (λ k. list_any (λ other. other == k) (ended board.journal)) (sym same) ∙ is) in
        omega (arith, most, least)

-- A pass that rests has ended each of its attempts, by one entry.
pub ended_pass : (lock : BoardLock) (pass : BoardPass) → IsAtWork lock pass → Rests lock pass → EndsEachOnce (board_of lock pass.seen) pass.number
ended_pass lock pass work rests = ended_once (board_of lock pass.seen) pass.number work.legal rests
