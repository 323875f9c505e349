-- How many attempts are open after one more entry.
use Rattle.std.proofs.Common.{◌≡◌, ◌∙◌, ◌≢◌, ℕ, zero, suc, ◌+◌, ◌-◌, ◌<◌, ◌≤◌, Bool, true, false}
use Rattle.std.proofs.Common.{cond, not, Some, None, List, [], ◌∷◌, ◌++◌, length, refl, ap, sym}
use Rattle.std.proofs.Common.{arith, ◌==◌, ◌||◌, ◌&&◌}
use Rattle.std.specs.Prelude.{count_by, All, slice_get}
use Rattle.std.specs.List.{list_any}
use Rattle.std.proofs.lemmas.Bool.Decides.{nat_tests}
use Rattle.std.proofs.lemmas.List.Folds.{list_any-append, list_any_none}
use Rattle.std.proofs.lemmas.List.Sums.{sum_by-cons, sum_by_push}
use Rattle.entry_core.specs.declared.entries.Entry.{Entry}
use Rattle.entry_core.specs.Attempts.{Attempt, begun_by, attempts, attempt, ended_by, ended}
use Rattle.entry_core.specs.Attempts.{is_open, AreNumberedFrom}
use Rattle.entry_core.proofs.Inputs.{item_found}
use Rattle.entry_core.proofs.LegalEntries.{or_yes}
use Rattle.entry_core.proofs.Readings.{unread, read_on}

-- how many attempts are open at the jobs that pass the test
abbrev pub open_where : (ℕ → Bool) → List Attempt → List ℕ → ℕ
open_where test begun over =
    count_by
    (λ attempt. test attempt.job && not (list_any (λ number. number == attempt.number) over))
    begun

-- attempts whose numbers come later than the one that ended
ended_before : (test : ℕ → Bool) (opened remains : ℕ → Bool) (begun : List Attempt)
    (first number : ℕ) → AreNumberedFrom first begun → number < first
    → ((other : ℕ) → other ≢ number → remains other ≡ opened other)
    → count_by (λ (attempt : Attempt). test attempt.job && remains attempt.number) begun
    ≡ count_by (λ (attempt : Attempt). test attempt.job && opened attempt.number) begun
ended_before test opened remains [] first number numbered lt same = refl
ended_before test opened remains (attempt ∷ rest) first number numbered lt same =
    let later : attempt.number ≢ number =
    λ is. absurd (let e : attempt.number ≡ first = numbered.0 in omega arith) in
    sum_by-cons (λ (a : Attempt). cond (test a.job && remains a.number) 1 0) attempt rest
    ∙ ap (λ b. cond (test attempt.job && b) 1 0
    + count_by (λ (a : Attempt). test a.job && remains a.number) rest) (same attempt.number later)
    ∙ ap (λ n. cond (test attempt.job && opened attempt.number) 1 0 + n)
    (ended_before test opened remains rest (suc first) number numbered.1 (omega arith) same)
    ∙ sym (sum_by-cons (λ (a : Attempt). cond (test a.job && opened a.number) 1 0) attempt rest)

-- one attempt of the list ends
one_ends : (test : ℕ → Bool) (opened remains : ℕ → Bool) (begun : List Attempt) (first place : ℕ)
    (found : Attempt) → AreNumberedFrom first begun → slice_get begun place ≡ Some found
    → opened (first + place) ≡ true → remains (first + place) ≡ false
    → ((other : ℕ) → other ≢ first + place → remains other ≡ opened other)
    → count_by (λ (attempt : Attempt). test attempt.job && remains attempt.number) begun
    + cond (test found.job) 1 0
    ≡ count_by (λ (attempt : Attempt). test attempt.job && opened attempt.number) begun
one_ends test opened remains [] first place found numbered is was is_not same = absurd (cc)
one_ends test opened remains (attempt ∷ rest) first zero found numbered is was is_not same =
    let it : attempt ≡ found = cc in
    let here : attempt.number ≡ first + 0 =
    let e : attempt.number ≡ first = numbered.0 in omega arith in
    let gone : remains attempt.number ≡ false = ap remains here ∙ is_not in
    let there : opened attempt.number ≡ true = ap opened here ∙ was in
    let after = sum_by-cons (λ (a : Attempt). cond (test a.job && remains a.number) 1 0)
    attempt rest in
    let before = sum_by-cons (λ (a : Attempt). cond (test a.job && opened a.number) 1 0)
    attempt rest in
    let others = ended_before test opened remains rest (suc first) (first + 0) numbered.1
    (omega arith) same in
    counted (test attempt.job) (remains attempt.number) (opened attempt.number)
    (count_by (λ (a : Attempt). test a.job && remains a.number) (attempt ∷ rest))
    (count_by (λ (a : Attempt). test a.job && opened a.number) (attempt ∷ rest))
    (count_by (λ (a : Attempt). test a.job && remains a.number) rest)
    (count_by (λ (a : Attempt). test a.job && opened a.number) rest) (cond (test found.job) 1 0)
    gone there after before others (ap (λ (a : Attempt). cond (test a.job) 1 0) (sym it))
  where
    counted : (b gone there : Bool) (after before later earlier one : ℕ) → gone ≡ false
        → there ≡ true → after ≡ cond (b && gone) 1 0 + later
        → before ≡ cond (b && there) 1 0 + earlier
        → later ≡ earlier → one ≡ cond b 1 0 → after + one ≡ before
    counted true true there after before later earlier one g t a e s o = absurd (cc)
    counted true false false after before later earlier one g t a e s o = absurd (cc)
    counted true false true after before later earlier one g t a e s o = omega arith
    counted false gone there after before later earlier one g t a e s o = omega arith
one_ends test opened remains (attempt ∷ rest) first (suc place) found numbered is was is_not same =
    let next : suc first + place ≡ first + suc place = omega arith in
    let other : attempt.number ≢ first + suc place =
    λ h. absurd (let e : attempt.number ≡ first = numbered.0 in omega arith) in
    let recur = one_ends test opened remains rest (suc first) place found numbered.1 is
    (ap opened next ∙ was) (ap remains next ∙ is_not)
    (λ k differs. same k (λ h. differs (h ∙ sym next))) in
    let after = sum_by-cons (λ (a : Attempt). cond (test a.job && remains a.number) 1 0)
    attempt rest in
    let before = sum_by-cons (λ (a : Attempt). cond (test a.job && opened a.number) 1 0)
    attempt rest in
    let this : (test attempt.job && remains attempt.number)
    ≡ (test attempt.job && opened attempt.number) =
    ap (λ b. test attempt.job && b) (same attempt.number other) in
    carried (test attempt.job && remains attempt.number) (test attempt.job && opened attempt.number)
    _ _ _ _ _ after before this recur
  where
    carried : (b b' : Bool) (after before later earlier one : ℕ) → after ≡ cond b 1 0 + later
        → before ≡ cond b' 1 0 + earlier → b ≡ b' → later + one ≡ earlier → after + one ≡ before
    carried true true after before later earlier one p q r s = omega arith
    carried false false after before later earlier one p q r s = omega arith
    carried true false after before later earlier one p q r s = absurd (cc)
    carried false true after before later earlier one p q r s = absurd (cc)

not_or : (b c : Bool) → c ≡ false → not (b || (c || false)) ≡ not b
not_or true c is = refl
not_or false true is = absurd (cc)
not_or false false is = refl

-- the number of an attempt is its place
pub number_found : (begun : List Attempt) (first place : ℕ) (found : Attempt)
    → AreNumberedFrom first begun → slice_get begun place ≡ Some found
    → found.number ≡ first + place
number_found [] first place found numbered is = absurd (cc)
number_found (attempt ∷ rest) first zero found numbered is =
    let it : attempt ≡ found = cc in
    let e : attempt.number ≡ first = numbered.0 in
    ap (λ (a : Attempt). a.number) (sym it) ∙ e ∙ omega arith
number_found (attempt ∷ rest) first (suc place) found numbered is =
    number_found rest (suc first) place found numbered.1 is ∙ omega arith

pub number_is : (journal : List Entry) (number : ℕ) (found : Attempt)
    → AreNumberedFrom 1 (attempts journal) → attempt journal number ≡ Some found
    → found.number ≡ number
number_is journal number found numbered is =
    let at = item_found (attempts journal) number found is in
    number_found (attempts journal) 1 (number - 1) found numbered at.1 ∙ at.0

test_other : (n k : ℕ) → k ≢ n → (n == k) ≡ false
test_other n k differs = grind (arith, nat_tests)

test_same : (n k : ℕ) → k ≡ n → (n == k) ≡ true
test_same n k same = grind (arith, nat_tests)

-- an entry that ends an open attempt
pub open_ended : (test : ℕ → Bool) (journal : List Entry) (entry : Entry) (number : ℕ)
    (begun : Attempt) → begun_by entry.caller entry.event ≡ None
    → ended_by entry.event ≡ Some number
    → AreNumberedFrom 1 (attempts journal) → attempt journal number ≡ Some begun
    → is_open journal begun ≡ true
    → open_where test (attempts (journal ++ entry ∷ [])) (ended (journal ++ entry ∷ []))
    + cond (test begun.job) 1 0
    ≡ open_where test (attempts journal) (ended journal)
open_ended test journal entry number begun none ends numbered found is =
    let at = item_found (attempts journal) number begun found in
    let own : begun.number ≡ number = number_is journal number begun numbered found in
    let opened : ℕ → Bool = λ n. not (list_any (λ k. k == n) (ended journal)) in
    let remains : ℕ → Bool = λ n. not (list_any (λ k. k == n) (ended journal ++ number ∷ [])) in
    let same_attempts : attempts (journal ++ entry ∷ []) ≡ attempts journal =
    unread (λ (e : Entry). begun_by e.caller e.event) journal entry none in
    let one_more : ended (journal ++ entry ∷ []) ≡ ended journal ++ number ∷ [] =
    read_on (λ (e : Entry). ended_by e.event) journal entry number ends in
    let was : opened (1 + (number - 1)) ≡ true = ap opened (at.0 ∙ sym own) ∙ is in
    let gone : remains (1 + (number - 1)) ≡ false =
    ap remains at.0
    ∙ ap not (list_any-append (λ k. k == number) (ended journal) (number ∷ [])
    ∙ ap (λ b. list_any (λ k. k == number) (ended journal) || (b || false))
    (test_same number number refl))
    ∙ or_yes (list_any (λ k. k == number) (ended journal)) in
    let others : (other : ℕ) → other ≢ 1 + (number - 1) → remains other ≡ opened other =
    λ other differs.
    ap not (list_any-append (λ k. k == other) (ended journal) (number ∷ []))
    ∙ not_or (list_any (λ k. k == other) (ended journal)) (number == other)
    (test_other number other (λ h. differs (h ∙ sym at.0))) in
    ap (λ all. open_where test all (ended (journal ++ entry ∷ [])) + cond (test begun.job) 1 0)
    same_attempts
    ∙ ap (λ all. open_where test (attempts journal) all + cond (test begun.job) 1 0) one_more
    ∙ one_ends test opened remains (attempts journal) 1 (number - 1) begun numbered at.1 was gone
    others

pub none_equal : (number : ℕ) (numbers : List ℕ) → All (λ n. n < number) numbers
    → list_any (λ n. n == number) numbers ≡ false
none_equal number numbers all =
    list_any_none (λ n. n == number) numbers
    (λ k d lt. let le = all k d lt in grind (arith, nat_tests))

-- an entry that begins the next attempt
pub open_begun : (test : ℕ → Bool) (journal : List Entry) (entry : Entry) (begun : Attempt)
    → begun_by entry.caller entry.event ≡ Some begun → ended_by entry.event ≡ None
    → begun.number ≡ length (attempts journal) + 1
    → All (λ number. number ≤ length (attempts journal)) (ended journal)
    → open_where test (attempts (journal ++ entry ∷ [])) (ended (journal ++ entry ∷ []))
    ≡ open_where test (attempts journal) (ended journal) + cond (test begun.job) 1 0
open_begun test journal entry begun begins none next earlier =
    let one_more : attempts (journal ++ entry ∷ []) ≡ attempts journal ++ begun ∷ [] =
    read_on (λ (e : Entry). begun_by e.caller e.event) journal entry begun begins in
    let same_ended : ended (journal ++ entry ∷ []) ≡ ended journal =
    unread (λ (e : Entry). ended_by e.event) journal entry none in
    let opened : Attempt → Bool =
    λ attempt. test attempt.job
    && not (list_any (λ number. number == attempt.number) (ended journal)) in
    let fresh : list_any (λ number. number == begun.number) (ended journal) ≡ false =
    none_equal begun.number (ended journal) (λ k d lt. let le = earlier k d lt in omega arith) in
    ap (λ all. open_where test all (ended (journal ++ entry ∷ []))) one_more
    ∙ ap (λ all. open_where test (attempts journal ++ begun ∷ []) all) same_ended
    ∙ sum_by_push (λ (attempt : Attempt). cond (opened attempt) 1 0) (attempts journal) begun
    ∙ ap
    (λ b. open_where test (attempts journal) (ended journal) + cond (test begun.job && not b) 1 0)
    fresh
    ∙ ap (λ b. open_where test (attempts journal) (ended journal) + cond b 1 0)
    (and_true (test begun.job))
  where
    and_true : (b : Bool) → (b && true) ≡ b
    and_true true = refl
    and_true false = refl

-- an entry that neither begins nor ends one
pub open_same : (test : ℕ → Bool) (journal : List Entry) (entry : Entry)
    → begun_by entry.caller entry.event ≡ None → ended_by entry.event ≡ None
    → open_where test (attempts (journal ++ entry ∷ [])) (ended (journal ++ entry ∷ []))
    ≡ open_where test (attempts journal) (ended journal)
open_same test journal entry begins ends =
    ap (λ all. open_where test all (ended (journal ++ entry ∷ [])))
    (unread (λ (e : Entry). begun_by e.caller e.event) journal entry begins)
    ∙ ap (λ all. open_where test (attempts journal) all)
    (unread (λ (e : Entry). ended_by e.event) journal entry ends)

-- one attempt more, with the next number
pub numbered_push : (begun : List Attempt) (new : Attempt) (first : ℕ) → AreNumberedFrom first begun
    → new.number ≡ first + length begun → AreNumberedFrom first (begun ++ new ∷ [])
numbered_push [] new first numbered is = (is ∙ omega arith, tt)
numbered_push (attempt ∷ rest) new first numbered is =
    (numbered.0, numbered_push rest new (suc first) numbered.1 (is ∙ omega arith))
