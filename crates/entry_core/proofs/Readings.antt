-- Readings of a journal after one more entry.
use Rattle.std.proofs.Common.{◌≡◌, ◌∙◌, ℕ, zero, suc, ◌+◌, ◌-◌, ◌≤◌, cond, Option, Some, None}
use Rattle.std.proofs.Common.{List, [], ◌∷◌, ◌++◌, length, refl, ap, subst, sym, arith}
use Rattle.std.specs.Prelude.{filter_map, count_by, All}
use Rattle.std.specs.List.{cons_option}
use Rattle.std.proofs.lemmas.Option.{slice_get_within}
use Rattle.std.proofs.lemmas.List.{append-nil}
use Rattle.std.proofs.lemmas.List.Elements.{filter_map-append, All-append}
use Rattle.std.proofs.lemmas.List.Sums.{sum_by_push}
use Rattle.trace_core.specs.Known.{item_at}
use Rattle.entry_core.specs.declared.entries.Entry.{Entry}
use Rattle.entry_core.specs.Attempts.{Attempt, begun_by, attempts, attempt, is_at, is_attempt_at}
use Rattle.entry_core.specs.Attempts.{spent_by, spent_attempts}
use Rattle.entry_core.proofs.Inputs.{item_found}

-- an entry that a reading doesn't see
pub unread : {X : Type 0} (read : Entry → Option X) (journal : List Entry) (entry : Entry)
    → read entry ≡ None → filter_map read (journal ++ entry ∷ []) ≡ filter_map read journal
unread read journal entry none =
    filter_map-append read journal (entry ∷ [])
    ∙ ap (λ o. filter_map read journal ++ cons_option o []) none
    ∙ append-nil (filter_map read journal)

-- an entry that a reading sees
pub read_on : {X : Type 0} (read : Entry → Option X) (journal : List Entry) (entry : Entry) (x : X)
    → read entry ≡ Some x
    → filter_map read (journal ++ entry ∷ []) ≡ filter_map read journal ++ x ∷ []
read_on read journal entry x some =
    filter_map-append read journal (entry ∷ [])
    ∙ ap (λ o. filter_map read journal ++ cons_option o []) some

-- what was said of attempts so far speaks of attempts that were begun
pub bounded : {X : Type 0} (read : Entry → Option X) (number : X → ℕ) (journal : List Entry)
    (entry : Entry) (most more : ℕ) → most ≤ more
    → All (λ x. number x ≤ most) (filter_map read journal)
    → ((x : X) → read entry ≡ Some x → number x ≤ more)
    → All (λ x. number x ≤ more) (filter_map read (journal ++ entry ∷ []))
bounded {X} read number journal entry most more le all new =
    subst (All (λ x. number x ≤ more)) (sym (filter_map-append read journal (entry ∷ [])))
    (All-append (λ x. number x ≤ more) (filter_map read journal) (cons_option (read entry) [])
    (λ k d lt. let below = all k d lt in omega arith) (one (read entry) refl))
  where
    one : (o : Option X) → read entry ≡ o → All (λ x. number x ≤ more) (cons_option o [])
    one None is k d lt = absurd (omega arith)
    one (Some x) is zero d lt = new x is
    one (Some x) is (suc k) d lt = absurd (omega arith)

-- spent attempts
pub spent_same : (journal : List Entry) (entry : Entry) (job : ℕ)
    → begun_by entry.caller entry.event ≡ None → spent_by entry.event ≡ None
    → spent_attempts (journal ++ entry ∷ []) job ≡ spent_attempts journal job
spent_same journal entry job begins spends =
    ap (λ all. count_by (λ n. is_at job (item_at all n))
    (filter_map (λ (e : Entry). spent_by e.event) (journal ++ entry ∷ [])))
    (unread (λ (e : Entry). begun_by e.caller e.event) journal entry begins)
    ∙ ap (count_by (is_attempt_at journal job))
    (unread (λ (e : Entry). spent_by e.event) journal entry spends)

pub spent_more : (journal : List Entry) (entry : Entry) (job number : ℕ)
    → begun_by entry.caller entry.event ≡ None → spent_by entry.event ≡ Some number
    → spent_attempts (journal ++ entry ∷ []) job
    ≡ spent_attempts journal job + cond (is_attempt_at journal job number) 1 0
spent_more journal entry job number begins spends =
    ap (λ all. count_by (λ n. is_at job (item_at all n))
    (filter_map (λ (e : Entry). spent_by e.event) (journal ++ entry ∷ [])))
    (unread (λ (e : Entry). begun_by e.caller e.event) journal entry begins)
    ∙ ap (count_by (is_attempt_at journal job))
    (read_on (λ (e : Entry). spent_by e.event) journal entry number spends)
    ∙ sum_by_push (λ n. cond (is_attempt_at journal job n) 1 0)
    (filter_map (λ (e : Entry). spent_by e.event) journal) number

-- an attempt that was begun has a number among theirs
pub within : (journal : List Entry) (number : ℕ) (begun : Attempt)
    → attempt journal number ≡ Some begun → number ≤ length (attempts journal)
within journal number begun is =
    let at = item_found (attempts journal) number begun is in
    let lt = slice_get_within (attempts journal) (number - 1) begun at.1 in
    let e = at.0 in omega arith
