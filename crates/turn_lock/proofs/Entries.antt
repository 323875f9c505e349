-- Lists of entries: what begins them, and whose they are.
use Rattle.std.proofs.Common.{◌≡◌, ◌≢◌, ℕ, ◌==◌, List, [], ◌∷◌, ◌++◌, All, sym, refl, ap, ◌∙◌, append_assoc, append-nil, eq-eqb, ne_eqb}
use Rattle.std.proofs.lemmas.List.Elements.{All-head, All-tail, filter-append}
use Rattle.turn_lock.specs.Entries.{StartsWith, entries_of}

module _ {E : Type 0} where
  pub starts_self : (log : List E) → StartsWith log log
  starts_self log = ([], sym (append-nil log))

  pub starts_nil : (log : List E) → StartsWith log []
  starts_nil log = (log, refl)

  pub starts_on : (log seen added : List E) → StartsWith log seen → StartsWith (log ++ added) seen
  starts_on log seen added h = (h.0 ++ added, ap (λ l. l ++ added) h.1 ∙ append_assoc seen h.0 added)

module _ {E : Type 0} (caller : E → ℕ) where
  pub of_own : (n : ℕ) (log : List E) → All (λ e. caller e ≡ n) log → entries_of caller n log ≡ log
  of_own n [] all = refl
  of_own n (x ∷ xs) all = rw (eq-eqb (caller x) n (All-head (λ e. caller e ≡ n) x xs all)) (ap (λ l. x ∷ l) (of_own n xs (All-tail (λ e. caller e ≡ n) x xs all)))

  pub of_others : (n : ℕ) (log : List E) → All (λ e. caller e ≢ n) log → entries_of caller n log ≡ []
  of_others n [] all = refl
  of_others n (x ∷ xs) all = rw (ne_eqb (caller x) n (All-head (λ e. caller e ≢ n) x xs all)) (of_others n xs (All-tail (λ e. caller e ≢ n) x xs all))

  -- entries that are not its own leave a caller's list as it was
  pub of_same : (n : ℕ) (log added : List E) → All (λ e. caller e ≢ n) added → entries_of caller n (log ++ added) ≡ entries_of caller n log
  of_same n log added others = filter-append (λ e. caller e == n) log added ∙ (ap (λ l. entries_of caller n log ++ l) (of_others n added others) ∙ append-nil (entries_of caller n log))

  -- its own ones stand at the end of it
  pub of_more : (n : ℕ) (log added : List E) → All (λ e. caller e ≡ n) added → entries_of caller n (log ++ added) ≡ entries_of caller n log ++ added
  of_more n log added own = filter-append (λ e. caller e == n) log added ∙ ap (λ l. entries_of caller n log ++ l) (of_own n added own)
