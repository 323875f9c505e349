-- Which keys a set has after an insertion, and after the hints that lead to keys.
use Rattle.std.proofs.Common.{◌≡◌, ◌∙◌, ℕ, ◌+◌, ◌<◌, List, [], ◌∷◌, ◌++◌, take, length, get_or, refl, subst, sym, ap, inl, inr}
use Rattle.std.specs.Prelude.{Contains, ◌⊎◌, ◌↔◌, Option, Some, None}
use Rattle.std.proofs.lemmas.List.{take_more}
use Rattle.std.proofs.lemmas.List.Elements.{Contains-append_left, Contains-push, Contains-push_cases}
use Rattle.sat_base.specs.declared.origins.Ref.{Ref}
use Rattle.trace_trim.specs.Reached.{LeadTo}
use Rattle.std.specs.declared.cmp.Ordering.{Ordering}
use Rattle.std.specs.declared.cmp.Ordering.TheVariants.{Less, Equal, Greater}
use Rattle.std.specs.Ordering.{match_ordering}
use Rattle.std.specs.BTreeSet.{insert_key}
use Rattle.sat_base.proofs.Members.{Contains-here, Contains-there, Contains-cases}

pub Contains-from_insert : {K : Type 0} (cmp : K → K → Ordering) (keys : List K) (k q : K) → Contains (insert_key cmp keys k) q → Contains keys q ⊎ (k ≡ q)
Contains-from_insert cmp [] k q has = swap (Contains-cases k q [] has)
  where
    swap : (k ≡ q) ⊎ Contains [] q → Contains [] q ⊎ (k ≡ q)
    swap (inl same) = inr same
    swap (inr none) = inl none
Contains-from_insert cmp (x ∷ keys) k q has = by_order (λ h. Contains-from_insert cmp keys k q h) (cmp k x) has
  where
    first : (k ≡ q) ⊎ Contains (x ∷ keys) q → Contains (x ∷ keys) q ⊎ (k ≡ q)
    first (inl same) = inr same
    first (inr old) = inl old

    deeper : Contains keys q ⊎ (k ≡ q) → Contains (x ∷ keys) q ⊎ (k ≡ q)
    deeper (inl old) = inl (Contains-there x q keys old)
    deeper (inr same) = inr same

    later : (Contains (insert_key cmp keys k) q → Contains keys q ⊎ (k ≡ q)) → (x ≡ q) ⊎ Contains (insert_key cmp keys k) q → Contains (x ∷ keys) q ⊎ (k ≡ q)
    later recur (inl same) = inl (subst (Contains (x ∷ keys)) same (Contains-here x keys))
    later recur (inr h) = deeper (recur h)

    by_order : (Contains (insert_key cmp keys k) q → Contains keys q ⊎ (k ≡ q)) → (o : Ordering) → Contains (match_ordering o (k ∷ x ∷ keys) (x ∷ keys) (x ∷ insert_key cmp keys k)) q → Contains (x ∷ keys) q ⊎ (k ≡ q)
    by_order recur Less h = first (Contains-cases k q (x ∷ keys) h)
    by_order recur Equal h = inl h
    by_order recur Greater h = later recur (Contains-cases x q (insert_key cmp keys k) h)

-- where equal keys are one
pub Contains-inserted : {K : Type 0} (cmp : K → K → Ordering) → ((a b : K) → cmp a b ≡ Equal → a ≡ b) → (keys : List K) (k : K) → Contains (insert_key cmp keys k) k
Contains-inserted cmp same [] k = Contains-here k []
Contains-inserted cmp same (x ∷ keys) k = by_order (cmp k x) refl (Contains-inserted cmp same keys k)
  where
    by_order : (o : Ordering) → cmp k x ≡ o → Contains (insert_key cmp keys k) k → Contains (match_ordering o (k ∷ x ∷ keys) (x ∷ keys) (x ∷ insert_key cmp keys k)) k
    by_order Less is recur = Contains-here k (x ∷ keys)
    by_order Equal is recur = subst (λ z. Contains (z ∷ keys) k) (same k x is) (Contains-here k keys)
    by_order Greater is recur = Contains-there x k (insert_key cmp keys k) recur

pub Contains-kept : {K : Type 0} (cmp : K → K → Ordering) (keys : List K) (k q : K) → Contains keys q → Contains (insert_key cmp keys k) q
Contains-kept cmp [] k q has = Contains-there k q [] has
Contains-kept cmp (x ∷ keys) k q has = by_order (λ h. Contains-kept cmp keys k q h) (cmp k x)
  where
    later : (Contains keys q → Contains (insert_key cmp keys k) q) → (x ≡ q) ⊎ Contains keys q → Contains (x ∷ insert_key cmp keys k) q
    later recur (inl same) = subst (Contains (x ∷ insert_key cmp keys k)) same (Contains-here x (insert_key cmp keys k))
    later recur (inr h) = Contains-there x q (insert_key cmp keys k) (recur h)

    by_order : (Contains keys q → Contains (insert_key cmp keys k) q) → (o : Ordering) → Contains (match_ordering o (k ∷ x ∷ keys) (x ∷ keys) (x ∷ insert_key cmp keys k)) q
    by_order recur Less = Contains-there k q (x ∷ keys) has
    by_order recur Equal = has
    by_order recur Greater = later recur (Contains-cases x q keys has)

one_more : (hints : List Ref) (i : ℕ) (d hint : Ref) → i < length hints → hint ≡ get_or hints i d → take (i + 1) hints ≡ take i hints ++ hint ∷ []
one_more hints i d hint lt is = take_more hints i d lt ∙ ap (λ h. take i hints ++ h ∷ []) (sym is)

-- One more hint leads to what the hints before it lead to, and to what it leads to itself.
pub cites_more : {K : Type 0} (next : Ref → Option K) (hints : List Ref) (i : ℕ) (d hint : Ref) (q : K) → i < length hints → hint ≡ get_or hints i d → LeadTo next (take (i + 1) hints) q → LeadTo next (take i hints) q ⊎ (next hint ≡ Some q)
cites_more next hints i d hint q lt is (h, has, names) = either (Contains-push_cases (take i hints) hint h (subst (λ xs. Contains xs h) (one_more hints i d hint lt is) has))
  where
    either : Contains (take i hints) h ⊎ (hint ≡ h) → LeadTo next (take i hints) q ⊎ (next hint ≡ Some q)
    either (inl before) = inl (h, before, names)
    either (inr same) = inr (ap next same ∙ names)

pub cites_before : {K : Type 0} (next : Ref → Option K) (hints : List Ref) (i : ℕ) (d hint : Ref) (q : K) → i < length hints → hint ≡ get_or hints i d → LeadTo next (take i hints) q ⊎ (next hint ≡ Some q) → LeadTo next (take (i + 1) hints) q
cites_before next hints i d hint q lt is (inl (h, has, names)) = (h, subst (λ xs. Contains xs h) (sym (one_more hints i d hint lt is)) (Contains-append_left (take i hints) (hint ∷ []) h has), names)
cites_before next hints i d hint q lt is (inr names) = (hint, subst (λ xs. Contains xs hint) (sym (one_more hints i d hint lt is)) (Contains-push (take i hints) hint), names)

-- the keys after a hint that leads to one
pub keys_more : {K : Type 0} (cmp : K → K → Ordering) → ((a b : K) → cmp a b ≡ Equal → a ≡ b) → (next : Ref → Option K) (old keys more : List K) (hints : List Ref) (i : ℕ) (d hint : Ref) (name : K)
    → i < length hints → hint ≡ get_or hints i d → next hint ≡ Some name → more ≡ insert_key cmp keys name
    → ((q : K) → Contains keys q ↔ (Contains old q ⊎ LeadTo next (take i hints) q))
    → (q : K) → Contains more q ↔ (Contains old q ⊎ LeadTo next (take (i + 1) hints) q)
keys_more {K} cmp same next old keys more hints i d hint name lt is names now before q = (forth, back)
  where
    old_or : Contains old q ⊎ LeadTo next (take i hints) q → Contains old q ⊎ LeadTo next (take (i + 1) hints) q
    old_or (inl has) = inl has
    old_or (inr cites) = inr (cites_before next hints i d hint q lt is (inl cites))

    key_or : Contains keys q ⊎ (name ≡ q) → Contains old q ⊎ LeadTo next (take (i + 1) hints) q
    key_or (inl has) = old_or ((before q).0 has)
    key_or (inr one) = inr (cites_before next hints i d hint q lt is (inr (names ∙ ap Some one)))

    forth : Contains more q → Contains old q ⊎ LeadTo next (take (i + 1) hints) q
    forth has = key_or (Contains-from_insert cmp keys name q (subst (λ ks. Contains ks q) now has))

    kept : Contains keys q → Contains more q
    kept has = subst (λ ks. Contains ks q) (sym now) (Contains-kept cmp keys name q has)

    cited_now : LeadTo next (take i hints) q ⊎ (next hint ≡ Some q) → Contains more q
    cited_now (inl cites) = kept ((before q).1 (inr cites))
    cited_now (inr here) =
        let one : name ≡ q = cc in
        subst (λ ks. Contains ks q) (sym now) (subst (Contains (insert_key cmp keys name)) one (Contains-inserted cmp same keys name))

    back : Contains old q ⊎ LeadTo next (take (i + 1) hints) q → Contains more q
    back (inl has) = kept ((before q).1 (inl has))
    back (inr cites) = cited_now (cites_more next hints i d hint q lt is cites)

-- the keys after a hint that leads to none
pub keys_same : {K : Type 0} (next : Ref → Option K) (old keys more : List K) (hints : List Ref) (i : ℕ) (d hint : Ref)
    → i < length hints → hint ≡ get_or hints i d → next hint ≡ None → more ≡ keys
    → ((q : K) → Contains keys q ↔ (Contains old q ⊎ LeadTo next (take i hints) q))
    → (q : K) → Contains more q ↔ (Contains old q ⊎ LeadTo next (take (i + 1) hints) q)
keys_same {K} next old keys more hints i d hint lt is none now before q = (forth, back)
  where
    old_or : Contains old q ⊎ LeadTo next (take i hints) q → Contains old q ⊎ LeadTo next (take (i + 1) hints) q
    old_or (inl has) = inl has
    old_or (inr cites) = inr (cites_before next hints i d hint q lt is (inl cites))

    forth : Contains more q → Contains old q ⊎ LeadTo next (take (i + 1) hints) q
    forth has = old_or ((before q).0 (subst (λ ks. Contains ks q) now has))

    cited_now : LeadTo next (take i hints) q ⊎ (next hint ≡ Some q) → Contains more q
    cited_now (inl cites) = subst (λ ks. Contains ks q) (sym now) ((before q).1 (inr cites))
    cited_now (inr here) = let no : None ≡ Some q = sym none ∙ here in cc

    back : Contains old q ⊎ LeadTo next (take (i + 1) hints) q → Contains more q
    back (inl has) = subst (λ ks. Contains ks q) (sym now) ((before q).1 (inl has))
    back (inr cites) = cited_now (cites_more next hints i d hint q lt is cites)
