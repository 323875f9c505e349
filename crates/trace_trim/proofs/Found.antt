-- A binary search among names in their order finds each of them.
use Rattle.std.proofs.Common.{◌≡◌, ℕ, zero, suc, ◌+◌, ◌<◌, ◌≤◌, List, length, get_or, refl, subst}
use Rattle.std.proofs.Common.{sym, ap, inl, inr, arith}
use Rattle.std.specs.Prelude.{Contains, ◌⊎◌, Some, AllPairs, Err}
use Rattle.std.specs.Ordering.{ordering_index}
use Rattle.std.specs.declared.cmp.Ordering.{Ordering}
use Rattle.std.specs.declared.cmp.Ordering.TheVariants.{Less, Equal, Greater}
use Rattle.std.specs.List.Sorted.{IsBinarySearchResult, IsNonDecreasingBy}
use Rattle.std.proofs.lemmas.Bool.{cases_eq}
use Rattle.sat_base.specs.contracts.origins.RefOrd.TheImpl as ref_ord
use Rattle.sat_base.specs.declared.origins.Ref.{Ref}
use Rattle.trace_core.specs.Known.{item_at}
use Rattle.trace_core.proofs.Items.{item_at-next}
use Rattle.trace_trim.specs.Names.{IsBefore}
use Rattle.trace_trim.proofs.Order.{before_trans, before-from_less, less-from_before, same-from_equal, not_before_itself, equal_itself}

pub either_side : (k i : ℕ) → (k < i) ⊎ (i ≤ k)
either_side k zero = inr (omega arith)
either_side zero (suc i) = inl (omega arith)
either_side (suc k) (suc i) = deeper (either_side k i)
  where
    deeper : (k < i) ⊎ (i ≤ k) → (suc k < suc i) ⊎ (suc i ≤ suc k)
    deeper (inl h) = inl (omega arith)
    deeper (inr h) = inr (omega arith)

-- seen from one name, the answers of the order rise along the names
index_rises : (a b x : Ref) → IsBefore a b → ordering_index ((ref_ord.cmp-value).it a x) ≤ ordering_index ((ref_ord.cmp-value).it b x)
index_rises a b x before = by_order ((ref_ord.cmp-value).it b x) refl
  where
    at_most : (o : Ordering) → ordering_index o ≤ 2
    at_most Less = omega arith
    at_most Equal = omega arith
    at_most Greater = omega arith

    by_order : (o : Ordering) → (ref_ord.cmp-value).it b x ≡ o → ordering_index ((ref_ord.cmp-value).it a x) ≤ ordering_index o
    by_order Less is =
        let e : (ref_ord.cmp-value).it a x ≡ Less = less-from_before a x (before_trans a b x before (before-from_less b x is)) in
        subst (λ o. ordering_index o ≤ 0) (sym e) (omega arith)
    by_order Equal is =
        let e : (ref_ord.cmp-value).it a x ≡ Less = less-from_before a x (subst (IsBefore a) (same-from_equal b x is) before) in
        subst (λ o. ordering_index o ≤ 1) (sym e) (omega arith)
    by_order Greater is = at_most ((ref_ord.cmp-value).it a x)

rises : (names : List Ref) (x : Ref) → AllPairs IsBefore names → IsNonDecreasingBy (λ y. ordering_index ((ref_ord.cmp-value).it y x)) names
rises names x ascending i j d le within = by_case (cases_eq i j)
  where
    by_case : (i ≡ j) ⊎ (i ≡ j → ⊥) → ordering_index ((ref_ord.cmp-value).it (get_or names i d) x) ≤ ordering_index ((ref_ord.cmp-value).it (get_or names j d) x)
    by_case (inl same) = let e = ap (λ k. ordering_index ((ref_ord.cmp-value).it (get_or names k d) x)) same in omega (arith, e)
    by_case (inr differs) = index_rises (get_or names i d) (get_or names j d) x (ascending i j d (let h : ¬ (i ≡ j) = differs in omega (arith, h)) within)

pub not_missed : (names : List Ref) (x : Ref) (i : ℕ) → AllPairs IsBefore names → Contains names x → IsBinarySearchResult (λ y. (ref_ord.cmp-value).it y x) names (Err i) → ⊥
not_missed names x i ascending (k, lt, is) result = by_place (either_side k i)
  where
    parted : ((n : ℕ) (d : Ref) → 0 ≤ n → n < i → (ref_ord.cmp-value).it (get_or names n d) x ≡ Less) × ((n : ℕ) (d : Ref) → i ≤ n → n < length names → (ref_ord.cmp-value).it (get_or names n d) x ≡ Greater)
    parted = result (rises names x ascending)

    by_place : (k < i) ⊎ (i ≤ k) → ⊥
    by_place (inl low) = not_before_itself x (before-from_less x x (subst (λ y. (ref_ord.cmp-value).it y x ≡ Less) is (parted.0 k x (omega arith) low)))
    by_place (inr high) = let e : (ref_ord.cmp-value).it x x ≡ Greater = subst (λ y. (ref_ord.cmp-value).it y x ≡ Greater) is (parted.1 k x high lt) in let same : (ref_ord.cmp-value).it x x ≡ Equal = equal_itself x in cc

pub found_at : (names : List Ref) (x : Ref) (i : ℕ) → i < length names → ((d : Ref) → (ref_ord.cmp-value).it (get_or names i d) x ≡ Equal) → item_at names (i + 1) ≡ Some x
found_at names x i lt equal = item_at-next names i x lt (same-from_equal (get_or names i x) x (equal x))
