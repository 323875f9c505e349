-- Numbers that ascend: their order by `Ord`, and a binary search among them.
use Rattle.std.proofs.Common.{◌≡◌, ◌∙◌, ℕ, ◌+◌, ◌<◌, ◌≤◌, List, length, get_or, ap, inl, inr, arith}
use Rattle.std.specs.Prelude.{Contains, ◌⊎◌, Some, Err, AllPairs}
use Rattle.std.specs.Ordering.{nat_cmp}
use Rattle.std.specs.declared.cmp.Ordering.TheVariants.{Less, Equal}
use Rattle.std.specs.List.Sorted.{IsBinarySearchResult}
use Rattle.std.proofs.lemmas.Bool.{cases_eq}
use Rattle.std.proofs.lemmas.Bool.Decides.{nat_tests}
use Rattle.std.proofs.lemmas.List.{get_or_default}
use Rattle.std.proofs.lemmas.List.Sorted.{searched}
use Rattle.trace_core.specs.Known.{item_at}
use Rattle.trace_core.proofs.Items.{item_at-next}
use Rattle.trace_trim.proofs.Found.{either_side}

pub less_than-from_less : (m n : ℕ) → nat_cmp m n ≡ Less → m < n
less_than-from_less m n is = grind (arith, nat_tests)

pub number-from_equal : (m n : ℕ) → nat_cmp m n ≡ Equal → m ≡ n
number-from_equal m n is = grind (arith, nat_tests)

rises : (numbers : List ℕ) → AllPairs (λ m n. m < n) numbers → (i j : ℕ) → i ≤ j → j < length numbers → get_or numbers i 0 ≤ get_or numbers j 0
rises numbers ascending i j le within = by_case (cases_eq i j)
  where
    by_case : (i ≡ j) ⊎ (i ≡ j → ⊥) → get_or numbers i 0 ≤ get_or numbers j 0
    by_case (inl same) = let e = ap (λ k. get_or numbers k 0) same in omega (arith, e)
    by_case (inr differs) = let h : ¬ (i ≡ j) = differs in let lt : i < j = omega (arith, h) in let up = ascending i j 0 lt within in omega arith

-- a binary search among numbers that ascend finds each of them
pub number_not_missed : (numbers : List ℕ) (x i : ℕ) → AllPairs (λ m n. m < n) numbers → Contains numbers x → IsBinarySearchResult (λ y. nat_cmp y x) numbers (Err i) → ⊥
number_not_missed numbers x i ascending (k, lt, is) result = by_place (either_side k i)
  where
    parted : (i ≤ length numbers) × ((n : ℕ) → n < i → get_or numbers n 0 < x) × ((n : ℕ) → i ≤ n → n < length numbers → x < get_or numbers n 0)
    parted = searched numbers x (Err i) result (rises numbers ascending)

    here : get_or numbers k 0 ≡ x
    here = get_or_default numbers k 0 x lt ∙ is

    by_place : (k < i) ⊎ (i ≤ k) → ⊥
    by_place (inl low) = let h = parted.1 k low in omega (arith, here)
    by_place (inr high) = let h = parted.2 k high lt in omega (arith, here)

pub number_found_at : (numbers : List ℕ) (x i : ℕ) → i < length numbers → ((d : ℕ) → nat_cmp (get_or numbers i d) x ≡ Equal) → item_at numbers (i + 1) ≡ Some x
number_found_at numbers x i lt equal = item_at-next numbers i x lt (number-from_equal (get_or numbers i x) x (equal x))
