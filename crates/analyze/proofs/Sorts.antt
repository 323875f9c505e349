-- Sorting a list of numbers and dropping repeats.
use Rattle.std.proofs.Common.{◌≡◌, ℕ, List, arith, subst, sym, eqb}
use Rattle.std.specs.Prelude.{Contains, ◌↔◌, IsPermutation, IsSorted}
use Rattle.std.specs.List.{dedup}
use Rattle.std.specs.List.Sorted.{IsStrictlySortedBy}
use Rattle.std.specs.Ordering.{eq_by_cmp, nat_cmp}
use Rattle.std.proofs.lemmas.Cmp.{nat_cmp_total}
use Rattle.std.proofs.lemmas.Bool.Decides.{nat_tests}
use Rattle.std.proofs.lemmas.List.Kept.{Contains-dedup_nat, Contains-from_dedup, IsStrictlySortedBy-dedup}
use Rattle.std.proofs.lemmas.List.Sorted.{Contains-permutation, IsPermutation-sym}

ties : (x y : ℕ) → eqb x y ≡ eq_by_cmp nat_cmp x y
ties x y = grind (arith, nat_tests)

pub ascending_set : (sorted set : List ℕ) → IsSorted nat_cmp sorted → set ≡ dedup eqb sorted → IsStrictlySortedBy nat_cmp set
ascending_set sorted set in_order is = subst (λ (xs : List ℕ). IsStrictlySortedBy nat_cmp xs) (sym is) (IsStrictlySortedBy-dedup nat_cmp_total ties sorted in_order)

pub same_members : (items sorted set : List ℕ) → IsPermutation items sorted → set ≡ dedup eqb sorted → (x : ℕ) → Contains set x ↔ Contains items x
same_members items sorted set moved is x = (
  λ has. Contains-permutation sorted items x (IsPermutation-sym items sorted moved) (Contains-from_dedup eqb sorted x (subst (λ (xs : List ℕ). Contains xs x) is has)),
  λ has. subst (λ (xs : List ℕ). Contains xs x) (sym is) (Contains-dedup_nat sorted x (Contains-permutation items sorted x moved has)),
)
