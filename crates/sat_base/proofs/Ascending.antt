-- Strictly ascending lists of literals.
use Rattle.std.proofs.Common.{◌≡◌, ◌∙◌, ℕ, zero, suc, ◌+◌, ◌-◌, ◌%◌, ◌<◌, ◌≤◌, List, [], ◌∷◌, length, refl, ap, subst, sym, inl, inr, ⊎_elim, arith, get_or, eqb}
use Rattle.std.specs.Prelude.{IsTrue, All, Contains, ◌⊎◌, ◌↔◌, IsPermutation, IsSorted}
use Rattle.std.specs.Ordering.{eq_by_cmp, nat_cmp}
use Rattle.std.specs.List.{dedup}
use Rattle.std.specs.List.{AllByRecursion}
use Rattle.std.specs.List.Sorted.{IsStrictlySortedBy}
use Rattle.std.specs.declared.cmp.Ordering.TheVariants.{Less}
use Rattle.std.proofs.lemmas.Bool.{and_parts, and_from, ltb-true, lt-ltb, cases_lt, cases_eq}
use Rattle.std.proofs.lemmas.Cmp.{nat_cmp_total}
use Rattle.std.proofs.lemmas.List.{get_or_default}
use Rattle.std.proofs.lemmas.List.Elements.{All-contains, recursion_from_All}
use Rattle.std.proofs.lemmas.List.Kept.{Contains-dedup_nat, Contains-from_dedup, IsStrictlySortedBy-dedup}
use Rattle.std.proofs.lemmas.List.Sorted.{Contains-permutation, IsPermutation-sym}
use Rattle.std.proofs.lemmas.Bool.Decides.{nat_tests}
use Rattle.sat_base.specs.Lit.{ascends_above, is_ascending, IsLit, IsLitSet, IsTautology, opposite}
use Rattle.sat_base.proofs.Members.{All-from_members, Contains-here, Contains-there, Contains-cases}
use Rattle.sat_base.proofs.Opposite.{opposite-opposite}

cmp_less : (a b : ℕ) → nat_cmp a b ≡ Less → a < b
cmp_less a b h = grind (arith, nat_tests)

less_cmp : (a b : ℕ) → a < b → nat_cmp a b ≡ Less
less_cmp a b h = grind (arith, nat_tests)

pub ascends-from_sorted : (bound : ℕ) (xs : List ℕ) → AllByRecursion (λ y. nat_cmp bound y ≡ Less) xs → IsStrictlySortedBy nat_cmp xs → IsTrue (ascends_above bound xs)
unfolding IsStrictlySortedBy
ascends-from_sorted bound [] above sorted = refl
ascends-from_sorted bound (x ∷ xs) above sorted =
    and_from _ _ (lt-ltb bound x (cmp_less bound x above.0)) (ascends-from_sorted x xs sorted.0 sorted.1)

above_zero : (xs : List ℕ) → AllByRecursion IsLit xs → AllByRecursion (λ y. nat_cmp 0 y ≡ Less) xs
above_zero [] h = tt
above_zero (x ∷ xs) h = (less_cmp 0 x (omega (arith, h.0.not_zero)), above_zero xs h.1)

ties : (x y : ℕ) → eqb x y ≡ eq_by_cmp nat_cmp x y
ties x y = grind (arith, nat_tests)

-- what sorting and dropping repeats leaves is a set of the same literals
pub sorted_set : (lits sorted set : List ℕ) → All IsLit lits → IsPermutation lits sorted → IsSorted nat_cmp sorted → set ≡ dedup eqb sorted → IsLitSet set
sorted_set lits sorted set all moved in_order is =
    let each : All IsLit set = All-from_members IsLit set (λ lit has.
    All-contains IsLit lits lit all (Contains-permutation sorted lits lit (IsPermutation-sym lits sorted moved)
    (Contains-from_dedup eqb sorted lit (subst (λ (xs : List ℕ). Contains xs lit) is has)))) in
    record {
      each = each;
      ascending = ascends-from_sorted 0 set (above_zero set (recursion_from_All IsLit set each))
          (subst (λ (xs : List ℕ). IsStrictlySortedBy nat_cmp xs) (sym is) (IsStrictlySortedBy-dedup nat_cmp_total ties sorted in_order));
    }

pub same_members : (lits sorted set : List ℕ) → IsPermutation lits sorted → set ≡ dedup eqb sorted → (lit : ℕ) → Contains set lit ↔ Contains lits lit
same_members lits sorted set moved is lit = (
  λ has. Contains-permutation sorted lits lit (IsPermutation-sym lits sorted moved) (Contains-from_dedup eqb sorted lit (subst (λ (xs : List ℕ). Contains xs lit) is has)),
  λ has. subst (λ (xs : List ℕ). Contains xs lit) (sym is) (Contains-dedup_nat sorted lit (Contains-permutation lits sorted lit moved has)),
)

-- the literal at place j is more than j above the bound
above : (bound : ℕ) (lits : List ℕ) (j : ℕ) → IsTrue (ascends_above bound lits) → j < length lits → bound + j < get_or lits j 0
above bound [] j up lt = absurd (omega arith)
above bound (lit ∷ lits) zero up lt = let h = ltb-true bound lit (and_parts _ _ up).0 in omega arith
above bound (lit ∷ lits) (suc j) up lt =
    let h = ltb-true bound lit (and_parts _ _ up).0 in
    let k = above lit lits j (and_parts _ _ up).1 (omega arith) in
    omega arith

-- literals that stand apart differ by at least as much
pub apart : (bound : ℕ) (lits : List ℕ) (i j : ℕ) → IsTrue (ascends_above bound lits) → i ≤ j → j < length lits → get_or lits i 0 + j ≤ get_or lits j 0 + i
apart bound [] i j up le lt = absurd (omega arith)
apart bound (lit ∷ lits) zero zero up le lt = omega arith
apart bound (lit ∷ lits) zero (suc j) up le lt = let h = above lit lits j (and_parts _ _ up).1 (omega arith) in omega arith
apart bound (lit ∷ lits) (suc i) zero up le lt = absurd (omega arith)
apart bound (lit ∷ lits) (suc i) (suc j) up le lt =
    let h = apart lit lits i j (and_parts _ _ up).1 (omega arith) (omega arith) in omega arith

-- opposite literals of an ascending list stand side by side
neighbors : (lits : List ℕ) (i j : ℕ) → IsTrue (is_ascending lits) → i < length lits → j < length lits → get_or lits j 0 ≡ get_or lits i 0 + 1 → j ≡ i + 1
neighbors lits i j up i_in j_in next = beside (cases_lt i j)
  where
    beside : (i < j) ⊎ (j ≤ i) → j ≡ i + 1
    beside (inl lt) = let h = apart 0 lits i j up (omega arith) j_in in omega arith
    beside (inr le) = let h = apart 0 lits j i up le i_in in absurd (omega arith)

at_places : (lits : List ℕ) (lit i j : ℕ) → IsTrue (is_ascending lits) → ((k : ℕ) → 1 ≤ k → k < length lits → get_or lits k 0 ≡ opposite (get_or lits (k - 1) 0) → ⊥) → i < length lits → j < length lits → get_or lits i 0 ≡ lit → get_or lits j 0 ≡ opposite lit → ⊥
at_places lits lit i j up none i_in j_in i_is j_is = by_sign (cases_eq (lit % 2) 0)
  where
    by_sign : (lit % 2 ≡ 0) ⊎ (lit % 2 ≡ 0 → ⊥) → ⊥
    by_sign (inl even) =
        let at : j ≡ i + 1 = neighbors lits i j up i_in j_in (omega arith) in
        none j (omega arith) j_in (j_is ∙ ap opposite (sym i_is) ∙ ap (λ k. opposite (get_or lits k 0)) (omega arith))
    by_sign (inr odd) =
        let at : i ≡ j + 1 = neighbors lits j i up j_in i_in (omega arith) in
        none i (omega arith) i_in (i_is ∙ sym (opposite-opposite lit) ∙ ap opposite (sym j_is) ∙ ap (λ k. opposite (get_or lits k 0)) (omega arith))

-- where no literal is the opposite of the one before it, no two are opposite
pub no_tautology : (lits : List ℕ) → IsTrue (is_ascending lits) → ((k : ℕ) → 1 ≤ k → k < length lits → get_or lits k 0 ≡ opposite (get_or lits (k - 1) 0) → ⊥) → IsTautology lits → ⊥
no_tautology lits up none both =
    at_places lits both.lit both.has.0 both.has_opposite.0 up none both.has.1 both.has_opposite.1
    (get_or_default lits both.has.0 0 both.lit both.has.1 ∙ both.has.2)
    (get_or_default lits both.has_opposite.0 0 (opposite both.lit) both.has_opposite.1 ∙ both.has_opposite.2)

-- each literal is above the bound
pub member_above : (bound : ℕ) (lits : List ℕ) (lit : ℕ) → IsTrue (ascends_above bound lits) → Contains lits lit → bound < lit
member_above bound [] lit up has = absurd (omega (arith, has.1))
member_above bound (first ∷ lits) lit up has =
    let first_above : bound < first = ltb-true bound first (and_parts _ _ up).0 in
    ⊎_elim (λ same. omega arith)
    (λ later. let h : first < lit = member_above first lits lit (and_parts _ _ up).1 later in omega arith)
    (Contains-cases first lit lits has)

same_heads : (a b first other : ℕ) (lits others : List ℕ) → IsTrue (ascends_above a (first ∷ lits)) → IsTrue (ascends_above b (other ∷ others)) → (other ≡ first) ⊎ Contains others first → (first ≡ other) ⊎ Contains lits other → first ≡ other
same_heads a b first other lits others up up' (inl same) back = sym same
same_heads a b first other lits others up up' (inr later) (inl same) = same
same_heads a b first other lits others up up' (inr later) (inr later') =
    let h : other < first = member_above other others first (and_parts _ _ up').1 later in
    let k : first < other = member_above first lits other (and_parts _ _ up).1 later' in
    absurd (omega arith)

rest_within : (a first other : ℕ) (lits others : List ℕ) → IsTrue (ascends_above a (first ∷ lits)) → first ≡ other → ((lit : ℕ) → Contains (first ∷ lits) lit → Contains (other ∷ others) lit) → (lit : ℕ) → Contains lits lit → Contains others lit
rest_within a first other lits others up same within lit has =
    let above_first : first < lit = member_above first lits lit (and_parts _ _ up).1 has in
    ⊎_elim (λ is. absurd (omega arith)) (λ later. later)
    (Contains-cases other lit others (within lit (Contains-there first lit lits has)))

-- sets with the same members are one
pub same_set : (a b : ℕ) (lits others : List ℕ) → IsTrue (ascends_above a lits) → IsTrue (ascends_above b others) → ((lit : ℕ) → Contains lits lit → Contains others lit) → ((lit : ℕ) → Contains others lit → Contains lits lit) → lits ≡ others
same_set a b [] [] up up' within back = refl
same_set a b [] (other ∷ others) up up' within back = absurd (omega (arith, (back other (Contains-here other others)).1))
same_set a b (first ∷ lits) [] up up' within back = absurd (omega (arith, (within first (Contains-here first lits)).1))
same_set a b (first ∷ lits) (other ∷ others) up up' within back =
    let same : first ≡ other = same_heads a b first other lits others up up'
    (Contains-cases other first others (within first (Contains-here first lits)))
    (Contains-cases first other lits (back other (Contains-here other others))) in
    ap (λ lit. lit ∷ lits) same ∙ ap (λ rest. other ∷ rest)
    (same_set first other lits others (and_parts _ _ up).1 (and_parts _ _ up').1
    (rest_within a first other lits others up same within)
    (rest_within b other first others lits up' (sym same) back))
