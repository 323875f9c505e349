-- How much a list has that a function gives.
use Rattle.std.proofs.Common.{◌≡◌, ◌∙◌, ℕ, zero, suc, ◌+◌, ◌*◌, ◌<◌, ◌≤◌, List, [], ◌∷◌, length, map, Bool, true, false, cond, ap, arith}
use Rattle.std.specs.Prelude.{All, Contains, nat_lt, ◌==◌, sum_by}
use Rattle.std.specs.List.{flat_map, range_with_len}
use Rattle.std.proofs.lemmas.List.Elements.{All-nil, All-cons, All-append, All-weaker, All-contains, All-contains_itself}
use Rattle.std.proofs.lemmas.List.{length-append}
use Rattle.std.proofs.lemmas.List.Sums.{sum_by-cons, sum_by-append}
use Rattle.sat_base.specs.Lit.{in_order, put_in}
use Rattle.sat_base.proofs.InOrder.{in_order-has}

-- a sum of equal terms
pub sum_of_equal : {X : Type 0} (weight : X → ℕ) (f : ℕ → X) (each : ℕ) → ((k : ℕ) → weight (f k) ≡ each) → (start n : ℕ) → sum_by weight (map f (range_with_len start n)) ≡ n * each
sum_of_equal weight f each equal start zero = (let e : 0 ≡ 0 * each = omega arith in e)
sum_of_equal weight f each equal start (suc n) =
    sum_by-cons weight (f start) (map f (range_with_len (start + 1) n))
    ∙ ap (λ k. k + sum_by weight (map f (range_with_len (start + 1) n))) (equal start)
    ∙ ap (λ k. each + k) (sum_of_equal weight f each equal (start + 1) n)
    ∙ (let e : each + n * each ≡ suc n * each = grind arith in e)

-- the same of lists
pub sum_of_lists : {X : Type 0} (weight : X → ℕ) (f : ℕ → List X) (each : ℕ) → ((k : ℕ) → sum_by weight (f k) ≡ each) → (start n : ℕ) → sum_by weight (flat_map f (range_with_len start n)) ≡ n * each
sum_of_lists weight f each equal start zero = (let e : 0 ≡ 0 * each = omega arith in e)
sum_of_lists weight f each equal start (suc n) =
    sum_by-append weight (f start) (flat_map f (range_with_len (start + 1) n))
    ∙ ap (λ k. k + sum_by weight (flat_map f (range_with_len (start + 1) n))) (equal start)
    ∙ ap (λ k. each + k) (sum_of_lists weight f each equal (start + 1) n)
    ∙ (let e : each + n * each ≡ suc n * each = grind arith in e)

pub length_of_lists : {X : Type 0} (f : ℕ → List X) (each : ℕ) → ((k : ℕ) → length (f k) ≡ each) → (start n : ℕ) → length (flat_map f (range_with_len start n)) ≡ n * each
length_of_lists f each equal start zero = (let e : 0 ≡ 0 * each = omega arith in e)
length_of_lists f each equal start (suc n) =
    length-append (f start) (flat_map f (range_with_len (start + 1) n))
    ∙ ap (λ k. k + length (flat_map f (range_with_len (start + 1) n))) (equal start)
    ∙ ap (λ k. each + k) (length_of_lists f each equal (start + 1) n)
    ∙ (let e : each + n * each ≡ suc n * each = grind arith in e)

-- what holds of each item below a bound
pub all_of_range : {X : Type 0} (P : X → Type 0) (f : ℕ → X) (bound : ℕ) → ((k : ℕ) → k < bound → P (f k)) → (start n : ℕ) → start + n ≤ bound → All P (map f (range_with_len start n))
all_of_range P f bound holds start zero below = All-nil P
all_of_range P f bound holds start (suc n) below =
    All-cons P (f start) (map f (range_with_len (start + 1) n)) (holds start (omega (arith, below)))
    (all_of_range P f bound holds (start + 1) n (omega (arith, below)))

pub all_of_lists : {X : Type 0} (P : X → Type 0) (f : ℕ → List X) → ((k : ℕ) → All P (f k)) → (start n : ℕ) → All P (flat_map f (range_with_len start n))
all_of_lists P f holds start zero = All-nil P
all_of_lists P f holds start (suc n) = All-append P (f start) (flat_map f (range_with_len (start + 1) n)) (holds start) (all_of_lists P f holds (start + 1) n)

-- a set has no more literals than the list that it is made of
put_by : (lit other : ℕ) (lits put : List ℕ) (before same : Bool) → length put ≤ length lits + 1
    → length (cond before (lit ∷ other ∷ lits) (cond same (other ∷ lits) (other ∷ put))) ≤ length lits + 2
put_by lit other lits put true same h = omega arith
put_by lit other lits put false true h = omega arith
put_by lit other lits put false false h = omega (arith, h)

put_in-length : (lit : ℕ) (lits : List ℕ) → length (put_in lit lits) ≤ length lits + 1
put_in-length lit [] = omega arith
put_in-length lit (other ∷ lits) =
    let h = put_by lit other lits (put_in lit lits) (nat_lt lit other) (lit == other) (put_in-length lit lits) in
    omega (arith, h)

pub in_order-length : (lits : List ℕ) → length (in_order lits) ≤ length lits
in_order-length [] = omega arith
in_order-length (lit ∷ lits) = omega (arith, put_in-length lit (in_order lits), in_order-length lits)

-- what holds of each literal holds of each of the set
pub in_order-all : (P : ℕ → Type 0) (lits : List ℕ) → All P lits → All P (in_order lits)
in_order-all P lits holds =
    All-weaker (Contains (in_order lits)) P (λ x has. All-contains P lits x holds ((in_order-has lits x).0 has)) (in_order lits) (All-contains_itself (in_order lits))
