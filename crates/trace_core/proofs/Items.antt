-- Items of lists: the item at a place, counted from 1, and the items that a filter lets through.
use Rattle.std.proofs.Common.{◌≡◌, ◌∙◌, ℕ, zero, suc, ◌+◌, ◌-◌, ◌<◌, ◌≤◌, List, [], ◌∷◌, ◌++◌}
use Rattle.std.proofs.Common.{map, take, length, get_or, refl, ap, subst, sym, inl, inr, arith}
use Rattle.std.specs.Prelude.{◌⊎◌, Option, Some, None, IsSome, Bool, true, false, cond, ◌==◌}
use Rattle.std.specs.Prelude.{IsTrue, slice_get, option_map, Contains}
use Rattle.std.specs.List.{filter}
use Rattle.std.proofs.lemmas.Bool.{cases_Bool}
use Rattle.std.proofs.lemmas.Bool.Decides.{nat_tests}
use Rattle.std.proofs.lemmas.Option.{slice_get_within, slice_get-get_or, slice_get-map}
use Rattle.sat_base.proofs.Members.{Contains-here, Contains-there, Contains-cases}
use Rattle.trace_core.specs.Known.{item_at}

-- No list of none has an item.
pub nothing_in : {X A : Type 0} (x : X) → Contains [] x → A
nothing_in x (k, lt, is) = absurd (omega arith)

-- What a filter lets through was there, and passes.
pub Contains-from_filter : {X : Type 0} (p : X → Bool) (xs : List X) (x : X)
    → Contains (filter p xs) x → Contains xs x × IsTrue (p x)
Contains-from_filter p [] x has = nothing_in x has
Contains-from_filter p (y ∷ xs) x has =
    by_test (λ h. Contains-from_filter p xs x h) (cases_Bool (p y)) has
  where
    in_front : (Contains (filter p xs) x → Contains xs x × IsTrue (p x)) → IsTrue (p y)
        → (y ≡ x) ⊎ Contains (filter p xs) x → Contains (y ∷ xs) x × IsTrue (p x)
    in_front recur pass (inl same) =
        (subst (Contains (y ∷ xs)) same (Contains-here y xs), ap p (sym same) ∙ pass)
    in_front recur pass (inr later) = let h = recur later in (Contains-there y x xs h.0, h.1)

    by_test : (Contains (filter p xs) x → Contains xs x × IsTrue (p x))
        → (p y ≡ true) ⊎ (p y ≡ false)
        → Contains (cond (p y) (y ∷ filter p xs) (filter p xs)) x
        → Contains (y ∷ xs) x × IsTrue (p x)
    by_test recur (inl pass) h = in_front recur pass (Contains-cases y x (filter p xs)
        (subst (λ b. Contains (cond b (y ∷ filter p xs) (filter p xs)) x) pass h))
    by_test recur (inr fail) h =
        let m = recur (subst (λ b. Contains (cond b (y ∷ filter p xs) (filter p xs)) x) fail h) in
        (Contains-there y x xs m.0, m.1)

-- The item at a place is the one at the index before it.
pub item_at-found : {X : Type 0} (xs : List X) (place : ℕ) (x : X) → item_at xs place ≡ Some x
    → (0 < place) × (slice_get xs (place - 1) ≡ Some x)
item_at-found xs place x = guarded (place == 0) refl
  where
    guarded : (b : Bool) → (place == 0) ≡ b → cond b None (slice_get xs (place - 1)) ≡ Some x
        → (0 < place) × (slice_get xs (place - 1) ≡ Some x)
    guarded true none is = absurd (cc)
    guarded false positive is = let h : 0 < place = grind (arith, nat_tests) in (h, is)

-- A place from 1 on has what stands at the index before it.
pub item_at-is : {X : Type 0} (xs : List X) (place : ℕ) → 0 < place
    → item_at xs place ≡ slice_get xs (place - 1)
item_at-is {X} xs place positive =
    let some : (place == 0) ≡ false = grind (arith, nat_tests) in
    ap (λ b. cond b None (slice_get xs (place - 1))) some

-- A place that has an item is one from 1 to the length.
pub item_at-within : {X : Type 0} (xs : List X) (place : ℕ) → IsSome (item_at xs place)
    → (0 < place) × (place ≤ length xs)
item_at-within {X} xs place some = by_item (item_at xs place) refl some
  where
    by_item : (found : Option X) → item_at xs place ≡ found → IsSome found
        → (0 < place) × (place ≤ length xs)
    by_item None is none = absurd (cc)
    by_item (Some x) is there =
        let at = item_at-found xs place x is in
        let within = slice_get_within xs (place - 1) x at.1 in
        (at.0, let positive = at.0 in omega arith)

-- The places from 1 to the length have an item.
pub item_at-there : {X : Type 0} (xs : List X) (place : ℕ) → 1 ≤ place → place ≤ length xs
    → IsSome (item_at xs place)
item_at-there {X} xs place positive within =
    subst IsSome (sym (item_at-is xs place positive)) (there xs (place - 1) (omega arith))
  where
    there : (xs : List X) (i : ℕ) → i < length xs → IsSome (slice_get xs i)
    there [] i lt = absurd (omega arith)
    there (x ∷ xs) zero lt = refl
    there (x ∷ xs) (suc i) lt = there xs i (omega arith)

-- The item at an index is at the place after it.
pub item_at-next : {X : Type 0} (xs : List X) (i : ℕ) (x : X) → i < length xs → get_or xs i x ≡ x
    → item_at xs (i + 1) ≡ Some x
item_at-next xs i x lt is =
    item_at-is xs (i + 1) (omega arith)
    ∙ ap (slice_get xs) (let e : i + 1 - 1 ≡ i = omega arith in e) ∙ slice_get-get_or xs i x lt
    ∙ ap Some is

-- An item of a list has a place.
pub place_of : {X : Type 0} (xs : List X) (x : X) → Contains xs x
    → (place : ℕ) × (item_at xs place ≡ Some x)
place_of xs x (i, lt, is) = (i + 1, item_at-next xs i x lt is)

pub slice_get-contains : {X : Type 0} (xs : List X) (i : ℕ) (x : X) → slice_get xs i ≡ Some x
    → Contains xs x
slice_get-contains [] i x is = absurd (cc)
slice_get-contains (y ∷ xs) zero x is =
    let same : y ≡ x = cc in subst (Contains (y ∷ xs)) same (Contains-here y xs)
slice_get-contains (y ∷ xs) (suc i) x is = Contains-there y x xs (slice_get-contains xs i x is)

-- What stands at a place is an item of the list.
pub item_at-contains : {X : Type 0} (xs : List X) (place : ℕ) (x : X) → item_at xs place ≡ Some x
    → Contains xs x
item_at-contains xs place x is =
    slice_get-contains xs (place - 1) x (item_at-found xs place x is).1

pub item_at-map : {X Y : Type 0} (f : X → Y) (xs : List X) (place : ℕ)
    → item_at (map f xs) place ≡ option_map f (item_at xs place)
item_at-map {X} {Y} f xs place = guarded (place == 0)
  where
    guarded : (b : Bool) → ◌≡◌ {A = Option Y} (cond b None (slice_get (map f xs) (place - 1)))
        (option_map f (cond b None (slice_get xs (place - 1))))
    guarded true = refl
    guarded false = slice_get-map f xs (place - 1)

-- A front of the list has the same items at the places up to its end.
pub item_at-front : {X : Type 0} (xs : List X) (n place : ℕ) (x : X) → place ≤ n
    → item_at xs place ≡ Some x → item_at (take n xs) place ≡ Some x
item_at-front {X} xs n place x le is =
    let at = item_at-found xs place x is in
    let positive = at.0 in
    item_at-is (take n xs) place positive ∙ front xs n (place - 1) (omega arith) at.1
  where
    front : (xs : List X) (n i : ℕ) → i < n → slice_get xs i ≡ Some x
        → slice_get (take n xs) i ≡ Some x
    front [] n i lt is = absurd (cc)
    front (y ∷ xs) zero i lt is = absurd (omega arith)
    front (y ∷ xs) (suc n) zero lt is = is
    front (y ∷ xs) (suc n) (suc i) lt is = front xs n i (omega arith) is

-- With more behind it a list has the same items at the places up to its length.
pub item_at-kept : {X : Type 0} (xs ys : List X) (place : ℕ) → place ≤ length xs
    → item_at (xs ++ ys) place ≡ item_at xs place
item_at-kept {X} xs ys place le = guarded (place == 0) refl
  where
    kept : (xs : List X) (i : ℕ) → i < length xs → slice_get (xs ++ ys) i ≡ slice_get xs i
    kept [] i lt = absurd (omega arith)
    kept (x ∷ xs) zero lt = refl
    kept (x ∷ xs) (suc i) lt = kept xs i (omega arith)

    guarded : (b : Bool) → (place == 0) ≡ b
        → cond b None (slice_get (xs ++ ys) (place - 1)) ≡ cond b None (slice_get xs (place - 1))
    guarded true is = refl
    guarded false is =
        kept xs (place - 1) (let lt : place - 1 < length xs = grind (arith, nat_tests) in lt)

-- With more behind it a list still has its items at their places.
pub item_at-append : {X : Type 0} (xs ys : List X) (place : ℕ) (x : X) → item_at xs place ≡ Some x
    → item_at (xs ++ ys) place ≡ Some x
item_at-append xs ys place x is =
    let within = item_at-within xs place (subst IsSome (sym is) refl) in
    item_at-kept xs ys place within.1 ∙ is

-- The item at the end stands at the place behind the others.
pub item_at-last : {X : Type 0} (xs : List X) (x : X) (place : ℕ) → place ≡ length xs + 1
    → item_at (xs ++ x ∷ []) place ≡ Some x
item_at-last {X} xs x place is =
    item_at-is (xs ++ x ∷ []) place (omega arith)
    ∙ ap (slice_get (xs ++ x ∷ [])) (let e : place - 1 ≡ length xs = omega arith in e) ∙ last xs
  where
    last : (xs : List X) → slice_get (xs ++ x ∷ []) (length xs) ≡ Some x
    last [] = refl
    last (y ∷ xs) = last xs

slice_get-append_cases : {X : Type 0} (xs ys : List X) (i : ℕ) (x : X)
    → slice_get (xs ++ ys) i ≡ Some x
    → (slice_get xs i ≡ Some x) ⊎ Contains ys x
slice_get-append_cases [] ys i x is = inr (slice_get-contains ys i x is)
slice_get-append_cases (y ∷ xs) ys zero x is = inl is
slice_get-append_cases (y ∷ xs) ys (suc i) x is = slice_get-append_cases xs ys i x is

-- What stands at a place of two lists in a row stands there in the first one, or is an item of the
-- second one.
pub item_at-append_cases : {X : Type 0} (xs ys : List X) (place : ℕ) (x : X)
    → item_at (xs ++ ys) place ≡ Some x → (item_at xs place ≡ Some x) ⊎ Contains ys x
item_at-append_cases xs ys place x = guarded (place == 0)
  where
    guarded : (b : Bool) → cond b None (slice_get (xs ++ ys) (place - 1)) ≡ Some x
        → (cond b None (slice_get xs (place - 1)) ≡ Some x) ⊎ Contains ys x
    guarded true is = inl is
    guarded false is = slice_get-append_cases xs ys (place - 1) x is
