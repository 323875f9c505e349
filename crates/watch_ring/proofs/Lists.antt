-- Lists in which no number stands twice.
use Rattle.std.proofs.Common.{◌≡◌, ◌∙◌, ℕ, zero, suc, ◌+◌, ◌<◌, ◌≤◌, List, [], ◌∷◌, ◌++◌, length, cond, refl, ap, subst, sym, inl, inr, arith, true, false}
use Rattle.std.specs.Prelude.{◌⊎◌, Contains, None, Some, not, ◌==◌}
use Rattle.std.proofs.lemmas.Bool.{cases_eq, cases_lt}
use Rattle.std.proofs.lemmas.Bool.Decides.{nat_tests}
use Rattle.std.proofs.lemmas.List.Elements.{filter-append, Contains-append_right}
use Rattle.watch_ring.specs.Ring.{IsOnce, without, last_behind}

pub here : (x : ℕ) (xs : List ℕ) → Contains (x ∷ xs) x
here x xs = (0, omega arith, refl)

pub there : (x w : ℕ) (xs : List ℕ) → Contains xs w → Contains (x ∷ xs) w
there x w xs (k, lt, is) = (suc k, omega arith, is)

pub split : (x w : ℕ) (xs : List ℕ) → Contains (x ∷ xs) w → (x ≡ w) ⊎ Contains xs w
split x w xs (zero, lt, is) = inl is
split x w xs (suc k, lt, is) = inr (k, omega arith, is)

pub keeps_other : (x w : ℕ) → (x ≡ w → ⊥) → not (x == w) ≡ true
keeps_other x w n = grind (arith, nat_tests)

pub drops_same : (w : ℕ) → not (w == w) ≡ false
drops_same w = grind (arith, nat_tests)

pub without_cons : (w x : ℕ) (xs : List ℕ) → (x ≡ w → ⊥) → without w (x ∷ xs) ≡ x ∷ without w xs
without_cons w x xs n = ap (λ b. cond b (x ∷ without w xs) (without w xs)) (keeps_other x w n)

pub without_same : (w : ℕ) (xs : List ℕ) → without w (w ∷ xs) ≡ without w xs
without_same w xs = ap (λ b. cond b (w ∷ without w xs) (without w xs)) (drops_same w)

pub without_absent : (w : ℕ) (xs : List ℕ) → (Contains xs w → ⊥) → without w xs ≡ xs
without_absent w [] never = refl
without_absent w (x ∷ xs) never =
    without_cons w x xs (λ e. never (subst (Contains (x ∷ xs)) e (here x xs)))
    ∙ ap (λ (ys : List ℕ). x ∷ ys) (without_absent w xs (λ h. never (there x w xs h)))

pub from_without : (w y : ℕ) (xs : List ℕ) → Contains (without w xs) y → Contains xs y × (y ≡ w → ⊥)
from_without w y [] h = absurd (omega (arith, h.1))
from_without w y (x ∷ xs) h = by (from_without w y xs) (cases_eq x w)
  where
    P : Type 0
    P = Contains (x ∷ xs) y × (y ≡ w → ⊥)

    longer : Contains xs y × (y ≡ w → ⊥) → P
    longer r = (there x y xs r.0, r.1)

    in_cons : (x ≡ w → ⊥) → (Contains (without w xs) y → Contains xs y × (y ≡ w → ⊥)) → (x ≡ y) ⊎ Contains (without w xs) y → P
    in_cons n rest (inl e) = (subst (Contains (x ∷ xs)) e (here x xs), λ f. n (e ∙ f))
    in_cons n rest (inr m) = longer (rest m)

    by : (Contains (without w xs) y → Contains xs y × (y ≡ w → ⊥)) → (x ≡ w) ⊎ (x ≡ w → ⊥) → P
    by rest (inl e) =
        longer (rest (subst (λ (ys : List ℕ). Contains ys y) (ap (λ n. without w (n ∷ xs)) e ∙ without_same w xs) h))
    by rest (inr n) = in_cons n rest (split x y (without w xs) (subst (λ (ys : List ℕ). Contains ys y) (without_cons w x xs n) h))

pub once_without : (w : ℕ) (xs : List ℕ) → IsOnce xs → IsOnce (without w xs)
once_without w [] once = once
once_without w (x ∷ xs) once = by (once_without w xs once.1) (cases_eq x w)
  where
    by : IsOnce (without w xs) → (x ≡ w) ⊎ (x ≡ w → ⊥) → IsOnce (without w (x ∷ xs))
    by rest (inl e) = subst IsOnce (sym (ap (λ n. without w (n ∷ xs)) e ∙ without_same w xs)) rest
    by rest (inr n) = subst IsOnce (sym (without_cons w x xs n)) ((λ h. once.0 (from_without w x xs h).0), rest)

less_one : (w : ℕ) (xs : List ℕ) → IsOnce xs → length xs ≤ length (without w xs) + 1
less_one w [] once = omega arith
less_one w (x ∷ xs) once = by (less_one w xs once.1) (cases_eq x w)
  where
    by : length xs ≤ length (without w xs) + 1 → (x ≡ w) ⊎ (x ≡ w → ⊥) → length (x ∷ xs) ≤ length (without w (x ∷ xs)) + 1
    by rest (inl e) =
        let same = ap (λ n. without w (n ∷ xs)) e ∙ without_same w xs ∙ without_absent w xs (λ h. once.0 (subst (Contains xs) (sym e) h)) in
        omega (arith, ap (λ (ys : List ℕ). length ys) same)
    by rest (inr n) = omega (arith, rest, ap (λ (ys : List ℕ). length ys) (without_cons w x xs n))

-- numbers below n of which none stands twice are n at most
pub few : (n : ℕ) (xs : List ℕ) → IsOnce xs → ((w : ℕ) → Contains xs w → w < n) → length xs ≤ n
few zero [] once below = omega arith
few zero (x ∷ xs) once below = let h = below x (here x xs) in omega (arith, h)
few (suc n) xs once below =
    let rest = few n (without n xs) (once_without n xs once) (λ w h. let r = from_without n w xs h in let lt = below w r.0 in differs w lt r.1) in
    omega (arith, rest, less_one n xs once)
  where
    differs : (w : ℕ) → w < suc n → (w ≡ n → ⊥) → w < n
    differs w lt ne = by (cases_lt w n)
      where
        by : (w < n) ⊎ (n ≤ w) → w < n
        by (inl l) = l
        by (inr g) = absurd (ne (omega arith))

-- the two parts of a list beside a number have it no more
pub once_parts : (w : ℕ) (front back : List ℕ) → IsOnce (front ++ w ∷ back) → (Contains front w → ⊥) × (Contains back w → ⊥)
once_parts w [] back once = ((λ h. absurd (omega (arith, h.1))), once.0)
once_parts w (x ∷ front) back once =
    let r = once_parts w front back once.1 in
    ((λ h. in_cons (split x w front h) r.0), r.1)
  where
    in_cons : (x ≡ w) ⊎ Contains front w → (Contains front w → ⊥) → ⊥
    in_cons (inl e) never = once.0 (subst (Contains (front ++ w ∷ back)) (sym e) (Contains-append_right front (w ∷ back) w (here w back)))
    in_cons (inr m) never = never m

pub without_split : (w : ℕ) (front back : List ℕ) → IsOnce (front ++ w ∷ back) → without w (front ++ w ∷ back) ≡ front ++ back
without_split w front back once =
    let r = once_parts w front back once in
    filter-append (λ other. not (other == w)) front (w ∷ back)
    ∙ ap (λ (xs : List ℕ). xs ++ without w (w ∷ back)) (without_absent w front r.0)
    ∙ ap (λ (xs : List ℕ). front ++ xs) (without_same w back ∙ without_absent w back r.1)

pub in_split : (w : ℕ) (front back : List ℕ) → Contains (front ++ w ∷ back) w
in_split w front back = Contains-append_right front (w ∷ back) w (here w back)

-- the last number of a list is in it
pub last_in : (x p : ℕ) (xs : List ℕ) → last_behind (Some x) xs ≡ Some p → Contains (x ∷ xs) p
last_in x p [] e = subst (Contains (x ∷ [])) (inside e) (here x [])
  where
    inside : Some x ≡ Some p → x ≡ p
    inside f = grind arith
last_in x p (y ∷ xs) e = there x p (y ∷ xs) (last_in y p xs e)

pub last_none : (x : ℕ) (xs : List ℕ) → last_behind (Some x) xs ≡ None → ⊥
last_none x [] e = grind arith
last_none x (y ∷ xs) e = last_none y xs e
