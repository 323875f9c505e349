-- Lists in which no number stands twice.
use Rattle.std.proofs.Common.{◌≡◌, ◌∙◌, ℕ, zero, suc, ◌+◌, ◌≤◌, List, [], ◌∷◌, ◌++◌, length, cond, refl, ap, subst, sym, inl, inr, arith, true, false, Bool}
use Rattle.std.specs.Prelude.{◌⊎◌, Contains, not, ◌==◌}
use Rattle.std.proofs.lemmas.Bool.{cases_eq}
use Rattle.std.proofs.lemmas.Bool.Decides.{nat_tests}
use Rattle.std.proofs.lemmas.List.{length-append, length_push}
use Rattle.std.proofs.lemmas.List.Elements.{filter-append, Contains-append_right, Contains-append_left, Contains-push, Contains-push_cases}
use Rattle.pick_core.specs.Queue.{IsOnce, without, HasEachOnce, with_next}
use Rattle.pick_core.specs.Links.{first_of, last_behind}

pub here : (x : ℕ) (xs : List ℕ) → Contains (x ∷ xs) x
here x xs = (0, omega arith, refl)

pub there : (x w : ℕ) (xs : List ℕ) → Contains xs w → Contains (x ∷ xs) w
there x w xs (k, lt, is) = (suc k, omega arith, is)

pub split : (x w : ℕ) (xs : List ℕ) → Contains (x ∷ xs) w → (x ≡ w) ⊎ Contains xs w
split x w xs (zero, lt, is) = inl is
split x w xs (suc k, lt, is) = inr (k, omega arith, is)

pub keeps_other : (x w : ℕ) → (x ≡ w → ⊥) → not (x == w) ≡ true
keeps_other x w n = grind (arith, nat_tests)

pub drops_same : (w : ℕ) → not (w == w) ≡ false
drops_same w = grind (arith, nat_tests)

pub without_cons : (w x : ℕ) (xs : List ℕ) → (x ≡ w → ⊥) → without w (x ∷ xs) ≡ x ∷ without w xs
without_cons w x xs n = ap (λ b. cond b (x ∷ without w xs) (without w xs)) (keeps_other x w n)

pub without_same : (w : ℕ) (xs : List ℕ) → without w (w ∷ xs) ≡ without w xs
without_same w xs = ap (λ b. cond b (w ∷ without w xs) (without w xs)) (drops_same w)

pub without_absent : (w : ℕ) (xs : List ℕ) → (Contains xs w → ⊥) → without w xs ≡ xs
without_absent w [] never = refl
without_absent w (x ∷ xs) never =
    without_cons w x xs (λ e. never (subst (Contains (x ∷ xs)) e (here x xs)))
    ∙ ap (λ (ys : List ℕ). x ∷ ys) (without_absent w xs (λ h. never (there x w xs h)))

pub from_without : (w y : ℕ) (xs : List ℕ) → Contains (without w xs) y → Contains xs y × (y ≡ w → ⊥)
from_without w y [] h = absurd (omega (arith, h.1))
from_without w y (x ∷ xs) h = by (from_without w y xs) (cases_eq x w)
  where
    P : Type 0
    P = Contains (x ∷ xs) y × (y ≡ w → ⊥)

    longer : Contains xs y × (y ≡ w → ⊥) → P
    longer r = (there x y xs r.0, r.1)

    in_cons : (x ≡ w → ⊥) → (Contains (without w xs) y → Contains xs y × (y ≡ w → ⊥)) → (x ≡ y) ⊎ Contains (without w xs) y → P
    in_cons n rest (inl e) = (subst (Contains (x ∷ xs)) e (here x xs), λ f. n (e ∙ f))
    in_cons n rest (inr m) = longer (rest m)

    by : (Contains (without w xs) y → Contains xs y × (y ≡ w → ⊥)) → (x ≡ w) ⊎ (x ≡ w → ⊥) → P
    by rest (inl e) =
        longer (rest (subst (λ (ys : List ℕ). Contains ys y) (ap (λ n. without w (n ∷ xs)) e ∙ without_same w xs) h))
    by rest (inr n) = in_cons n rest (split x y (without w xs) (subst (λ (ys : List ℕ). Contains ys y) (without_cons w x xs n) h))

pub once_without : (w : ℕ) (xs : List ℕ) → IsOnce xs → IsOnce (without w xs)
once_without w [] once = once
once_without w (x ∷ xs) once = by (once_without w xs once.1) (cases_eq x w)
  where
    by : IsOnce (without w xs) → (x ≡ w) ⊎ (x ≡ w → ⊥) → IsOnce (without w (x ∷ xs))
    by rest (inl e) = subst IsOnce (sym (ap (λ n. without w (n ∷ xs)) e ∙ without_same w xs)) rest
    by rest (inr n) = subst IsOnce (sym (without_cons w x xs n)) ((λ h. once.0 (from_without w x xs h).0), rest)

-- the two parts of a list beside a number have it no more
pub once_parts : (w : ℕ) (front back : List ℕ) → IsOnce (front ++ w ∷ back) → (Contains front w → ⊥) × (Contains back w → ⊥)
once_parts w [] back once = ((λ h. absurd (omega (arith, h.1))), once.0)
once_parts w (x ∷ front) back once =
    let r = once_parts w front back once.1 in
    ((λ h. in_cons (split x w front h) r.0), r.1)
  where
    in_cons : (x ≡ w) ⊎ Contains front w → (Contains front w → ⊥) → ⊥
    in_cons (inl e) never = once.0 (subst (Contains (front ++ w ∷ back)) (sym e) (Contains-append_right front (w ∷ back) w (here w back)))
    in_cons (inr m) never = never m

pub without_split : (w : ℕ) (front back : List ℕ) → IsOnce (front ++ w ∷ back) → without w (front ++ w ∷ back) ≡ front ++ back
without_split w front back once =
    let r = once_parts w front back once in
    filter-append (λ other. not (other == w)) front (w ∷ back)
    ∙ ap (λ (xs : List ℕ). xs ++ without w (w ∷ back)) (without_absent w front r.0)
    ∙ ap (λ (xs : List ℕ). front ++ xs) (without_same w back ∙ without_absent w back r.1)

pub in_split : (w : ℕ) (front back : List ℕ) → Contains (front ++ w ∷ back) w
in_split w front back = Contains-append_right front (w ∷ back) w (here w back)

-- a list is cut at a number that stands in it
pub record Cut (numbers : List ℕ) (w : ℕ) : Type 0 where
  pub front : List ℕ
  pub back : List ℕ
  pub is : numbers ≡ front ++ w ∷ back

pub cut : (numbers : List ℕ) (w : ℕ) → Contains numbers w → Cut numbers w
cut [] w h = absurd (omega (arith, h.1))
cut (x ∷ xs) w h = by (cut xs w) (split x w xs h)
  where
    more : Cut xs w → Cut (x ∷ xs) w
    more k = record { front = x ∷ k.front; back = k.back; is = ap (λ (ys : List ℕ). x ∷ ys) k.is }

    by : (Contains xs w → Cut xs w) → (x ≡ w) ⊎ Contains xs w → Cut (x ∷ xs) w
    by rest (inl e) = record { front = []; back = xs; is = ap (λ n. n ∷ xs) e }
    by rest (inr m) = more (rest m)

pub keeps_others : (w y : ℕ) (xs : List ℕ) → (y ≡ w → ⊥) → Contains xs y → Contains (without w xs) y
keeps_others w y [] n h = absurd (omega (arith, h.1))
keeps_others w y (x ∷ xs) n h = by (keeps_others w y xs n) (split x y xs h) (cases_eq x w)
  where
    P : Type 0
    P = Contains (without w (x ∷ xs)) y

    by : (Contains xs y → Contains (without w xs) y) → (x ≡ y) ⊎ Contains xs y → (x ≡ w) ⊎ (x ≡ w → ⊥) → P
    by rest (inl e) (inl f) = absurd (n (sym e ∙ f))
    by rest (inl e) (inr m) = subst (λ (ys : List ℕ). Contains ys y) (sym (without_cons w x xs m)) (subst (Contains (x ∷ without w xs)) e (here x (without w xs)))
    by rest (inr k) (inl f) = subst (λ (ys : List ℕ). Contains ys y) (sym (ap (λ m. without w (m ∷ xs)) f ∙ without_same w xs)) (rest k)
    by rest (inr k) (inr m) = subst (λ (ys : List ℕ). Contains ys y) (sym (without_cons w x xs m)) (there x y (without w xs) (rest k))

pub apart : (x y : ℕ) (xs : List ℕ) → Contains xs y → (Contains xs x → ⊥) → x ≡ y → ⊥
apart x y xs h n e = n (subst (Contains xs) (sym e) h)

-- the last number of a list, or the one before it, is among them
pub last_in : (x : ℕ) (xs : List ℕ) → Contains (x ∷ xs) (last_behind x xs)
last_in x [] = here x []
last_in x (y ∷ xs) = there x (last_behind y xs) (y ∷ xs) (last_in y xs)

pub not_first : (x : ℕ) (xs : List ℕ) → (Contains xs x → ⊥) → (x ≡ 0 → ⊥) → x ≡ first_of xs → ⊥
not_first x [] n z e = z e
not_first x (y ∷ xs) n z e = n (subst (Contains (y ∷ xs)) (sym e) (here y xs))

pub once_push : (w : ℕ) (xs : List ℕ) → IsOnce xs → (Contains xs w → ⊥) → IsOnce (xs ++ w ∷ [])
once_push w [] once n = ((λ h. absurd (omega (arith, h.1))), tt)
once_push w (x ∷ xs) once n = ((λ h. by (Contains-push_cases xs w x h)), once_push w xs once.1 (λ h. n (there x w xs h)))
  where
    by : Contains xs x ⊎ (w ≡ x) → ⊥
    by (inl h) = once.0 h
    by (inr e) = n (subst (Contains (x ∷ xs)) (sym e) (here x xs))

-- one more variable
pub one_more : (at_end : Bool) (order : List ℕ) (vars : ℕ) → HasEachOnce order vars → HasEachOnce (with_next at_end (vars + 1) order) (vars + 1)
one_more true order vars q = record {
  once = ((λ h. let k = q.known (vars + 1) h in omega (arith, k.1)), q.once);
  known = λ var h. known var (split (vars + 1) var order h);
  each = λ var low high. each var low high (cases_eq var (vars + 1));
  size = omega (arith, q.size);
}
  where
    known : (var : ℕ) → (vars + 1 ≡ var) ⊎ Contains order var → (1 ≤ var) × (var ≤ vars + 1)
    known var (inl e) = (omega (arith, e), omega (arith, e))
    known var (inr h) = let k = q.known var h in (k.0, omega (arith, k.1))

    each : (var : ℕ) → 1 ≤ var → var ≤ vars + 1 → (var ≡ vars + 1) ⊎ (var ≡ vars + 1 → ⊥) → Contains ((vars + 1) ∷ order) var
    each var low high (inl e) = subst (Contains ((vars + 1) ∷ order)) (sym e) (here (vars + 1) order)
    each var low high (inr n) = there (vars + 1) var order (q.each var low (omega (arith, high, n)))
one_more false order vars q = record {
  once = once_push (vars + 1) order q.once (λ h. let k = q.known (vars + 1) h in omega (arith, k.1));
  known = λ var h. known var (Contains-push_cases order (vars + 1) var h);
  each = λ var low high. each var low high (cases_eq var (vars + 1));
  size = length_push order (vars + 1) ∙ ap (λ n. n + 1) q.size;
}
  where
    known : (var : ℕ) → Contains order var ⊎ (vars + 1 ≡ var) → (1 ≤ var) × (var ≤ vars + 1)
    known var (inr e) = (omega (arith, e), omega (arith, e))
    known var (inl h) = let k = q.known var h in (k.0, omega (arith, k.1))

    each : (var : ℕ) → 1 ≤ var → var ≤ vars + 1 → (var ≡ vars + 1) ⊎ (var ≡ vars + 1 → ⊥) → Contains (order ++ (vars + 1) ∷ []) var
    each var low high (inl e) = subst (Contains (order ++ (vars + 1) ∷ [])) (sym e) (Contains-push order (vars + 1))
    each var low high (inr n) = Contains-append_left order ((vars + 1) ∷ []) var (q.each var low (omega (arith, high, n)))

-- one variable moved to the end
pub one_moved : (w : ℕ) (order : List ℕ) (vars : ℕ) → HasEachOnce order vars → Contains order w → HasEachOnce (w ∷ without w order) vars
one_moved w order vars q has = record {
  once = ((λ h. (from_without w w order h).1 refl), once_without w order q.once);
  known = λ var h. known var (split w var (without w order) h);
  each = λ var low high. each var (q.each var low high) (cases_eq var w);
  size = size (cut order w has) ∙ q.size;
}
  where
    known : (var : ℕ) → (w ≡ var) ⊎ Contains (without w order) var → (1 ≤ var) × (var ≤ vars)
    known var (inl e) = q.known var (subst (Contains order) e has)
    known var (inr h) = q.known var (from_without w var order h).0

    each : (var : ℕ) → Contains order var → (var ≡ w) ⊎ (var ≡ w → ⊥) → Contains (w ∷ without w order) var
    each var h (inl e) = subst (Contains (w ∷ without w order)) (sym e) (here w (without w order))
    each var h (inr n) = there w var (without w order) (keeps_others w var order n h)

    size : Cut order w → length (w ∷ without w order) ≡ length order
    size k =
        let e = ap (without w) k.is ∙ without_split w k.front k.back (subst IsOnce k.is q.once) in
        omega (arith, ap (λ (xs : List ℕ). length xs) e, ap (λ (xs : List ℕ). length xs) k.is, length-append k.front k.back, length-append k.front (w ∷ k.back))
