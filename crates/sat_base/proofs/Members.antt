-- Members of a list, and tests of them.
use Rattle.std.proofs.Common.{◌≡◌, ◌∙◌, zero, suc, List, [], ◌∷◌, map, Bool, true, false, cond, refl, ap, subst, sym, inl, inr, arith, get_or}
use Rattle.std.specs.Prelude.{◌⊎◌, IsTrue, All, Contains}
use Rattle.std.specs.List.{list_any, list_all, filter}
use Rattle.std.proofs.lemmas.List.Folds.{Any-from_list_any, list_any_at}
use Rattle.std.proofs.lemmas.List.Sums.{AllPass-from_list_all, list_all-from_AllPass}
use Rattle.std.proofs.lemmas.List.Elements.{All-contains, Contains-get_or}

pub Contains-here : {X : Type 0} (x : X) (xs : List X) → Contains (x ∷ xs) x
Contains-here x xs = (0, omega arith, refl)

pub Contains-there : {X : Type 0} (x y : X) (xs : List X) → Contains xs y → Contains (x ∷ xs) y
Contains-there x y xs h = (suc h.0, omega arith, h.2)

pub Contains-cases : {X : Type 0} (x y : X) (xs : List X) → Contains (x ∷ xs) y → (x ≡ y) ⊎ Contains xs y
Contains-cases x y xs (zero, lt, is) = inl is
Contains-cases x y xs (suc k, lt, is) = inr (k, omega arith, is)

pub All-from_members : {X : Type 0} (P : X → Type 0) (xs : List X) → ((x : X) → Contains xs x → P x) → All P xs
All-from_members P xs f k d lt = f (get_or xs k d) (Contains-get_or xs k d lt)

-- a test that some or each member passes
pub any_member : {X : Type 0} (p : X → Bool) (xs : List X) → IsTrue (list_any p xs) → (x : X) × Contains xs x × IsTrue (p x)
any_member p xs h = let a = Any-from_list_any p xs h in (a.1, (a.0, a.2, a.3), a.4)

pub any_from_member : {X : Type 0} (p : X → Bool) (xs : List X) (x : X) → Contains xs x → IsTrue (p x) → IsTrue (list_any p xs)
any_from_member p xs x c h = list_any_at p xs c.0 x c.1 (ap p c.2 ∙ h)

pub all_member : {X : Type 0} (p : X → Bool) (xs : List X) (x : X) → IsTrue (list_all p xs) → Contains xs x → IsTrue (p x)
all_member p xs x h c = All-contains (λ y. p y ≡ true) xs x (AllPass-from_list_all p xs h) c

pub all_from_members : {X : Type 0} (p : X → Bool) (xs : List X) → ((x : X) → Contains xs x → IsTrue (p x)) → IsTrue (list_all p xs)
all_from_members p xs f = list_all-from_AllPass p xs (All-from_members (λ y. p y ≡ true) xs f)

pub Contains-map : {X Y : Type 0} (f : X → Y) (xs : List X) (x : X) → Contains xs x → Contains (map f xs) (f x)
Contains-map f [] x (k, lt, is) = absurd (omega arith)
Contains-map f (y ∷ xs) x (zero, lt, is) = (0, omega arith, ap f is)
Contains-map f (y ∷ xs) x (suc k, lt, is) = Contains-there (f y) (f x) (map f xs) (Contains-map f xs x (k, omega arith, is))

pub Contains-from_map : {X Y : Type 0} (f : X → Y) (xs : List X) (y : Y) → Contains (map f xs) y → (x : X) × Contains xs x × (f x ≡ y)
Contains-from_map f [] y (k, lt, is) = absurd (omega arith)
Contains-from_map f (x ∷ xs) y (zero, lt, is) = (x, Contains-here x xs, is)
Contains-from_map f (x ∷ xs) y (suc k, lt, is) =
    let h = Contains-from_map f xs y (k, omega arith, is) in
    (h.0, Contains-there x h.0 xs h.1, h.2)

pub Contains-filter : {X : Type 0} (p : X → Bool) (xs : List X) (x : X) → Contains xs x → IsTrue (p x) → Contains (filter p xs) x
Contains-filter p [] x (k, lt, is) pass = absurd (omega arith)
Contains-filter p (y ∷ xs) x (zero, lt, is) pass =
    rw (ap p is ∙ pass) (subst (λ z. Contains (z ∷ filter p xs) x) (sym is) (Contains-here x (filter p xs)))
Contains-filter p (y ∷ xs) x (suc k, lt, is) pass =
    let rest : Contains (filter p xs) x = Contains-filter p xs x (k, omega arith, is) pass in
    kept (p y) y x (filter p xs) rest
  where
    kept : {X : Type 0} (b : Bool) (y x : X) (ys : List X) → Contains ys x → Contains (cond b (y ∷ ys) ys) x
    kept true y x ys h = Contains-there y x ys h
    kept false y x ys h = h
