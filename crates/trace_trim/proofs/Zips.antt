-- Items at one place of two lists that go together.
use Rattle.std.proofs.Common.{◌≡◌, ◌∙◌, ℕ, zero, suc, ◌-◌, List, [], ◌∷◌, ◌++◌, refl, subst, ap}
use Rattle.std.specs.Prelude.{Some, slice_get}
use Rattle.std.specs.List.{AllZip}
use Rattle.std.specs.Prelude.{Contains}
use Rattle.sat_base.proofs.Members.{Contains-here, Contains-there}
use Rattle.trace_core.specs.Known.{item_at}
use Rattle.trace_core.proofs.Items.{item_at-found, item_at-is}

pub zip_push : {A B : Type 0} (R : A → B → Type 0) (xs : List A) (ys : List B) (x : A) (y : B) → AllZip R xs ys → R x y → AllZip R (xs ++ x ∷ []) (ys ++ y ∷ [])
zip_push R [] [] x y zip one = (one, tt)
zip_push R [] (z ∷ ys) x y zip one = absurd zip
zip_push R (w ∷ xs) [] x y zip one = absurd zip
zip_push R (w ∷ xs) (z ∷ ys) x y zip one = (zip.0, zip_push R xs ys x y zip.1 one)

-- What goes together with each item of the first list, under what holds of these items.
pub zip_each : {A B : Type 0} (R S : A → B → Type 0) (xs : List A) (ys : List B)
    → ((x : A) (y : B) → Contains xs x → R x y → S x y) → AllZip R xs ys → AllZip S xs ys
zip_each R S [] [] each zip = zip
zip_each R S [] (y ∷ ys) each zip = zip
zip_each R S (x ∷ xs) [] each zip = zip
zip_each R S (x ∷ xs) (y ∷ ys) each zip = (
  each x y (Contains-here x xs) zip.0,
  zip_each R S xs ys (λ w z has. each w z (Contains-there x w xs has)) zip.1,
)

pub zip_back : {A B : Type 0} (R : A → B → Type 0) (xs : List A) (ys : List B) (i : ℕ) (y : B) → AllZip R xs ys → slice_get ys i ≡ Some y → (x : A) × (slice_get xs i ≡ Some x) × R x y
zip_back R [] [] i y zip is = absurd (cc)
zip_back R [] (z ∷ ys) i y zip is = absurd zip
zip_back R (w ∷ xs) [] i y zip is = absurd zip
zip_back R (w ∷ xs) (z ∷ ys) zero y zip is = let same : z ≡ y = cc in (w, refl, subst (R w) same zip.0)
zip_back R (w ∷ xs) (z ∷ ys) (suc i) y zip is = zip_back R xs ys i y zip.1 is

zip_forth : {A B : Type 0} (R : A → B → Type 0) (xs : List A) (ys : List B) (i : ℕ) (x : A) → AllZip R xs ys → slice_get xs i ≡ Some x → (y : B) × (slice_get ys i ≡ Some y) × R x y
zip_forth R [] ys i x zip is = absurd (cc)
zip_forth R (w ∷ xs) [] i x zip is = absurd zip
zip_forth R (w ∷ xs) (z ∷ ys) zero x zip is = let same : w ≡ x = cc in (z, refl, subst (λ v. R v z) same zip.0)
zip_forth R (w ∷ xs) (z ∷ ys) (suc i) x zip is = zip_forth R xs ys i x zip.1 is

-- the item of the second list at the place of an item of the first one, places counted from 1
pub zip_item : {A B : Type 0} (R : A → B → Type 0) (xs : List A) (ys : List B) (place : ℕ) (x : A) → AllZip R xs ys → item_at xs place ≡ Some x → (y : B) × (item_at ys place ≡ Some y) × R x y
zip_item R xs ys place x zip is =
    let at = item_at-found xs place x is in
    let found = zip_forth R xs ys (place - 1) x zip at.1 in
    (found.0, item_at-is ys place at.0 ∙ found.1, found.2)

-- where the first list ends in an item, the second one does
pub zip_ends : {A B : Type 0} (R : A → B → Type 0) (front : List A) (x : A) (ys : List B) → AllZip R (front ++ x ∷ []) ys → (back : List B) × (y : B) × (ys ≡ back ++ y ∷ []) × R x y
zip_ends R [] x [] zip = absurd zip
zip_ends R [] x (y ∷ []) zip = ([], y, refl, zip.0)
zip_ends R [] x (y ∷ z ∷ ys) zip = absurd zip.1
zip_ends R (w ∷ front) x [] zip = absurd zip
zip_ends R (w ∷ front) x (z ∷ ys) zip = let rest = zip_ends R front x ys zip.1 in (z ∷ rest.0, rest.1, ap (λ zs. z ∷ zs) rest.2, rest.3)
