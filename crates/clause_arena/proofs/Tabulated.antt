-- Lists of the first values of a function.
use Rattle.std.proofs.Common.{◌≡◌, ◌∙◌, ℕ, zero, suc, ◌<◌, ◌≤◌, List, [], ◌∷◌, ◌++◌, length, take, refl, ap, inl, inr, arith, get_or}
use Rattle.std.specs.Prelude.{◌⊎◌}
use Rattle.std.proofs.lemmas.Bool.{cases_lt}
use Rattle.std.proofs.lemmas.List.{length_push, get_or_push, get_or_append_left, take-append-le, take_all}
use Rattle.clause_arena.specs.Layout.{tabulated}

pub length-tabulated : {X : Type 0} (f : ℕ → X) (n : ℕ) → length (tabulated f n) ≡ n
length-tabulated f zero = refl
length-tabulated f (suc n) =
    let e : length (tabulated f n) ≡ n = length-tabulated f n in omega (arith, e, length_push (tabulated f n) (f n))

-- an item of a list that got one more
pushed : {X : Type 0} (xs : List X) (x d : X) (n i : ℕ) (f : ℕ → X) → length xs ≡ n → i < suc n → (i < n → get_or xs i d ≡ f i) → x ≡ f n → get_or (xs ++ x ∷ []) i d ≡ f i
pushed {X} xs x d n i f size lt below last = at (cases_lt i n)
  where
    at : (i < n) ⊎ (n ≤ i) → get_or (xs ++ x ∷ []) i d ≡ f i
    at (inl l) = get_or_append_left xs (x ∷ []) d i (omega arith) ∙ below l
    at (inr g) = let here : n ≡ i = omega arith in get_or_push xs x d i (size ∙ here) ∙ last ∙ ap f here

pub get_or-tabulated : {X : Type 0} (f : ℕ → X) (n i : ℕ) (d : X) → i < n → get_or (tabulated f n) i d ≡ f i
get_or-tabulated f zero i d lt = absurd (omega arith)
get_or-tabulated f (suc n) i d lt =
    pushed (tabulated f n) (f n) d n i f (length-tabulated f n) lt (λ l. get_or-tabulated f n i d l) refl

pub tabulated-same : {X : Type 0} (f g : ℕ → X) (n : ℕ) → ((i : ℕ) → i < n → f i ≡ g i) → tabulated f n ≡ tabulated g n
tabulated-same f g zero same = refl
tabulated-same f g (suc n) same =
    ap (λ xs. xs ++ f n ∷ []) (tabulated-same f g n (λ i lt. same i (omega arith)))
    ∙ ap (λ x. tabulated g n ++ x ∷ []) (same n (omega arith))

-- a front of a list that got one more item
front_pushed : {X : Type 0} (xs : List X) (x : X) (f : ℕ → X) (m n : ℕ) → length xs ≡ n → m ≤ suc n → (m ≤ n → take m xs ≡ tabulated f m) → xs ++ x ∷ [] ≡ tabulated f (suc n) → take m (xs ++ x ∷ []) ≡ tabulated f m
front_pushed {X} xs x f m n size le below whole = at (cases_lt n m)
  where
    at : (n < m) ⊎ (m ≤ n) → take m (xs ++ x ∷ []) ≡ tabulated f m
    at (inl g) =
        let all : suc n ≡ m = omega arith in
        take_all m (xs ++ x ∷ []) (omega (arith, length_push xs x)) ∙ whole ∙ ap (tabulated f) all
    at (inr l) = take-append-le m xs (x ∷ []) (omega arith) ∙ below l

pub take-tabulated : {X : Type 0} (f : ℕ → X) (m n : ℕ) → m ≤ n → take m (tabulated f n) ≡ tabulated f m
take-tabulated f m zero le = let none : 0 ≡ m = omega arith in take_all m [] (omega arith) ∙ ap (tabulated f) none
take-tabulated f m (suc n) le =
    front_pushed (tabulated f n) (f n) f m n (length-tabulated f n) le (λ l. take-tabulated f m n l) refl
