-- Names beside a list that grows.
use Rattle.std.proofs.Common.{◌≡◌, ◌∙◌, ℕ, ◌-◌, ◌≤◌, List, [], ◌∷◌, ◌++◌, map, length, take, Bool, true, false, cond, refl, ap, sym, subst, arith, get_or}
use Rattle.std.specs.Prelude.{All, nat_lt, Result, Ok, Err, OnErr}
use Rattle.std.proofs.lemmas.Bool.{ltb-false}
use Rattle.std.proofs.lemmas.List.{get_or-take, length-take, map_push}
use Rattle.std.proofs.lemmas.List.Elements.{All-weaker, All-head, All-tail, All-push}
use Rattle.sat_base.specs.declared.origins.Ref.{Ref}
use Rattle.sat_base.specs.declared.origins.Ref.TheVariants as name
use Rattle.step_table.specs.Hint.{IsAmong, ref_of}

pub record IsLonger (old new : List Ref) : Type 0 where
  pub front : take (length old) new ≡ old

longer : (old new : List Ref) → IsLonger old new → length old ≤ length new
longer old new h = omega (arith, ap length h.front, length-take (length old) new)

pub among_kept : (old new : List Ref) → IsLonger old new → (code : ℕ) → IsAmong old code → IsAmong new code
among_kept old new h code a large = let k = longer old new h in let at = a large in omega arith

pub ref_kept : (old new : List Ref) → IsLonger old new → (code : ℕ) → IsAmong old code → ref_of new code ≡ ref_of old code
ref_kept old new h code a = by (nat_lt code 3221225472) refl
  where
    listed_kept : 3221225472 ≤ code → get_or new (code - 3221225472) (name.Own 0) ≡ get_or old (code - 3221225472) (name.Own 0)
    listed_kept large =
        sym (get_or-take (length old) new (code - 3221225472) (name.Own 0) (a large)) ∙ ap (λ (xs : List Ref). get_or xs (code - 3221225472) (name.Own 0)) h.front

    by : (plain : Bool) → nat_lt code 3221225472 ≡ plain → ref_of new code ≡ ref_of old code
    by true is = rw is refl
    by false is = rw is (ap (λ (r : Ref). cond (nat_lt code 1073741824) (name.Input code) (cond (nat_lt code 2147483648) (name.Own (code - 1073741824)) r)) (listed_kept (ltb-false code 3221225472 is)))

pub all_among : (old new : List Ref) (codes : List ℕ) → IsLonger old new → All (IsAmong old) codes → All (IsAmong new) codes
all_among old new codes h all = All-weaker (IsAmong old) (IsAmong new) (λ code a. among_kept old new h code a) codes all

pub names_kept : (old new : List Ref) (codes : List ℕ) → IsLonger old new → All (IsAmong old) codes → map (ref_of new) codes ≡ map (ref_of old) codes
names_kept old new [] h all = refl
names_kept old new (code ∷ codes) h all =
    ap (λ x. x ∷ map (ref_of new) codes) (ref_kept old new h code (All-head (IsAmong old) code codes all))
    ∙ ap (λ xs. ref_of old code ∷ xs) (names_kept old new codes h (All-tail (IsAmong old) code codes all))

-- one more name
pub names_pushed : (old new : List Ref) (codes codes' : List ℕ) (code : ℕ) (whole : List Ref) (name : Ref) → IsLonger old new → All (IsAmong old) codes → map (ref_of old) codes ≡ whole → codes' ≡ codes ++ code ∷ [] → ref_of new code ≡ name → map (ref_of new) codes' ≡ whole ++ name ∷ []
names_pushed old new codes codes' code whole name h all is pushed name_is =
    ap (map (ref_of new)) pushed ∙ map_push (ref_of new) codes code
    ∙ ap (λ xs. xs ++ ref_of new code ∷ []) (names_kept old new codes h all ∙ is) ∙ ap (λ x. whole ++ x ∷ []) name_is

-- what the numbers with one more refer to is there
pub among_pushed : (old new : List Ref) (codes codes' : List ℕ) (code : ℕ) → IsLonger old new → All (IsAmong old) codes → codes' ≡ codes ++ code ∷ [] → IsAmong new code → All (IsAmong new) codes'
among_pushed old new codes codes' code h all is one =
    subst (All (IsAmong new)) (sym is) (All-push (IsAmong new) codes code (all_among old new codes h all) one)

pub on_err : {X E : Type 0} (result : Result X E) (P : Type 0) → P → OnErr result P
on_err (Ok x) P h = tt
on_err (Err e) P h = h
