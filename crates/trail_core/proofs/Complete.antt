-- A trail with as many literals as variables are reserved assigns each of them.
use Rattle.std.proofs.Common.{◌≡◌, ◌≢◌, ◌∙◌, ℕ, ◌+◌, ◌<◌, ◌≤◌, List, [], ◌∷◌, length, refl, sym, subst, arith, get_or, true, eqb, eqb-true}
use Rattle.std.specs.Prelude.{All, AllPairs, Contains, map}
use Rattle.std.specs.List.{list_any}
use Rattle.std.proofs.lemmas.Bool.Decides.{Decides-eqb}
use Rattle.std.proofs.lemmas.List.{get_or-map, length-map}
use Rattle.std.proofs.lemmas.List.Elements.{All-cons, All-map, All-contains}
use Rattle.std.proofs.lemmas.List.Kept.{AllPairs-cons}
use Rattle.std.proofs.lemmas.Map.Made.{IsDistinct-from_AllPairs}
use Rattle.std.proofs.lemmas.Map.Steps.{length-le_from_distinct_below}
use Rattle.sat_base.specs.Lit.{variable}
use Rattle.sat_base.proofs.Members.{any_member}
use Rattle.trail_core.specs.Trail.{Entry, TrailView, IsTrail, IsFree, StandsAt, no_entry, entry_at}

abbrev name : Entry → ℕ
name entry = variable entry.lit

-- otherwise 0, the free variable and all that are assigned were too many numbers up to the last
-- one
pub none_free : (trail : TrailView) → IsTrail trail → length trail.entries ≡ trail.vars → (var : ℕ)
    → 1 ≤ var → var ≤ trail.vars → IsFree trail.entries var → ⊥
none_free trail is full var low high free =
    let few = length-le_from_distinct_below (0 ∷ var ∷ names) (trail.vars + 1)
    (IsDistinct-from_AllPairs Decides-eqb (0 ∷ var ∷ names) distinct) bounded in
    omega (arith, few, full, length-map entries name)
  where
    entries : List Entry
    entries = trail.entries

    names : List ℕ
    names = map name entries

    read : (place d : ℕ) → place < length names → get_or names place d ≡ name (entry_at entries place)
    read place d lt = get_or-map name entries place no_entry d (omega (arith, lt, length-map entries name))

    stands : (place var d : ℕ) → place < length names → get_or names place d ≡ var → StandsAt entries var place
    stands place v d lt here = record {
      within = omega (arith, lt, length-map entries name);
      is = sym (read place d lt) ∙ here;
    }

    apart : AllPairs (λ x y. x ≢ y) names
    apart i j d less lt same =
        let e = is.once (get_or names j d) i j (stands i (get_or names j d) d (omega (arith, less, lt)) same)
        (stands j (get_or names j d) d lt refl) in
        omega (arith, e, less)

    reserved : All (λ x. (1 ≤ x) × (x ≤ trail.vars)) names
    reserved = All-map (λ x. (1 ≤ x) × (x ≤ trail.vars)) name entries is.reserved

    differs : All (λ x. var ≢ x) names
    differs k d lt same = free.none k (stands k var d lt (sym same))

    distinct : AllPairs (λ x y. x ≢ y) (0 ∷ var ∷ names)
    distinct = AllPairs-cons (λ x y. x ≢ y) 0 (var ∷ names)
        (All-cons (λ x. 0 ≢ x) var names (λ e. omega (arith, e, low))
        (λ k d lt e. let r = reserved k d lt in let one = r.0 in omega (arith, e, one)))
        (AllPairs-cons (λ x y. x ≢ y) var names differs apart)

    below : All (λ x. x < trail.vars + 1) (0 ∷ var ∷ names)
    below = All-cons (λ x. x < trail.vars + 1) 0 (var ∷ names) (omega arith)
        (All-cons (λ x. x < trail.vars + 1) var names (omega (arith, high))
        (λ k d lt. let r = reserved k d lt in let up = r.1 in omega (arith, up)))

    bounded : (q : ℕ) → list_any (eqb q) (0 ∷ var ∷ names) ≡ true → q < trail.vars + 1
    bounded q h =
        let m = any_member (eqb q) (0 ∷ var ∷ names) h in
        subst (λ n. n < trail.vars + 1) (sym (eqb-true q m.0 m.2))
        (All-contains (λ x. x < trail.vars + 1) (0 ∷ var ∷ names) m.0 below m.1)
