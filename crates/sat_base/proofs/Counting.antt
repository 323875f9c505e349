-- How many clauses there are over some variables: each has a number of its own in base three.
use Rattle.std.proofs.Common.{◌≡◌, ◌≢◌, ◌∙◌, ℕ, zero, suc, ◌+◌, ◌-◌, ◌*◌, ◌/◌, ◌%◌, ◌^◌, ◌<◌, ◌≤◌, List, [], ◌∷◌, map, Bool, true, false, eqb, refl, ap, subst, sym, ⊎_elim, arith}
use Rattle.std.specs.Prelude.{IsTrue, All, AllPairs, Contains}
use Rattle.std.specs.List.{list_any, AllByRecursion}
use Rattle.std.specs.List.{IsDistinct}
use Rattle.std.proofs.Math.Nat.{pow-suc}
use Rattle.std.proofs.lemmas.Bool.{cases_eq, cases_order, eq-eqb, eqb-true, false_from_ne_true, ne_eqb}
use Rattle.std.proofs.lemmas.List.{length-map}
use Rattle.std.proofs.lemmas.List.Elements.{All-contains, All-head, All-tail}
use Rattle.std.proofs.lemmas.Map.Steps.{length-le_from_distinct_below}
use Rattle.sat_base.specs.Lit.{variable, IsTautology}
use Rattle.sat_base.specs.Law.{IsProperClause, FewClauses}
use Rattle.sat_base.proofs.Ascending.{same_set}
use Rattle.sat_base.proofs.Members.{any_member, any_from_member, Contains-here, Contains-there, Contains-from_map}

has : List ℕ → ℕ → Bool
has clause lit = list_any (eqb lit) clause

has-member : (clause : List ℕ) (lit : ℕ) → IsTrue (has clause lit) → Contains clause lit
unfolding has
has-member clause lit h =
    let m = any_member (eqb lit) clause h in
    subst (Contains clause) (sym (eqb-true lit m.0 m.2)) m.1

member-has : (clause : List ℕ) (lit : ℕ) → Contains clause lit → IsTrue (has clause lit)
unfolding has
member-has clause lit m = any_from_member (eqb lit) clause lit m (eq-eqb lit lit refl)

-- 1 for the positive literal of the variable, 2 for the negative one, 0 for neither
digit_of : Bool → Bool → ℕ
digit_of true negative = 1
digit_of false true = 2
digit_of false false = 0

digit_below : (positive negative : Bool) → digit_of positive negative < 3
unfolding digit_of
digit_below true negative = omega arith
digit_below false true = omega arith
digit_below false false = omega arith

digit : ℕ → List ℕ → ℕ
digit v clause = digit_of (has clause (2 * v + 2)) (has clause (2 * v + 3))

place : ℕ → List ℕ → ℕ
place zero clause = 0
place (suc v) clause = 3 * place v clause + digit v clause

digit_small : (v : ℕ) (clause : List ℕ) → digit v clause < 3
unfolding digit
digit_small v clause = digit_below (has clause (2 * v + 2)) (has clause (2 * v + 3))

place_below : (v : ℕ) (clause : List ℕ) → place v clause < 3 ^ v
unfolding place
place_below zero clause = omega arith
place_below (suc v) clause =
    let rest : place v clause < 3 ^ v = place_below v clause in
    let last : digit v clause < 3 = digit_small v clause in
    rw (pow-suc 3 v) (omega arith)

split : (a b d e : ℕ) → 3 * a + d ≡ 3 * b + e → d < 3 → e < 3 → (a ≡ b) × (d ≡ e)
split a b d e h d_small e_small = (omega arith, omega arith)

last_or : {P : Type 0} (k v : ℕ) → k < suc v → (k ≡ v → P) → (k < v → P) → P
last_or k v lt at below = ⊎_elim at (⊎_elim below (λ more. absurd (omega arith))) (cases_order k v)

-- the digits of equal numbers are equal
same_digit : (v k : ℕ) (clause other : List ℕ) → place v clause ≡ place v other → k < v → digit k clause ≡ digit k other
unfolding place
same_digit zero k clause other h lt = absurd (omega arith)
same_digit (suc v) k clause other h lt =
    let parts = split (place v clause) (place v other) (digit v clause) (digit v other) h (digit_small v clause) (digit_small v other) in
    last_or k v lt
    (λ same. ap (λ n. digit n clause) same ∙ parts.1 ∙ ap (λ n. digit n other) (sym same))
    (λ less. same_digit v k clause other parts.0 less)

same_positive : (p n q m : Bool) → digit_of p n ≡ digit_of q m → p ≡ true → q ≡ true
unfolding digit_of
same_positive true n true m h is = refl
same_positive true n false true h is = absurd (omega arith)
same_positive true n false false h is = absurd (omega arith)
same_positive false n q m h is = cc

same_negative : (p n q m : Bool) → digit_of p n ≡ digit_of q m → p ≡ false → n ≡ true → m ≡ true
unfolding digit_of
same_negative true n q m h is is' = cc
same_negative false false q m h is is' = cc
same_negative false true true m h is is' = absurd (omega arith)
same_negative false true false true h is is' = refl
same_negative false true false false h is is' = absurd (omega arith)

-- a clause with the number of another has its literals
positive_within : (v k : ℕ) (clause other : List ℕ) → place v clause ≡ place v other → k < v → Contains clause (2 * k + 2) → Contains other (2 * k + 2)
unfolding digit
positive_within v k clause other h lt member =
    has-member other (2 * k + 2) (same_positive (has clause (2 * k + 2)) (has clause (2 * k + 3)) (has other (2 * k + 2)) (has other (2 * k + 3))
    (same_digit v k clause other h lt) (member-has clause (2 * k + 2) member))

negative_within : (v k : ℕ) (clause other : List ℕ) → place v clause ≡ place v other → k < v → ¬ IsTautology clause → Contains clause (2 * k + 3) → Contains other (2 * k + 3)
unfolding digit
negative_within v k clause other h lt proper member =
    has-member other (2 * k + 3) (same_negative (has clause (2 * k + 2)) (has clause (2 * k + 3)) (has other (2 * k + 2)) (has other (2 * k + 3))
    (same_digit v k clause other h lt)
    (false_from_ne_true (has clause (2 * k + 2)) (λ both. proper (record {
      lit = 2 * k + 2;
      has = has-member clause (2 * k + 2) both;
      has_opposite = subst (Contains clause) (omega arith) member;
    })))
    (member-has clause (2 * k + 3) member))

literal_within : (v : ℕ) (clause other : List ℕ) → IsProperClause v clause → place v clause ≡ place v other → (lit : ℕ) → Contains clause lit → Contains other lit
literal_within v clause other is h lit member =
    let range : (2 ≤ lit) × (variable lit ≤ v) = All-contains (λ lit. (2 ≤ lit) × (variable lit ≤ v)) clause lit is.within member in
    let k : ℕ = lit / 2 - 1 in
    let even : lit % 2 ≡ 0 → lit ≡ 2 * (lit / 2 - 1) + 2 = λ e. omega (arith, range.0, e) in
    let odd : (lit % 2 ≡ 0 → ⊥) → lit ≡ 2 * (lit / 2 - 1) + 3 = λ e. omega (arith, range.0, e) in
    let small : lit / 2 - 1 < v = omega (arith, range.0, range.1) in
    ⊎_elim
    (λ e. subst (Contains other) (sym (even e)) (positive_within v (lit / 2 - 1) clause other h small (subst (Contains clause) (even e) member)))
    (λ e. subst (Contains other) (sym (odd e)) (negative_within v (lit / 2 - 1) clause other h small is.proper (subst (Contains clause) (odd e) member)))
    (cases_eq (lit % 2) 0)

same_clause : (v : ℕ) (clause other : List ℕ) → IsProperClause v clause → IsProperClause v other → place v clause ≡ place v other → clause ≡ other
same_clause v clause other is is' h =
    same_set 0 0 clause other is.ascending is'.ascending (literal_within v clause other is h) (literal_within v other clause is' (sym h))

tail_pairs : (clause : List ℕ) (clauses : List (List ℕ)) → AllPairs (λ one other. one ≢ other) (clause ∷ clauses) → AllPairs (λ one other. one ≢ other) clauses
tail_pairs clause clauses all i j d lt within = all (suc i) (suc j) d (omega arith) (omega arith)

head_apart : (clause other : List ℕ) (clauses : List (List ℕ)) → AllPairs (λ one other. one ≢ other) (clause ∷ clauses) → Contains clauses other → clause ≢ other
head_apart clause other clauses all (k, lt, is) same = all 0 (suc k) other (omega arith) (omega arith) (same ∙ sym is)

none_alike : (v n : ℕ) (clauses : List (List ℕ)) → ((other : List ℕ) → Contains clauses other → n ≢ place v other) → AllByRecursion (λ m. eqb n m ≡ false) (map (place v) clauses)
none_alike v n [] differs = tt
none_alike v n (other ∷ clauses) differs = (
  ne_eqb n (place v other) (differs other (Contains-here other clauses)),
  none_alike v n clauses (λ one within. differs one (Contains-there other one clauses within)),
)

distinct_places : (v : ℕ) (clauses : List (List ℕ)) → All (IsProperClause v) clauses → AllPairs (λ one other. one ≢ other) clauses → IsDistinct eqb (map (place v) clauses)
unfolding IsDistinct
distinct_places v [] each apart = tt
distinct_places v (clause ∷ clauses) each apart = (
  none_alike v (place v clause) clauses (λ other within same. head_apart clause other clauses apart within
      (same_clause v clause other (All-head (IsProperClause v) clause clauses each)
      (All-contains (IsProperClause v) clauses other (All-tail (IsProperClause v) clause clauses each) within) same)),
  distinct_places v clauses (All-tail (IsProperClause v) clause clauses each) (tail_pairs clause clauses apart),
)

places_below : (v : ℕ) (clauses : List (List ℕ)) (n : ℕ) → list_any (eqb n) (map (place v) clauses) ≡ true → n < 3 ^ v
places_below v clauses n h =
    let m = any_member (eqb n) (map (place v) clauses) h in
    let from = Contains-from_map (place v) clauses m.0 m.1 in
    subst (λ k. k < 3 ^ v) (from.2 ∙ sym (eqb-true n m.0 m.2)) (place_below v from.0)

pub few : FewClauses
few v clauses each apart =
    subst (λ n. n ≤ 3 ^ v) (length-map clauses (place v))
    (length-le_from_distinct_below (map (place v) clauses) (3 ^ v) (distinct_places v clauses each apart) (places_below v clauses))
