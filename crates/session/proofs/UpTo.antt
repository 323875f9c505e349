-- The greatest variable of the inputs up to a tag.
use Rattle.std.proofs.Common.{◌≡◌, ℕ, zero, suc, ◌+◌, ◌<◌, ◌≤◌, List, [], ◌∷◌, length, filter, true}
use Rattle.std.proofs.Common.{ap, subst, inl, inr, arith, get_or}
use Rattle.std.specs.Prelude.{Contains, IsTrue, nat_le}
use Rattle.std.proofs.lemmas.Bool.Decides.{nat_tests}
use Rattle.sat_base.specs.Lit.{variable, greatest_of, greatest_of_all, is_ascending}
use Rattle.sat_base.specs.Lit.{ascends_above}
use Rattle.sat_base.proofs.Members.{Contains-here, Contains-there, Contains-cases, Contains-map}
use Rattle.sat_base.proofs.Members.{Contains-from_map, Contains-filter}
use Rattle.trace_core.specs.Known.{Known}
use Rattle.trace_core.specs.Law.{clauses_up_to}
use Rattle.session.specs.Solver.{clauses_of}
use Rattle.trace_core.proofs.Items.{Contains-from_filter}

pub below_greatest : (clause : List ℕ) (lit : ℕ) → Contains clause lit
    → variable lit ≤ greatest_of clause
below_greatest [] lit (k, lt, is) = absurd (omega (arith, lt))
below_greatest (x ∷ clause) lit has = elim (Contains-cases x lit clause has) [
  | inl same ↦ (let e = ap variable same in omega (arith, e))
  | inr more ↦ (let h = below_greatest clause lit more in omega (arith, h))
]

-- the last one of literals that ascend has the greatest variable
last_highest : (bound : ℕ) (lits : List ℕ) (k d : ℕ) → IsTrue (ascends_above bound lits)
    → k + 1 ≡ length lits → (greatest_of lits ≡ variable (get_or lits k d)) × (bound < get_or lits k d)
last_highest bound [] k d up last = absurd (omega (arith, last))
last_highest bound (x ∷ []) zero d up last = (omega arith, grind (arith, nat_tests))
last_highest bound (x ∷ []) (suc k) d up last = absurd (omega (arith, last))
last_highest bound (x ∷ y ∷ lits) zero d up last = absurd (omega (arith, last))
last_highest bound (x ∷ y ∷ lits) (suc k) d up last =
    let first : bound < x = grind (arith, nat_tests) in
    let rest : IsTrue (ascends_above x (y ∷ lits)) = grind (arith, nat_tests) in
    let later = last_highest x (y ∷ lits) k d rest (omega (arith, last)) in
    (omega (arith, later.0, later.1), omega (arith, first, later.1))

pub last_greatest : (lits : List ℕ) (k d : ℕ) → IsTrue (is_ascending lits) → k + 1 ≡ length lits
    → greatest_of lits ≡ variable (get_or lits k d)
last_greatest lits k d up last = (last_highest 0 lits k d up last).0

pub greatest_within : (clause : List ℕ) (bound : ℕ)
    → ((lit : ℕ) → Contains clause lit → variable lit ≤ bound) → greatest_of clause ≤ bound
greatest_within [] bound each = omega arith
greatest_within (x ∷ clause) bound each =
    let first = each x (Contains-here x clause) in
    let rest = greatest_within clause bound (λ lit has. each lit
    (Contains-there x lit clause has)) in
    omega (arith, first, rest)

pub among_greatest : (clauses : List (List ℕ)) (clause : List ℕ) → Contains clauses clause
    → greatest_of clause ≤ greatest_of_all clauses
among_greatest [] clause (k, lt, is) = absurd (omega (arith, lt))
among_greatest (x ∷ clauses) clause has = elim (Contains-cases x clause clauses has) [
  | inl same ↦ (let e = ap greatest_of same in omega (arith, e))
  | inr more ↦ (let h = among_greatest clauses clause more in omega (arith, h))
]

pub greatest_all_within : (clauses : List (List ℕ)) (bound : ℕ)
    → ((clause : List ℕ) → Contains clauses clause → greatest_of clause ≤ bound)
    → greatest_of_all clauses ≤ bound
greatest_all_within [] bound each = omega arith
greatest_all_within (x ∷ clauses) bound each =
    let first = each x (Contains-here x clauses) in
    let rest = greatest_all_within clauses bound
    (λ clause has. each clause (Contains-there x clause clauses has)) in
    omega (arith, first, rest)

-- more inputs count up to a greater tag
up_to_more : (inputs more : List Known) (low high : ℕ) (clause : List ℕ)
    → ((one : Known) → Contains inputs one → Contains more one) → low ≤ high
    → Contains (clauses_up_to inputs low) clause → Contains (clauses_up_to more high) clause
up_to_more inputs more low high clause grows le has =
    let m = Contains-from_map (λ (one : Known). one.clause)
    (filter (λ one. nat_le one.tag low) inputs) clause has in
    let f = Contains-from_filter (λ (one : Known). nat_le one.tag low) inputs m.0 m.1 in
    subst (Contains (clauses_up_to more high)) m.2
    (Contains-map (λ (one : Known). one.clause) (filter (λ one. nat_le one.tag high) more) m.0
    (Contains-filter (λ (one : Known). nat_le one.tag high) more m.0 (grows m.0 f.0)
    (within m.0.tag f.1)))
  where
    within : (tag : ℕ) → IsTrue (nat_le tag low) → IsTrue (nat_le tag high)
    within tag h = grind (arith, nat_tests)

-- what counts up to a tag counts among all
pub among_inputs : (inputs : List Known) (tag : ℕ) (clause : List ℕ)
    → Contains (clauses_up_to inputs tag) clause → Contains (clauses_of inputs) clause
among_inputs inputs tag clause has =
    let m = Contains-from_map (λ (one : Known). one.clause)
    (filter (λ one. nat_le one.tag tag) inputs) clause has in
    subst (Contains (clauses_of inputs)) m.2 (Contains-map (λ (one : Known). one.clause) inputs m.0
    (Contains-from_filter (λ (one : Known). nat_le one.tag tag) inputs m.0 m.1).0)

pub greatest_grows : (inputs more : List Known) (low high : ℕ)
    → ((one : Known) → Contains inputs one → Contains more one) → low ≤ high
    → greatest_of_all (clauses_up_to inputs low) ≤ greatest_of_all (clauses_up_to more high)
greatest_grows inputs more low high grows le =
    greatest_all_within (clauses_up_to inputs low) (greatest_of_all (clauses_up_to more high))
    (λ clause has. among_greatest (clauses_up_to more high) clause
    (up_to_more inputs more low high clause grows le has))

-- an input counts up to its own tag
pub input_within : (inputs : List Known) (input : Known) → Contains inputs input
    → greatest_of input.clause ≤ greatest_of_all (clauses_up_to inputs input.tag)
input_within inputs input has = among_greatest (clauses_up_to inputs input.tag) input.clause
    (Contains-map (λ (one : Known). one.clause) (filter
    (λ one. nat_le one.tag input.tag) inputs) input
    (Contains-filter (λ (one : Known). nat_le one.tag input.tag) inputs input has
    (let itself : nat_le input.tag input.tag ≡ true = grind (arith, nat_tests) in itself)))
