-- The greatest variable of literals and of clauses.
use Rattle.std.proofs.Common.{◌≡◌, ℕ, ◌≤◌, List, [], ◌∷◌, ◌++◌, ap, inl, inr, arith}
use Rattle.std.specs.Prelude.{Contains, max}
use Rattle.std.proofs.lemmas.List.Elements.{All-contains}
use Rattle.sat_base.specs.Limits.{greatest_variable}
use Rattle.sat_base.specs.Lit.{variable, greatest_of, greatest_of_all, IsLit, IsLitSet}
use Rattle.sat_base.proofs.Members.{Contains-here, Contains-there, Contains-cases}

pub below_greatest : (clause : List ℕ) (lit : ℕ) →
    Contains clause lit → variable lit ≤ greatest_of clause
below_greatest [] lit (k, lt, is) = absurd (omega (arith, lt))
below_greatest (x ∷ clause) lit has = elim (Contains-cases x lit clause has) [
  | inl same ↦ (let e = ap variable same in omega (arith, e))
  | inr more ↦ (let h = below_greatest clause lit more in omega (arith, h))
]

pub greatest_within : (clause : List ℕ) (bound : ℕ) →
    ((lit : ℕ) → Contains clause lit → variable lit ≤ bound) → greatest_of clause ≤ bound
greatest_within [] bound each = omega arith
greatest_within (x ∷ clause) bound each =
    let first = each x (Contains-here x clause) in
    let rest = greatest_within clause bound
    (λ lit has. each lit (Contains-there x lit clause has)) in
    omega (arith, first, rest)

-- the variables of literals are within the limit
pub greatest-IsLitSet : (lits : List ℕ) → IsLitSet lits → greatest_of lits ≤ greatest_variable
greatest-IsLitSet lits set = greatest_within lits greatest_variable (λ lit has.
    let is = All-contains IsLit lits lit set.each has in omega (arith, is.within))

pub among_greatest : (clauses : List (List ℕ)) (clause : List ℕ) →
    Contains clauses clause → greatest_of clause ≤ greatest_of_all clauses
among_greatest [] clause (k, lt, is) = absurd (omega (arith, lt))
among_greatest (x ∷ clauses) clause has = elim (Contains-cases x clause clauses has) [
  | inl same ↦ (let e = ap greatest_of same in omega (arith, e))
  | inr more ↦ (let h = among_greatest clauses clause more in omega (arith, h))
]

pub greatest_all_within : (clauses : List (List ℕ)) (bound : ℕ) →
    ((clause : List ℕ) → Contains clauses clause → greatest_of clause ≤ bound) →
    greatest_of_all clauses ≤ bound
greatest_all_within [] bound each = omega arith
greatest_all_within (x ∷ clauses) bound each =
    let first = each x (Contains-here x clauses) in
    let rest = greatest_all_within clauses bound
    (λ clause has. each clause (Contains-there x clause clauses has)) in
    omega (arith, first, rest)

-- one clause more
pub greatest_all_push : (clauses : List (List ℕ)) (clause : List ℕ) →
    greatest_of_all (clauses ++ clause ∷ []) ≡ max (greatest_of_all clauses) (greatest_of clause)
greatest_all_push [] clause = omega arith
greatest_all_push (first ∷ clauses) clause =
    let rest = greatest_all_push clauses clause in omega (arith, rest)
