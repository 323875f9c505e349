-- Packets that a session over certain inputs may take in.
use Rattle.std.proofs.Common.{◌≡◌, ℕ, ◌≤◌, [], ◌∷◌, List, Bool, true, false, refl, arith, subst}
use Rattle.std.proofs.Common.{sym}
use Rattle.std.specs.Prelude.{IsTrue, ◌&&◌, ◌||◌, not}
use Rattle.sat_base.specs.Lit.{greatest_of, greatest_of_all}
use Rattle.sat_base.specs.Truth.{Entails, value_of}
use Rattle.sat_base.specs.declared.origins.Ref.TheVariants.{Input}
use Rattle.trace_core.specs.Known.{Known}
use Rattle.trace_core.specs.Law.{clauses_up_to}
use Rattle.trace_core.specs.declared.derivation.Step.{Step}
use Rattle.session.specs.Solver.{Solver, clauses_of}
use Rattle.session.specs.Loading.{loaded}
use Rattle.session.specs.Sharing.{IsTakable}
use Rattle.session.specs.Session.{no_inputs}

-- what one session may take in, another over the same inputs may
pub takable_over : (old new : Solver) (packet : List Step) → new.inputs ≡ old.inputs
    → new.bound ≡ old.bound → ((one : Known) × IsTakable old packet one)
    → (one : Known) × IsTakable new packet one
takable_over old new packet inputs bound (one, takable) = (
  one,
  record {
    last = takable.last;
    bounded = subst (λ n. one.tag ≤ n) (sym bound) takable.bounded;
    follows = subst (λ (all : List Known). Entails (clauses_of all) one.clause)
        (sym inputs) takable.follows;
    within = subst (λ (all : List Known). greatest_of one.clause ≤ greatest_of_all
        (clauses_up_to all one.tag)) (sym inputs) takable.within;
  },
)

-- where the clauses 1 and -1 2 are true the variable 2 is
second_holds : (first second : Bool) → IsTrue ((first || false) &&
    ((not first || (second || false)) && true)) → IsTrue (second || false)
second_holds true true all = refl
second_holds false true all = refl
second_holds true false all = all
second_holds false false all = all

follows : Entails ((2 ∷ []) ∷ (3 ∷ 4 ∷ []) ∷ []) (4 ∷ [])
follows values all = second_holds (value_of values 1) (value_of values 2) all

-- The clause 2 can be taken in where the inputs are 1 and -1 2.
pub two_takable : (clauses : List (List ℕ)) (packet : List Step)
    → clauses ≡ (2 ∷ []) ∷ (3 ∷ 4 ∷ []) ∷ [] → packet
    ≡ record { clause = 4 ∷ []; hints = Input 1 ∷ Input 2 ∷ []; tag = 1 } ∷ []
    → (one : Known) × IsTakable (loaded no_inputs clauses) packet one
two_takable clauses packet are is =
    subst (λ (all : List (List ℕ)). (one : Known) × IsTakable (loaded no_inputs all) packet one)
    (sym are)
    (subst (λ (steps : List Step). (one : Known)
    × IsTakable (loaded no_inputs ((2 ∷ []) ∷ (3 ∷ 4 ∷ []) ∷ [])) steps one) (sym is) (
      record { clause = 4 ∷ []; tag = 1 },
      record {
        last = refl;
        bounded = omega arith;
        follows = follows;
        within = omega arith;
      },
    ))
