-- Laws of entailment and of right answers.
use Rattle.std.specs.Prelude.{◌≡◌, ◌≢◌, ℕ, ◌^◌, ◌≤◌, ◌==◌, not, Bool, IsTrue}
use Rattle.std.specs.Prelude.{List, [], ◌∷◌, ◌++◌, map, filter, length, All, AllPairs, Contains}
use Rattle.sat_base.specs.Lit.{opposite, variable, is_ascending, IsTautology}
use Rattle.sat_base.specs.Truth.{clause_true, cube_true, Entails, IsModelOf, IsRefutedPart}

-- What a list of clauses entails, each list that has these clauses entails too.
abbrev pub EntailmentGrows : Type 0
EntailmentGrows = (clauses more : List (List ℕ)) (clause : List ℕ) →
    All (Contains more) clauses → Entails clauses clause → Entails more clause

-- the literals of both clauses but the one that is resolved on
abbrev pub resolvent : ℕ → List ℕ → List ℕ → List ℕ
resolvent lit left right =
    filter (λ other. not (other == lit)) left ++ filter (λ other. not (other == opposite lit)) right

-- Two clauses entail their resolvent on any literal.
abbrev pub ResolutionIsSound : Type 0
ResolutionIsSound = (lit : ℕ) (left right : List ℕ) →
    Entails (left ∷ right ∷ []) (resolvent lit left right)

-- A cube is false exactly where the clause of its negated literals is true.
abbrev pub CubeContradictsItsNegation : Type 0
CubeContradictsItsNegation = (values : List Bool) (cube : List ℕ) →
    clause_true values (map opposite cube) ≡ not (cube_true values cube)

-- Truth of a clause depends on which literals it has, and not on their order.
abbrev pub TruthSeesMembers : Type 0
TruthSeesMembers = (values : List Bool) (clause other : List ℕ) →
    All (Contains other) clause → IsTrue (clause_true values clause)
    → IsTrue (clause_true values other)

-- No query has both a model and a refuted part, so two right solvers never disagree.
abbrev pub OneAnswer : Type 0
OneAnswer = (clauses : List (List ℕ)) (cube : List ℕ) (values : List Bool) (part : List ℕ) →
    IsModelOf clauses cube values → ¬ IsRefutedPart clauses cube part

-- a strictly ascending clause over variables 1 to the bound that is no tautology
pub record IsProperClause (variables : ℕ) (clause : List ℕ) : Type 0 where
  pub ascending : IsTrue (is_ascending clause)
  pub within : All (λ lit. (2 ≤ lit) × (variable lit ≤ variables)) clause
  pub proper : ¬ IsTautology clause

-- There are at most 3^V clauses over V variables: each variable is there with one sign, with the
-- other, or not.
abbrev pub FewClauses : Type 0
FewClauses = (variables : ℕ) (clauses : List (List ℕ)) →
    All (IsProperClause variables) clauses →
    AllPairs (λ clause other. clause ≢ other) clauses → length clauses ≤ 3 ^ variables
