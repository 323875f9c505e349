-- Derivation of a clause by reverse unit propagation over hints, as in LRAT additions with positive
-- hints, in a strict form: each hint but the last has to add a literal, and each literal of the
-- clause has to stand in a hinted clause.
use Rattle.std.specs.Prelude.{◌≡◌, ◌≢◌, ℕ, ◌⊎◌, List, [], ◌∷◌, ◌++◌, map, length, Contains}
use Rattle.sat_base.specs.Lit.{opposite, IsTautology}

-- Under a set of literals that hold, a clause is falsified where each of its literals is false.
abbrev pub IsFalsified : List ℕ → List ℕ → Type 0
IsFalsified set clause = (lit : ℕ) → Contains clause lit → Contains set (opposite lit)

-- Under a set of literals that hold, a clause is unit where exactly one of its literals isn't
-- false, and that one doesn't hold yet.
pub record IsUnit (set clause : List ℕ) (lit : ℕ) : Type 0 where
  pub stands : Contains clause lit
  pub not_false : ¬ Contains set (opposite lit)
  pub not_true : ¬ Contains set lit
  pub others_false : (other : ℕ) → Contains clause other → other ≢ lit
      → Contains set (opposite other)

-- Unit propagation in the order of the hints: each but the last is unit and adds its literal, and
-- the last one is falsified.
abbrev pub ReachesConflict : List ℕ → List (List ℕ) → Type 0
ReachesConflict set [] = ⊥
ReachesConflict set (hint ∷ []) = IsFalsified set hint
ReachesConflict set (hint ∷ next ∷ hints) =
    (lit : ℕ) × IsUnit set hint lit × ReachesConflict (set ++ lit ∷ []) (next ∷ hints)

-- one of the clauses has the literal
abbrev pub StandsInOneOf : List (List ℕ) → ℕ → Type 0
StandsInOneOf clauses lit = (clause : List ℕ) × Contains clauses clause × Contains clause lit

-- The hinted clauses have each literal of the clause, and lead to a conflict from the negations.
abbrev pub Derive : List (List ℕ) → List ℕ → Type 0
Derive hinted clause = ((lit : ℕ) → Contains clause lit → StandsInOneOf hinted lit)
    × ReachesConflict (map opposite clause) hinted

-- the negations of the clause's literals lead to a conflict over the hinted clauses
pub record IsDerived (hinted : List (List ℕ)) (clause : List ℕ) : Type 0 where
  pub proper : ¬ IsTautology clause
  pub covered : (lit : ℕ) → Contains clause lit → StandsInOneOf hinted lit
  pub conflict : ReachesConflict (map opposite clause) hinted

-- the two literals of a variable, which need no hint
pub record IsExcludedMiddle (hinted : List (List ℕ)) (clause : List ℕ) : Type 0 where
  pub tautology : IsTautology clause
  pub two : length clause ≡ 2
  pub no_hint : length hinted ≡ 0

-- the hinted clauses, in their order, prove the clause
abbrev pub IsProved : List (List ℕ) → List ℕ → Type 0
IsProved hinted clause = IsExcludedMiddle hinted clause ⊎ IsDerived hinted clause
