-- Truth under an assignment, semantic consequence, and the right answers to a query.
use Rattle.std.specs.Prelude.{◌≡◌, ℕ, ◌-◌, Bool, false, not, if◌then◌else◌, IsTrue}
use Rattle.std.specs.Prelude.{List, map, length, All, Contains, slice_index_or}
use Rattle.std.specs.List.{list_any, list_all}
use Rattle.sat_base.specs.Lit.{variable, is_negative, opposite, variables}

-- An assignment is a finite list of truth values: variable v has item v, counted from 1, and is
-- false beyond the list.
abbrev pub value_of : List Bool → ℕ → Bool
value_of values var = slice_index_or values (var - 1) false

abbrev pub lit_true : List Bool → ℕ → Bool
lit_true values lit =
    if is_negative lit then not (value_of values (variable lit)) else value_of values (variable lit)

-- a clause is true where one of its literals is
abbrev pub clause_true : List Bool → List ℕ → Bool
clause_true values clause = list_any (lit_true values) clause

-- a cube is true where all of its literals are
abbrev pub cube_true : List Bool → List ℕ → Bool
cube_true values cube = list_all (lit_true values) cube

abbrev pub all_true : List Bool → List (List ℕ) → Bool
all_true values clauses = list_all (clause_true values) clauses

-- Semantic consequence: every assignment that makes all of the clauses true makes this one true.
abbrev pub Entails : List (List ℕ) → List ℕ → Type 0
Entails clauses clause =
    (values : List Bool) → IsTrue (all_true values clauses) → IsTrue (clause_true values clause)

-- a satisfying assignment of exactly the query's variables
pub record IsModelOf (clauses : List (List ℕ)) (cube : List ℕ) (values : List Bool) : Type 0 where
  pub size : length values ≡ variables clauses cube
  pub clauses_hold : IsTrue (all_true values clauses)
  pub cube_holds : IsTrue (cube_true values cube)

-- Failed assumptions: some of the cube's literals, of which the clauses entail that one is false.
pub record IsRefutedPart (clauses : List (List ℕ)) (cube part : List ℕ) : Type 0 where
  pub within : All (Contains cube) part
  pub refuted : Entails clauses (map opposite part)
