-- The assignment that a trail gives.
use Rattle.std.specs.Prelude.{◌≡◌, ℕ, ◌≤◌, Bool, List, length, Contains, IsTrue}
use Rattle.sat_base.specs.Lit.{IsLit, variable}
use Rattle.sat_base.specs.Truth.{lit_true}

-- so many values, under which each literal of the trail over these variables is true
pub record IsAssignmentOf (trues : List ℕ) (vars : ℕ) (values : List Bool) : Type 0 where
  pub size : length values ≡ vars
  pub agrees : (lit : ℕ) → IsLit lit → variable lit ≤ vars → Contains trues lit
      → IsTrue (lit_true values lit)
