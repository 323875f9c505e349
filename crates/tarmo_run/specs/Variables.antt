-- The limit on variables.
use Rattle.std.specs.Prelude.{◌≤◌, ℕ, List}
use Rattle.sat_base.specs.Lit.{greatest_of_all}

-- no variable of the clauses is above 8,388,607, the greatest one that a literal may have
abbrev pub AreWithinVariables : List (List ℕ) → Type 0
AreWithinVariables clauses = greatest_of_all clauses ≤ 8388607
