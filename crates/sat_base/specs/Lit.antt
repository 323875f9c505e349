-- Literals by their codes, and sets of literals.
-- The code is the one that MiniSat and AIGER use: 2v for the positive literal of variable v, 2v + 1
-- for the negative one.
use Rattle.std.specs.Prelude.{ℕ, ℤ, pos, negsuc, ◌+◌, ◌-◌, ◌*◌, ◌/◌, ◌%◌, ◌<◌, ◌≤◌, nat_lt, max}
use Rattle.std.specs.Prelude.{Bool, true, ◌==◌, ◌&&◌, if◌then◌else◌, IsTrue}
use Rattle.std.specs.Prelude.{List, [], ◌∷◌, All, Contains}
use Rattle.sat_base.specs.Limits.{greatest_variable}

-- the code of a whole number with a sign: DIMACS writes v for a positive literal, -v for a negative
-- one
abbrev pub code_of : ℤ → ℕ
code_of (pos v) = 2 * v
code_of (negsuc n) = 2 * n + 3

-- a code whose variable is 1 to the greatest variable
pub record IsLit (code : ℕ) : Type 0 where
  pub not_zero : 2 ≤ code
  pub within : code < 2 * greatest_variable + 2

abbrev pub variable : ℕ → ℕ
variable code = code / 2

abbrev pub is_negative : ℕ → Bool
is_negative code = code % 2 == 1

-- the literal of the other sign
abbrev pub opposite : ℕ → ℕ
opposite code = code + 1 - 2 * (code % 2)

-- each literal is greater than the one before it, the first one greater than the bound
abbrev pub ascends_above : ℕ → List ℕ → Bool
ascends_above bound [] = true
ascends_above bound (lit ∷ lits) = nat_lt bound lit && ascends_above lit lits

-- strictly ascending: by variable, the positive literal before the negative one
abbrev pub is_ascending : List ℕ → Bool
is_ascending lits = ascends_above 0 lits

-- a set of literals, in its one order
pub record IsLitSet (lits : List ℕ) : Type 0 where
  pub each : All IsLit lits
  pub ascending : IsTrue (is_ascending lits)

-- a literal put into a list that ascends strictly: it stands there once
abbrev pub put_in : ℕ → List ℕ → List ℕ
put_in lit [] = lit ∷ []
put_in lit (other ∷ lits) =
    if nat_lt lit other then lit ∷ other ∷ lits
    else (if lit == other then other ∷ lits else other ∷ put_in lit lits)

-- the same literals in strictly ascending order, each once
abbrev pub in_order : List ℕ → List ℕ
in_order [] = []
in_order (lit ∷ lits) = put_in lit (in_order lits)

-- both literals of one variable are there
pub record IsTautology (clause : List ℕ) : Type 0 where
  pub lit : ℕ
  pub has : Contains clause lit
  pub has_opposite : Contains clause (opposite lit)

-- the greatest variable, 0 if there is none
abbrev pub greatest_of : List ℕ → ℕ
greatest_of [] = 0
greatest_of (lit ∷ lits) = max (variable lit) (greatest_of lits)

abbrev pub greatest_of_all : List (List ℕ) → ℕ
greatest_of_all [] = 0
greatest_of_all (clause ∷ clauses) = max (greatest_of clause) (greatest_of_all clauses)

-- how many variables a query has: the greatest variable of its clauses and its cube
abbrev pub variables : List (List ℕ) → List ℕ → ℕ
variables clauses cube = max (greatest_of_all clauses) (greatest_of cube)
