-- The queries that statements put: each cube asks whether it can be true together with the clauses
-- before it.
use Rattle.std.specs.Prelude.{ℕ, List, [], ◌∷◌, ◌++◌}
use Rattle.icnf_text.specs.declared.statements.Statement.{Statement}
use Rattle.icnf_text.specs.declared.statements.Statement.TheVariants.{Clause, Cube}

-- a query: the clauses before a cube, in order, and the cube
pub record Job : Type 0 where
  pub clauses : List (List ℕ)
  pub cube : List ℕ

-- the queries of statements that follow these clauses
abbrev pub jobs_after : List (List ℕ) → List Statement → List Job
jobs_after clauses [] = []
jobs_after clauses (Clause clause ∷ statements) = jobs_after (clauses ++ clause ∷ []) statements
jobs_after clauses (Cube cube ∷ statements) = record { clauses = clauses; cube = cube }
    ∷ jobs_after clauses statements

-- one query for each cube, in order; clauses after the last cube belong to none
abbrev pub jobs_of : List Statement → List Job
jobs_of statements = jobs_after [] statements

-- the clauses that are known behind statements that follow these clauses
abbrev pub clauses_after : List (List ℕ) → List Statement → List (List ℕ)
clauses_after clauses [] = clauses
clauses_after clauses (Clause clause ∷ statements) =
    clauses_after (clauses ++ clause ∷ []) statements
clauses_after clauses (Cube cube ∷ statements) = clauses_after clauses statements

-- all clauses of statements, in order
abbrev pub clauses_of : List Statement → List (List ℕ)
clauses_of statements = clauses_after [] statements
