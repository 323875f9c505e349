-- What an audit keeps of a text.
use Rattle.std.specs.Prelude.{ℕ, ◌≡◌, ◌≤◌, List, [], ◌++◌, map, length, take, All}
use Rattle.sat_base.specs.Limits.{most_clauses}
use Rattle.sat_base.specs.Lit.{greatest_of_all, variables}
use Rattle.trace_core.specs.Checked.{Checked}
use Rattle.verdict_audit.specs.Case.{Case, Query, known_of_clause}
use Rattle.verdict_audit.specs.declared.taking.Job.{Job}

abbrev pub query_in : Job → Query
query_in job = record { inputs = job.inputs; cube = job.cube }

-- a job's clauses are among these, and its greatest variable is right
pub record IsJobOver (clauses : List (List ℕ)) (job : Job) : Type 0 where
  pub inputs : job.inputs ≤ length clauses
  pub greatest : job.variables ≡ variables (take job.inputs clauses) job.cube

pub record IsKept (clauses : List (List ℕ)) (tags : List ℕ) (jobs : List Job) : Type 0 where
  pub ones : tags ≡ map (λ (clause : List ℕ). 1) clauses
  pub few : length clauses ≤ most_clauses
  pub each : All (IsJobOver clauses) jobs

pub record IsTaken (clauses : List (List ℕ)) (tags : List ℕ) (jobs : List Job)
    (greatest : ℕ) : Type 0 where
  pub kept : IsKept clauses tags jobs
  pub most : greatest ≡ greatest_of_all clauses

-- Between two blocks: a checker without steps, whose inputs are the first clauses of the text, as
-- many as some job had. The clauses of a later job begin with them.
pub record IsSpare (case : Case) (checker : Checked) : Type 0 where
  pub front : List (List ℕ)
  pub rest : List (List ℕ)
  pub split : case.clauses ≡ front ++ rest
  pub inputs : checker.inputs ≡ map known_of_clause front
  pub steps : checker.steps ≡ []
