-- How much any text states.
use Rattle.std.specs.Prelude.{ℕ, ◌≤◌, Bool, List, map, length, sum_by}
use Rattle.sat_base.specs.Limits.{most_clauses, most_jobs, most_literals}
use Rattle.icnf_text.specs.declared.statements.Numbered.{Numbered}
use Rattle.icnf_text.specs.declared.statements.Statement.{Statement}
use Rattle.icnf_text.specs.declared.statements.Statement.TheVariants.{Clause, Cube}
use Rattle.icnf_text.specs.Jobs.{clauses_of, jobs_of}
use Rattle.icnf_text.specs.Judgement.{statements}

-- how many literals a clause or a cube has
abbrev pub literals_in : Statement → ℕ
literals_in (Clause lits) = length lits
literals_in (Cube lits) = length lits

-- at most as many clauses, queries and literals as there may be
pub record IsWithinLimits (stated : List Statement) : Type 0 where
  pub clauses : length (clauses_of stated) ≤ most_clauses
  pub jobs : length (jobs_of stated) ≤ most_jobs
  pub literals : sum_by literals_in stated ≤ most_literals

-- What a text states before its first wrong place is within the limits, however the text goes on.
abbrev pub EachTextIsWithinLimits : Type 0
EachTextIsWithinLimits = (text : List ℕ) (ended : Bool) →
    IsWithinLimits (map (λ (numbered : Numbered). numbered.statement) (statements text ended))
