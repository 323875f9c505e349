-- What an audit takes from an iCNF text: its jobs, and the last line of a whole output.
use Rattle.std.specs.Prelude.{ℕ, ◌-◌, Option, Some, None, List, [], ◌∷◌, ◌++◌, map, length, take}
use Rattle.std.specs.Prelude.{codes, decimal, slice_index_or, true}
use Rattle.sat_base.specs.Lit.{variables}
use Rattle.icnf_text.specs.Judgement.{statements, wrong}
use Rattle.icnf_text.specs.Reasons.{reason_text}
use Rattle.icnf_text.specs.declared.faults.Fault.{Fault}
use Rattle.icnf_text.specs.declared.statements.Numbered.{Numbered}
use Rattle.icnf_text.specs.declared.statements.Statement.{Statement}
use Rattle.icnf_text.specs.declared.statements.Statement.TheVariants.{Clause, Cube}
use Rattle.trace_core.specs.Known.{Known}

-- a job: how many of the text's clauses stand before its cube, and the cube
pub record Query : Type 0 where
  pub inputs : ℕ
  pub cube : List ℕ

-- the clauses of a text, its jobs, and the last line of its whole output
pub record Case : Type 0 where
  pub clauses : List (List ℕ)
  pub queries : List Query
  pub last : List ℕ

abbrev pub clauses_after : List (List ℕ) → Statement → List (List ℕ)
clauses_after clauses (Clause clause) = clauses ++ clause ∷ []
clauses_after clauses (Cube cube) = clauses

abbrev pub queries_after : ℕ → List Query → Statement → List Query
queries_after inputs queries (Clause clause) = queries
queries_after inputs queries (Cube cube) = queries ++ record { inputs = inputs; cube = cube } ∷ []

-- the last line, without its line feed, of the output that has the blocks of so many jobs, and all
-- of them
abbrev pub last_line_of : Option Fault → ℕ → List ℕ
last_line_of None jobs = codes "end " ++ decimal jobs
last_line_of (Some fault) jobs =
    codes "refused " ++ decimal fault.line ++ codes " " ++ reason_text fault.reason

-- the clauses and jobs of statements behind these
abbrev pub case_after : Option Fault → List (List ℕ) → List Query → List Numbered → Case
case_after fault clauses queries [] = record {
  clauses = clauses;
  queries = queries;
  last = last_line_of fault (length queries);
}
case_after fault clauses queries (numbered ∷ rest) =
    case_after fault (clauses_after clauses numbered.statement)
    (queries_after (length clauses) queries numbered.statement) rest

abbrev pub case_of : List ℕ → Case
case_of text = case_after (wrong text true) [] [] (statements text true)

-- the job of this number, counted from 1
abbrev pub query_of : Case → ℕ → Query
query_of case job = slice_index_or case.queries (job - 1) (record { inputs = 0; cube = [] })

-- the clauses before its cube
abbrev pub clauses_of : Case → ℕ → List (List ℕ)
clauses_of case job = take (query_of case job).inputs case.clauses

abbrev pub cube_of : Case → ℕ → List ℕ
cube_of case job = (query_of case job).cube

abbrev pub variables_of : Case → ℕ → ℕ
variables_of case job = variables (clauses_of case job) (cube_of case job)

-- Its input clauses as a checker knows them. A text of steps has no tags, and what a step proves
-- doesn't depend on them: each input has the tag 1.
abbrev pub known_of_clause : List ℕ → Known
known_of_clause clause = record { clause = clause; tag = 1 }

abbrev pub inputs_of : Case → ℕ → List Known
inputs_of case job = map known_of_clause (clauses_of case job)
