-- The text of statements, one on each line.
use Rattle.std.specs.Prelude.{ℕ, ◌≤◌, if◌then◌else◌, not, List, [], ◌++◌, length, codes, count_by}
use Rattle.std.specs.Prelude.{sum_by, decimal}
use Rattle.std.specs.List.{flat_map}
use Rattle.sat_base.specs.Limits.{most_clauses, most_jobs, most_literals}
use Rattle.sat_base.specs.Lit.{variable, is_negative}
use Rattle.icnf_text.specs.declared.statements.Statement.{Statement}
use Rattle.icnf_text.specs.declared.statements.Statement.TheVariants.{Clause, Cube}
use Rattle.icnf_text.specs.Judgement.{is_clause}

-- the number that a literal's code stands for
abbrev pub number_text : ℕ → List ℕ
number_text lit = (if is_negative lit then codes "-" else []) ++ decimal (variable lit)

abbrev pub lits_text : List ℕ → List ℕ
lits_text lits = flat_map (λ lit. number_text lit ++ codes " ") lits ++ codes "0\n"

abbrev pub statement_text : Statement → List ℕ
statement_text (Clause lits) = lits_text lits
statement_text (Cube lits) = codes "a " ++ lits_text lits

abbrev pub printed : List Statement → List ℕ
printed list = codes "p inccnf\n" ++ flat_map statement_text list

abbrev pub lits_in : Statement → List ℕ
lits_in (Clause lits) = lits
lits_in (Cube lits) = lits

-- as many as a text may have
pub record IsWithin (list : List Statement) : Type 0 where
  pub bytes : length (printed list) ≤ 4294967296
  pub clauses : count_by is_clause list ≤ most_clauses
  pub cubes : count_by (λ statement. not (is_clause statement)) list ≤ most_jobs
  pub literals : sum_by (λ statement. length (lits_in statement)) list ≤ most_literals
