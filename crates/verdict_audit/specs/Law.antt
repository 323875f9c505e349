-- What an accepted output shows is right, and an audit has one finding.
use Rattle.std.specs.Prelude.{ℕ, ◌≡◌, Bool, Option, Some, None, List, [], ◌∷◌}
use Rattle.sat_base.specs.Truth.{IsModelOf, IsRefutedPart}
use Rattle.line_tokens.specs.Token.{lines_of}
use Rattle.verdict_text.specs.Line.{job_line_of, model_line_of, part_line_of}
use Rattle.verdict_text.specs.declared.lines.JobLine.{JobLine}
use Rattle.verdict_text.specs.declared.lines.Status.{Status}
use Rattle.verdict_text.specs.declared.lines.Status.TheVariants as status
use Rattle.verdict_audit.specs.Audit.{Audits}
use Rattle.verdict_audit.specs.Case.{Case, case_of, clauses_of, cube_of}
use Rattle.verdict_audit.specs.declared.findings.Finding.{Finding}
use Rattle.verdict_audit.specs.declared.findings.Finding.TheVariants.{Good}

-- The line below a job's first line has a model of the job's clauses and cube, or a part of its
-- cube that its clauses refute. Other statuses have no answer.
abbrev pub IsAnswered : Case → Option ℕ → Status → List ℕ → Type 0
IsAnswered case number status.Satisfiable below =
    (job : ℕ) × (values : List Bool) × (number ≡ Some job) × (model_line_of below ≡ Some values)
    × IsModelOf (clauses_of case job) (cube_of case job) values
IsAnswered case number status.Unsatisfiable below =
    (job : ℕ) × (part : List ℕ) × (number ≡ Some job) × (part_line_of below ≡ Some part)
    × IsRefutedPart (clauses_of case job) (cube_of case job) part
IsAnswered case number _ below = Unit {0}

abbrev pub IsRightBelow : Case → Option JobLine → List ℕ → Type 0
IsRightBelow case None below = Unit {0}
IsRightBelow case (Some line) below = IsAnswered case line.number line.status below

-- the line below each first line of a block has a right answer
abbrev pub AreRight : Case → List (List ℕ) → Type 0
AreRight case [] = Unit {0}
AreRight case (line ∷ []) = Unit {0}
AreRight case (line ∷ below ∷ lines) =
    IsRightBelow case (job_line_of line) below × AreRight case (below ∷ lines)

-- Each model and each refuted part of an accepted output is right.
abbrev pub AcceptedIsRight : Type 0
AcceptedIsRight =
    (text output : List ℕ) (proved unproved : ℕ) → Audits text output (Good proved unproved)
    → AreRight (case_of text) (lines_of output)

-- For a text and an output nothing but one finding is what their audit finds.
abbrev pub HasOneFinding : Type 0
HasOneFinding =
    (text output : List ℕ) (one other : Finding) → Audits text output one
    → Audits text output other → one ≡ other
