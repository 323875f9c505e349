-- What a session is asked, and how an attempt at it ends: the question is a cube over the inputs
-- that are loaded.
use Rattle.std.specs.Prelude.{ℕ, Bool, List, map}
use Rattle.std.specs.Arc.{arc_value}
use Rattle.sat_base.specs.Lit.{variables}
use Rattle.sat_base.specs.Truth.{IsModelOf, IsRefutedPart}
use Rattle.trace_core.specs.Known.{Known, item_at, clause_of}
use Rattle.trace_core.specs.Trace.{known_of}
use Rattle.trace_core.specs.declared.derivation.Step.{Step}
use Rattle.entry_core.specs.Right.{HasTrace, IsSpent}
use Rattle.entry_core.specs.declared.answers.Answer.{Answer}
use Rattle.entry_core.specs.declared.answers.Answer.TheVariants as answer
use Rattle.session.specs.Solver.{clauses_of}
use Rattle.worker_loop.specs.declared.ends.End.{End}
use Rattle.worker_loop.specs.declared.ends.End.TheVariants.{Answered, Spent}

-- the clauses of the own steps of these numbers, counted from 1
abbrev pub clause_at : List Step → ℕ → List ℕ
clause_at steps number = clause_of (item_at (map known_of steps) number)

abbrev pub clauses_at : List Step → List ℕ → List (List ℕ)
clauses_at steps numbers = map (clause_at steps) numbers

-- a model, or a refuted part of the cube that has a trace from the inputs, which is kept or not
abbrev pub IsRightOver : Bool → List Known → List ℕ → Answer → Type 0
IsRightOver traces inputs cube (answer.Model values) = IsModelOf (clauses_of inputs) cube values
IsRightOver traces inputs cube (answer.Refuted part steps) =
    IsRefutedPart (clauses_of inputs) cube part × HasTrace traces inputs part steps

-- a right answer, or a list of clauses on which the budget was used up
abbrev pub IsEndOver : Bool → List Known → List ℕ → ℕ → End → Type 0
IsEndOver traces inputs cube budget (Answered answer) =
    IsRightOver traces inputs cube (arc_value answer)
IsEndOver traces inputs cube budget (Spent learnt) =
    IsSpent (clauses_of inputs) (variables (clauses_of inputs) cube) budget (arc_value learnt)
