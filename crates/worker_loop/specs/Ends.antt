-- How attempts at a job end.
use Rattle.std.specs.Prelude.{ℕ, List}
use Rattle.std.specs.Arc.{arc_value}
use Rattle.entry_core.specs.declared.entries.Entry.{Entry}
use Rattle.entry_core.specs.declared.rules.Rules.{Rules}
use Rattle.entry_core.specs.Right.{IsRightAnswer, IsSpentFor}
use Rattle.worker_loop.specs.declared.ends.End.{End}
use Rattle.worker_loop.specs.declared.ends.End.TheVariants.{Answered, Spent}

-- a right answer, or a list of clauses on which the budget was used up
abbrev pub IsEnd : Rules → List Entry → ℕ → End → Type 0
IsEnd rules journal job (Answered answer) =
    IsRightAnswer rules.traces journal job (arc_value answer)
IsEnd rules journal job (Spent learnt) = IsSpentFor journal job rules.conflicts (arc_value learnt)
