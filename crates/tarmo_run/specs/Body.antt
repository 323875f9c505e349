-- What stands above the last line of an output.
use Rattle.std.specs.Prelude.{◌≡◌, ◌≤◌, ◌++◌, ◌||◌, ℕ, zero, suc, Bool, true, false, if◌then◌else◌}
use Rattle.std.specs.Prelude.{Option, Some, List, [], codes, length, not}
use Rattle.std.specs.Fmt.{decimal}
use Rattle.std.specs.Arc.{arc_value}
use Rattle.entry_core.specs.declared.answers.Verdict.{Verdict}
use Rattle.entry_core.specs.declared.answers.Verdict.TheVariants as verdict
use Rattle.entry_core.specs.declared.answers.Outcome.{Outcome}
use Rattle.entry_core.specs.declared.answers.Outcome.TheVariants as outcome
use Rattle.entry_core.specs.Journal.{inputs_of, jobs}
use Rattle.entry_core.specs.Settled.{is_model, settled}
use Rattle.board_core.specs.State.{State}
use Rattle.tarmo_run.specs.declared.summary.Kind.{Kind}
use Rattle.tarmo_run.specs.declared.summary.Kind.TheVariants as kinds

-- the blocks of the jobs, with the traces of refuted parts or without; or the summary of the run
-- over a number's text
pub data Body : Type 0 where
  OfBlocks : Bool → Body
  OfSummary : ℕ → Body

-- ---- the summary

abbrev pub is_satisfiable : Option Verdict → Bool
is_satisfiable (Some (verdict.Answered given)) = is_model (arc_value given)
is_satisfiable _ = false

abbrev pub is_unsatisfiable : Option Verdict → Bool
is_unsatisfiable (Some (verdict.Answered given)) = not (is_model (arc_value given))
is_unsatisfiable _ = false

abbrev pub is_given_up : Option Verdict → Bool
is_given_up (Some verdict.Spent) = true
is_given_up _ = false

abbrev pub is_cancelled : Option Verdict → Bool
is_cancelled (Some (verdict.Cancelled by)) = true
is_cancelled _ = false

abbrev pub is_without_memory : Option Verdict → Bool
is_without_memory (Some verdict.Starved) = true
is_without_memory _ = false

-- whether a verdict is of the kind
abbrev pub is_of : Kind → Option Verdict → Bool
is_of kinds.Satisfiable = is_satisfiable
is_of kinds.Unsatisfiable = is_unsatisfiable
is_of kinds.Unknown = is_given_up
is_of kinds.Cancelled = is_cancelled
is_of kinds.NoMemory = is_without_memory

-- the same of an outcome
abbrev pub is_shown_by : Kind → Outcome → Bool
is_shown_by kinds.Satisfiable outcome.Model = true
is_shown_by kinds.Satisfiable _ = false
is_shown_by kinds.Unsatisfiable outcome.Refuted = true
is_shown_by kinds.Unsatisfiable _ = false
is_shown_by kinds.Unknown outcome.Spent = true
is_shown_by kinds.Unknown _ = false
is_shown_by kinds.Cancelled (outcome.Cancelled by) = true
is_shown_by kinds.Cancelled _ = false
is_shown_by kinds.NoMemory outcome.Starved = true
is_shown_by kinds.NoMemory _ = false

-- how many of the jobs from 1 to the number have such a verdict
abbrev pub count_of : (Option Verdict → Bool) → State → ℕ → ℕ
count_of kind board zero = 0
count_of kind board (suc job) = if kind (settled board.rules board.journal (suc job))
    then suc (count_of kind board job) else count_of kind board job

-- how many of the board's jobs have a verdict of the kind
abbrev pub number_of : Kind → State → ℕ
number_of kind board = count_of (is_of kind) board (jobs board.journal)

-- how many clauses the board's jobs have together
abbrev pub clause_count : State → ℕ
clause_count board = length (inputs_of board.journal (jobs board.journal))

-- a word and a number, on a line
abbrev pub numbered_line : List ℕ → ℕ → List ℕ
numbered_line word number = word ++ codes " " ++ decimal number ++ codes "\n"

-- the summary of a board over a number's text
abbrev pub summary_of : ℕ → State → List ℕ
summary_of number board = numbered_line (codes "sum") number
    ++ numbered_line (codes "clauses") (clause_count board)
    ++ numbered_line (codes "jobs") (jobs board.journal)
    ++ numbered_line (codes "satisfiable") (number_of kinds.Satisfiable board)
    ++ numbered_line (codes "unsatisfiable") (number_of kinds.Unsatisfiable board)
    ++ numbered_line (codes "unknown") (number_of kinds.Unknown board)
    ++ numbered_line (codes "cancelled") (number_of kinds.Cancelled board)
    ++ numbered_line (codes "nomemory") (number_of kinds.NoMemory board)
