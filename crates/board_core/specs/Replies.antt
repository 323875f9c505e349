-- When a board gives each of its replies.
use Rattle.std.specs.Prelude.{true, Option, IsSome, ◌≡◌, ℕ, ◌+◌, ◌<◌, ◌≤◌, None, Some, length}
use Rattle.std.specs.Arc.{arc_value}
use Rattle.sat_base.specs.Limits.{most_clauses, most_jobs, most_literals, most_packets}
use Rattle.entry_core.specs.declared.answers.Outcome.{Outcome}
use Rattle.entry_core.specs.declared.answers.Verdict.{Verdict}
use Rattle.entry_core.specs.declared.answers.Verdict.TheVariants as verdict
use Rattle.entry_core.specs.declared.segments.Segment.{Segment}
use Rattle.entry_core.specs.Outcomes.{outcome_of}
use Rattle.entry_core.specs.Journal.{jobs, inputs, literals, segment_literals, packets, is_closed}
use Rattle.entry_core.specs.Journal.{closing_place}
use Rattle.entry_core.specs.declared.entries.Event.TheVariants as event
use Rattle.entry_core.specs.Attempts.{Attempt, attempts, attempt}
use Rattle.entry_core.specs.Settled.{settled}
use Rattle.entry_core.specs.Schedule.{IsWaiting, IsNext}
use Rattle.entry_core.specs.Legal.{IsRunning}
use Rattle.board_core.specs.declared.faults.LookFault.{LookFault}
use Rattle.board_core.specs.declared.faults.LookFault.TheVariants as look
use Rattle.board_core.specs.declared.faults.AskFault.{AskFault}
use Rattle.board_core.specs.declared.faults.AskFault.TheVariants as ask
use Rattle.board_core.specs.declared.faults.CancelFault.{CancelFault}
use Rattle.board_core.specs.declared.faults.CancelFault.TheVariants as cancel
use Rattle.board_core.specs.declared.faults.ShareFault.{ShareFault}
use Rattle.board_core.specs.declared.faults.ShareFault.TheVariants as share
use Rattle.board_core.specs.declared.faults.AddFault.{AddFault}
use Rattle.board_core.specs.declared.faults.AddFault.TheVariants as add
use Rattle.board_core.specs.declared.task.Task.{Task}
use Rattle.board_core.specs.declared.task.Task.TheVariants as task
use Rattle.board_core.specs.State.{State, entered}

-- a job of the board
pub record IsJob (board : State) (job : ℕ) : Type 0 where
  pub from_one : 1 ≤ job
  pub added : job ≤ jobs board.journal

-- a job that isn't settled
pub record IsUnsettled (board : State) (job : ℕ) : Type 0 where
  pub there : IsJob board job
  pub unsettled : settled board.rules board.journal job ≡ None

-- a settled job
pub record IsSettled (board : State) (job : ℕ) : Type 0 where
  pub there : IsJob board job
  pub settled_job : IsSome (settled board.rules board.journal job)

-- a settled job and the outcome of its verdict
pub record HasOutcome (board : State) (job : ℕ) (outcome : Outcome) : Type 0 where
  pub there : IsJob board job
  pub given : Verdict
  pub is : settled board.rules board.journal job ≡ Some given
  pub same : outcome ≡ outcome_of given

-- equal verdicts, where equal answers may lie at two places of memory
abbrev pub IsSame : Verdict → Verdict → Type 0
IsSame (verdict.Answered answer) (verdict.Answered other) = arc_value answer ≡ arc_value other
IsSame (verdict.Cancelled by) (verdict.Cancelled other) = by ≡ other
IsSame verdict.Spent verdict.Spent = Unit {0}
IsSame verdict.Starved verdict.Starved = Unit {0}
IsSame _ _ = ⊥

-- a settled job and its verdict
pub record HasVerdict (board : State) (job : ℕ) (copy : Verdict) : Type 0 where
  pub there : IsJob board job
  pub given : Verdict
  pub is : settled board.rules board.journal job ≡ Some given
  pub same : IsSame given copy

-- no job of the board, which has this number of them
pub record IsNoJob (board : State) (job number : ℕ) : Type 0 where
  pub missing : ¬ IsJob board job
  pub all : number ≡ jobs board.journal

abbrev pub IsLookFault : State → ℕ → LookFault → Type 0
IsLookFault board job (look.NoSuchJob number) = IsNoJob board job number
IsLookFault board job look.NotYet = IsUnsettled board job

abbrev pub IsAskFault : State → ℕ → AskFault → Type 0
IsAskFault board job (ask.NoSuchJob number) = IsNoJob board job number
IsAskFault board job ask.NotYet = IsUnsettled board job
IsAskFault board job ask.Memory = IsSettled board job

abbrev pub IsCancelFault : State → ℕ → CancelFault → Type 0
IsCancelFault board job (cancel.NoSuchJob number) = IsNoJob board job number
IsCancelFault board job (cancel.Settled outcome) = HasOutcome board job outcome

abbrev pub IsShareFault : State → ShareFault → Type 0
IsShareFault board share.Full = length (packets board.journal) ≡ most_packets
IsShareFault board share.Memory = length (packets board.journal) < most_packets

-- no job too many, no clause too many
pub record HasRoomForJob (board : State) : Type 0 where
  pub open_yet : closing_place board.journal ≡ None
  pub few_jobs : jobs board.journal < most_jobs

pub record HasRoomForClauses (board : State) (segment : Segment) : Type 0 where
  pub job : HasRoomForJob board
  pub few_clauses : length (inputs board.journal) + length segment.clauses ≤ most_clauses

pub record HasRoomFor (board : State) (segment : Segment) : Type 0 where
  pub clauses : HasRoomForClauses board segment
  pub few_literals : literals board.journal + segment_literals segment ≤ most_literals

-- Each refusal comes where those before it don't.
abbrev pub IsAddFault : State → Segment → AddFault → Type 0
IsAddFault board segment (add.Closed place) = closing_place board.journal ≡ Some place
IsAddFault board segment add.TooManyJobs =
    (closing_place board.journal ≡ None) × (jobs board.journal ≡ most_jobs)
IsAddFault board segment add.TooManyClauses =
    HasRoomForJob board × (most_clauses < length (inputs board.journal) + length segment.clauses)
IsAddFault board segment add.TooManyLiterals =
    HasRoomForClauses board segment
    × (most_literals < literals board.journal + segment_literals segment)
IsAddFault board segment add.Memory = HasRoomFor board segment

-- the job of an attempt, 0 where there is none
abbrev pub job_in : Option Attempt → ℕ
job_in None = 0
job_in (Some attempt) = attempt.job

abbrev pub job_at : State → ℕ → ℕ
job_at board number = job_in (attempt board.journal number)

-- an open attempt that the caller began
pub record IsOwn (board : State) (caller number : ℕ) : Type 0 where
  pub begun : Attempt
  pub running : IsRunning board.journal caller number begun

-- the input is closed and every job settled
pub record IsDone (board : State) : Type 0 where
  pub closed : is_closed board.journal ≡ true
  pub settled_all : (job : ℕ) → IsJob board job → IsSome (settled board.rules board.journal job)

-- no job is to take, but there are or may come some that aren't settled
pub record IsIdle (board : State) : Type 0 where
  pub nobody : (job : ℕ) → ¬ IsWaiting board.rules board.journal job
  pub undone : ¬ IsDone board

-- the next attempt was begun, at the job to take
pub record IsBegun (old new : State) (caller job number : ℕ) : Type 0 where
  pub next : IsNext old.rules old.journal job
  pub numbered : number ≡ length (attempts old.journal) + 1
  pub adds : new ≡ entered old caller (event.Began job number)
  pub own : IsOwn new caller number

-- what is said where no job is to take
abbrev pub IsRest : State → Task → Type 0
IsRest board (task.Job job number) = ⊥
IsRest board task.Done = IsDone board
IsRest board task.Idle = IsIdle board

abbrev pub IsTask : State → State → ℕ → Task → Type 0
IsTask old new caller (task.Job job number) = IsBegun old new caller job number
IsTask old new caller task.Done = (new ≡ old) × IsDone old
IsTask old new caller task.Idle = (new ≡ old) × IsIdle old
