-- One attempt of a worker, and what is left to do after it.
use Rattle.std.specs.Prelude.{◌≡◌, ◌⊎◌, ℕ, zero, suc, ◌+◌, ◌-◌, ◌<◌, ◌≤◌, Option, None, Some}
use Rattle.std.specs.Prelude.{IsSome, is_some, if◌then◌else◌, List, [], length}
use Rattle.entry_core.specs.declared.entries.Entry.{Entry}
use Rattle.entry_core.specs.declared.entries.Event.{Event}
use Rattle.entry_core.specs.declared.entries.Event.TheVariants as event
use Rattle.entry_core.specs.declared.rules.Rules.{Rules}
use Rattle.entry_core.specs.Journal.{jobs}
use Rattle.entry_core.specs.Attempts.{ended_by, spent_attempts}
use Rattle.entry_core.specs.Schedule.{IsWaiting}
use Rattle.entry_core.specs.Settled.{settled, starved}
use Rattle.board_core.specs.State.{State, entered}
use Rattle.board_core.specs.Replies.{IsJob, IsOwn, job_at}
use Rattle.session.specs.Session.{no_inputs}
use Rattle.worker_loop.specs.declared.bench.Bench.{Bench}
use Rattle.worker_loop.specs.declared.ends.End.{End}
use Rattle.worker_loop.specs.declared.ends.End.TheVariants.{Answered, Spent}
use Rattle.worker_loop.specs.Fits.{Fits}
use Rattle.worker_loop.specs.Kept.{KeepsLearnt}
use Rattle.worker_loop.specs.Rounds.{HasPursued}
use Rattle.worker_loop.specs.Working.{HasAttemptsMore, IsResting}

-- an open attempt of the caller at this job of the board
pub record IsAt (board : State) (caller number job : ℕ) : Type 0 where
  pub own : IsOwn board caller number
  pub at_job : job_at board number ≡ job
  pub there : IsJob board job

-- The attempt ended with this event, or with being dropped where its job was settled already.
abbrev pub EndsBy : State → State → ℕ → ℕ → Event → Type 0
EndsBy old new caller number happened =
    (new ≡ entered old caller happened)
    ⊎ (IsSome (settled old.rules old.journal (job_at old number))
    × (new ≡ entered old caller (event.Dropped number)))

-- The attempt ended, and its job is settled now or has one spent attempt more.
pub record HasEnded (old new : State) (caller number job : ℕ) : Type 0 where
  pub happened : Event
  pub ends : ended_by happened ≡ Some number
  pub is : new ≡ entered old caller happened
  pub nearer : IsSome (settled new.rules new.journal job)
      ⊎ (spent_attempts new.journal job ≡ suc (spent_attempts old.journal job))

-- the event that ends an attempt in this way, or as starved where there is no end
abbrev pub event_of : ℕ → Option End → Event
event_of number None = event.Starved number
event_of number (Some (Answered answer)) = event.Decided number answer
event_of number (Some (Spent learnt)) = event.Spent number learnt

-- a bench that has read nothing, whose session has no clauses
pub record IsNewBench (bench : Bench) : Type 0 where
  pub session : bench.session.solver ≡ no_inputs
  pub packets : bench.packets.items ≡ []

-- The attempt ended with what it found, at its job. Nothing that was learnt before is lost, unless
-- the session was past the job, and no more was learnt than the budget allows.
pub record IsFoundAt (old new : State) (caller number job : ℕ) (bench bench' : Bench) : Type 0 where
  pub end : End
  pub ends : EndsBy old new caller number (event_of number (Some end))
  pub bound : bench'.session.solver.bound ≡ job
  pub pursued : HasPursued bench.session.solver bench'.session.solver job old.rules.conflicts end
  pub kept : bench.session.solver.bound ≤ job
      → KeepsLearnt bench.session.solver bench'.session.solver

-- The attempt ended with what it found; or it starved, and the bench is a new one.
abbrev pub HasMade : State → State → ℕ → ℕ → ℕ → Bench → Bench → Type 0
HasMade old new caller number job bench bench' =
    (IsFoundAt old new caller number job bench bench')
    ⊎ (EndsBy old new caller number (event.Starved number) × IsNewBench bench')

-- how many attempts at the job may still be spent
abbrev pub attempts_left : Rules → List Entry → ℕ → ℕ
attempts_left rules journal job = if is_some (settled rules journal job) then 0
    else rules.attempts - spent_attempts journal job

abbrev pub left_up_to : Rules → List Entry → ℕ → ℕ
left_up_to rules journal zero = 0
left_up_to rules journal (suc job) = left_up_to rules journal job
    + attempts_left rules journal (suc job)

-- how many attempts at all jobs may still be spent
abbrev pub left_on : State → ℕ
left_on board = left_up_to board.rules board.journal (jobs board.journal)

-- The session is at no job behind one that waits.
abbrev pub IsBeforeWaiting : Bench → State → Type 0
IsBeforeWaiting bench board = (job : ℕ) → IsWaiting board.rules board.journal job
    → bench.session.solver.bound ≤ job

-- Nothing that was learnt is lost, unless an attempt found no memory, and the session is at no job
-- behind one that waits.
pub record KeepsOn (old new : State) (bench bench' : Bench) : Type 0 where
  pub kept : KeepsLearnt bench.session.solver bench'.session.solver
      ⊎ (length (starved old.journal) < length (starved new.journal))
  pub before : IsBeforeWaiting bench' new

-- What stands between attempts: those so far, the worker's rest, and the bench.
pub record GoesOn (old new : State) (caller : ℕ) (first bench : Bench) : Type 0 where
  pub works : HasAttemptsMore old new caller
  pub resting : IsResting new caller
  pub fits : Fits bench new.journal
  pub kept : old.rules.workers ≡ 1 → IsBeforeWaiting first old → KeepsOn old new first bench
