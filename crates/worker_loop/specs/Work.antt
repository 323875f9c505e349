-- A worker on a service, from one hold to the next.
use Rattle.std.specs.Prelude.{◌≡◌, ◌⊎◌, ℕ, ◌≤◌, List, Option, None, IfSome, IsSome}
use Rattle.entry_core.specs.declared.entries.Entry.{Entry}
use Rattle.entry_core.specs.declared.entries.Event.{Event}
use Rattle.entry_core.specs.declared.entries.Event.TheVariants as event
use Rattle.entry_core.specs.declared.rules.Rules.{Rules}
use Rattle.entry_core.specs.Schedule.{IsNext}
use Rattle.entry_core.specs.Settled.{settled}
use Rattle.board_core.specs.State.{State}
use Rattle.board_core.specs.Replies.{IsDone, IsOwn, job_at}
use Rattle.board_core.specs.declared.task.Task.{Task}
use Rattle.board_core.specs.declared.task.Task.TheVariants as task
use Rattle.service.specs.Holds.{Looked, MadeEntry}
use Rattle.service.specs.Passes.{BoardLock, BoardPass, Keeps, board_of}
use Rattle.session.specs.Solver.{Solver}
use Rattle.worker_loop.specs.declared.bench.Bench.{Bench}
use Rattle.worker_loop.specs.declared.ends.End.{End}
use Rattle.worker_loop.specs.Attempts.{IsNewBench, event_of}
use Rattle.worker_loop.specs.Ends.{IsEnd}
use Rattle.worker_loop.specs.Kept.{KeepsLearnt}
use Rattle.worker_loop.specs.Rounds.{HasPursued}
use Rattle.worker_loop.specs.Slices.{GoesOnOpen, HasOpen}
use Rattle.worker_loop.specs.Working.{IsResting}

-- no attempt of the pass is open
abbrev pub Rests : BoardLock → BoardPass → Type 0
Rests lock pass = IsResting (board_of lock pass.seen) pass.number

-- The attempt of this number is open, at this job, and it is the only one of the pass.
pub record HasOnly (lock : BoardLock) (pass : BoardPass) (number job : ℕ) : Type 0 where
  pub at : HasOpen lock pass number job
  pub only : (other : ℕ) → IsOwn (board_of lock pass.seen) pass.number other → other ≡ number

-- what a pass that rested has taken: the next attempt, or none
abbrev pub HasTaken : BoardLock → BoardPass → Task → Type 0
HasTaken lock pass (task.Job job number) = HasOnly lock pass number job
HasTaken lock pass task.Done = Rests lock pass × IsDone (board_of lock pass.seen)
HasTaken lock pass task.Idle = Rests lock pass

-- one hold, which began the next attempt or added nothing
abbrev pub TakesInHold : BoardLock → BoardPass → BoardPass → Task → Type 0
TakesInHold lock old new (task.Job job number) = (shown : List Entry)
    × MadeEntry lock old new shown (event.Began job number) × IsNext lock.basis shown job
TakesInHold lock old new task.Done = Looked lock old new
TakesInHold lock old new task.Idle = Looked lock old new

-- The last hold of the pass added nothing.
pub record HasLookedLast (lock : BoardLock) (old new : BoardPass) : Type 0 where
  pub last : BoardPass
  pub keeps : Keeps lock old last
  pub looked : Looked lock last new

-- The attempt is an open one of the caller, and may end so.
pub record MayEnd (board : State) (caller number : ℕ) (end : Option End) : Type 0 where
  pub own : IsOwn board caller number
  pub right : IfSome end (IsEnd board.rules board.journal (job_at board number))

-- The attempt is the only open one of the pass, and may end so.
pub record MayEndWith (lock : BoardLock) (pass : BoardPass) (number : ℕ)
    (end : Option End) : Type 0 where
  pub job : ℕ
  pub only : HasOnly lock pass number job
  pub right : IfSome end (IsEnd lock.basis pass.seen job)

-- One hold, in which the attempt ended with this event, or with being dropped where its job was
-- settled already.
pub record EndsInHold (lock : BoardLock) (old new : BoardPass) (number : ℕ)
    (happened : Event) : Type 0 where
  pub shown : List Entry
  pub ended : MadeEntry lock old new shown happened
      ⊎ (IsSome (settled lock.basis shown (job_at (board_of lock shown) number))
      × MadeEntry lock old new shown (event.Dropped number))

-- What came of an attempt up to its last hold. There is no end only where its job is settled. A
-- spent list is exactly what was learnt since it began, at most as many clauses as the budget
-- allows. Nothing that was learnt before is lost, unless the session was past the job.
pub record IsPursued (rules : Rules) (seen : List Entry) (job : ℕ) (old new : Solver)
    (end : Option End) : Type 0 where
  pub overtaken : end ≡ None → IsSome (settled rules seen job)
  pub pursued : IfSome end (HasPursued old new job rules.conflicts)
  pub kept : old.bound ≤ job → KeepsLearnt old new

-- the attempt ended with what it found up to this state of the pass
pub record HasFound (lock : BoardLock) (last new : BoardPass) (number job : ℕ)
    (bench bench' : Bench) : Type 0 where
  pub end : Option End
  pub ended : EndsInHold lock last new number (event_of number end)
  pub is : IsPursued lock.basis last.seen job bench.session.solver bench'.session.solver end

-- The attempt ended in the last hold: with what it found; or it starved, and the bench is a new
-- one.
pub record HasTried (lock : BoardLock) (old new : BoardPass) (number job : ℕ)
    (bench bench' : Bench) : Type 0 where
  pub last : BoardPass
  pub on : GoesOnOpen lock old last number job
  pub made : HasFound lock last new number job bench bench'
      ⊎ (EndsInHold lock last new number (event.Starved number) × IsNewBench bench')
