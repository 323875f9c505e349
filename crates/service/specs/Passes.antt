-- What the passes of a service know of its board.
use Rattle.std.specs.Prelude.{◌≡◌, ℕ, true, List}
use Rattle.entry_core.specs.declared.entries.Entry.{Entry}
use Rattle.entry_core.specs.declared.rules.Rules.{Rules}
use Rattle.entry_core.specs.Settled.{settled_jobs}
use Rattle.entry_core.specs.Legal.{IsClient, IsWorker}
use Rattle.turn_lock.specs.Entries.{StartsWith}
use Rattle.turn_lock.specs.Passes.{LockView, PassView, IsOf, AgreesWith}
use Rattle.board_core.specs.State.{State}

abbrev pub BoardLock : Type 0
BoardLock = LockView Rules

abbrev pub BoardPass : Type 0
BoardPass = PassView Entry Rules

abbrev pub journal_of : State → List Entry
journal_of board = board.journal

abbrev pub caller_of : Entry → ℕ
caller_of entry = entry.caller

abbrev pub settled_in : State → ℕ
settled_in board = settled_jobs board.rules board.journal

-- the board of a lock when it has this journal
abbrev pub board_of : BoardLock → List Entry → State
board_of lock journal = record { rules = lock.basis; journal = journal }

-- a pass that was made with the lock, and has no hold
pub record IsReady (lock : BoardLock) (pass : BoardPass) : Type 0 where
  pub of_lock : IsOf lock pass
  pub idle : pass.idle ≡ true

-- the pass of a client, or of a worker
abbrev pub IsClientPass : BoardLock → BoardPass → Type 0
IsClientPass lock pass = IsClient lock.basis pass.number

abbrev pub IsWorkerPass : BoardLock → BoardPass → Type 0
IsWorkerPass lock pass = IsWorker lock.basis pass.number

-- All that a pass knows is true of a board: the board's journal begins with the entries seen, those
-- of the pass's number are its own, and no fewer jobs are settled than its floor says.
abbrev pub Knows : BoardPass → State → Type 0
Knows pass board = AgreesWith journal_of caller_of settled_in pass board

-- From one state of a pass to a later one: it is of the same caller, has no hold, and has seen what
-- it had seen.
pub record Keeps (lock : BoardLock) (before after : BoardPass) : Type 0 where
  pub ready : IsReady lock after
  pub number : after.number ≡ before.number
  pub later : StartsWith after.seen before.seen
