-- When each reply comes.
use Rattle.std.specs.Prelude.{◌≡◌, ℕ, ◌+◌, ◌<◌, false, List, [], ◌∷◌, ◌++◌}
use Rattle.std.specs.Arc.{arc_value}
use Rattle.std.specs.declared.sync.Arc.{Arc}
use Rattle.std.specs.declared.alloc.Global.{Global}
use Rattle.entry_core.specs.declared.answers.Outcome.{Outcome}
use Rattle.entry_core.specs.declared.entries.Entry.{Entry}
use Rattle.entry_core.specs.declared.entries.Event.TheVariants as event
use Rattle.entry_core.specs.declared.segments.Segment.{Segment}
use Rattle.entry_core.specs.Journal.{jobs, is_closed}
use Rattle.turn_lock.specs.declared.view.Look.TheVariants.{Turn}
use Rattle.board_core.specs.State.{State}
use Rattle.board_core.specs.declared.faults.AddFault.{AddFault}
use Rattle.board_core.specs.declared.faults.AddFault.TheVariants as add
use Rattle.board_core.specs.Replies.{IsUnsettled, IsNoJob, HasOutcome, HasRoomFor}
use Rattle.board_core.specs.Replies.{IsAddFault}
use Rattle.service.specs.declared.faults.TryFault.{TryFault}
use Rattle.service.specs.declared.faults.TryFault.TheVariants as try
use Rattle.service.specs.Passes.{BoardLock, BoardPass, board_of}
use Rattle.service.specs.Holds.{IsHold, MadeEntry, Looked, LookedInVain}

-- One hold added the segment as the next job, for which there was room.
pub record HasAdded (lock : BoardLock) (before after : BoardPass) (segment : Segment)
    (job : ℕ) : Type 0 where
  pub shown : List Entry
  pub given : Arc Segment Global
  pub is : arc_value given ≡ segment
  pub entry : MadeEntry lock before after shown (event.Added given)
  pub number : job ≡ jobs shown + 1
  pub room : HasRoomFor (board_of lock shown) segment

-- Why a segment isn't added: the board refuses it, or there is no memory, which may be found before
-- the board is asked.
abbrev pub IsAddRefusal : State → Segment → AddFault → Type 0
IsAddRefusal board segment add.Memory = Unit {0}
IsAddRefusal board segment fault = IsAddFault board segment fault

-- One hold closed the input, which wasn't closed.
pub record HasClosed (lock : BoardLock) (before after : BoardPass) : Type 0 where
  pub shown : List Entry
  pub entry : MadeEntry lock before after shown event.Closed
  pub open_yet : is_closed shown ≡ false

-- One hold cancelled the job, which wasn't settled.
pub record HasCancelled (lock : BoardLock) (before after : BoardPass) (job : ℕ) : Type 0 where
  pub shown : List Entry
  pub entry : MadeEntry lock before after shown (event.Cancelled job)
  pub unsettled : IsUnsettled (board_of lock shown) job

-- After holds in vain, one showed the job settled with this outcome.
pub record HasWaited (lock : BoardLock) (before after : BoardPass) (job : ℕ)
    (outcome : Outcome) : Type 0 where
  pub looks : List BoardPass
  pub last : BoardPass
  pub in_vain : LookedInVain lock job before looks last
  pub look : Looked lock last after
  pub settled : HasOutcome (board_of lock after.seen) job outcome

-- One hold, got at the first try, added nothing.
abbrev pub LookedAtOnce : BoardLock → BoardPass → BoardPass → Type 0
LookedAtOnce lock before after = IsHold lock before after [] after.seen []

-- The one try found the turn taken by this number; or it got the turn, and the journal has no such
-- job, or has it unsettled.
abbrev pub IsTryFault : BoardLock → BoardPass → BoardPass → ℕ → TryFault → Type 0
IsTryFault lock before after job (try.Busy holder) =
    (0 < holder) × (after ≡ record before { looks = before.looks ++ Turn holder ∷ [] })
IsTryFault lock before after job (try.NoSuchJob number) =
    LookedAtOnce lock before after × IsNoJob (board_of lock after.seen) job number
IsTryFault lock before after job try.NotYet =
    LookedAtOnce lock before after × IsUnsettled (board_of lock after.seen) job
