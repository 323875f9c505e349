-- What entries behind those of a board leave as it is.
use Rattle.std.specs.Prelude.{◌≡◌, ℕ, List, ◌++◌}
use Rattle.entry_core.specs.declared.entries.Entry.{Entry}
use Rattle.entry_core.specs.Journal.{segments}
use Rattle.entry_core.specs.Settled.{cancelled}
use Rattle.board_core.specs.State.{State}
use Rattle.worker_loop.specs.Working.{IsResting}

-- the board with entries behind its own
pub record IsLonger (old new : State) : Type 0 where
  pub rules : new.rules ≡ old.rules
  pub more : List Entry
  pub is : new.journal ≡ old.journal ++ more

-- the board with entries behind its own that add no job
pub record HasNoJobMore (old new : State) : Type 0 where
  pub longer : IsLonger old new
  pub segments : segments new.journal ≡ segments old.journal

-- nobody has an open attempt
abbrev pub AllRest : State → Type 0
AllRest board = (caller : ℕ) → IsResting board caller

-- who has no open attempt before has none after
abbrev pub StayResting : State → State → Type 0
StayResting old new = (caller : ℕ) → IsResting old caller → IsResting new caller

-- the board with entries behind its own that cancel no job, and begin and end no attempt
pub record HasJobsMore (old new : State) : Type 0 where
  pub longer : IsLonger old new
  pub none_cancelled : cancelled new.journal ≡ cancelled old.journal
  pub resting : StayResting old new
