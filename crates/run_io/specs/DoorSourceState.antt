-- A source in memory with doors before its second and third read.
use Rattle.std.specs.Prelude.{◌≡◌, ◌⊎◌, ℕ}
use Rattle.run_io.specs.MemorySourceState.{SourceState}

-- the bytes behind the doors, how many reads there were, and how many of them failed
pub record DoorSourceState : Type 0 where
  pub bytes : SourceState
  pub reads : ℕ
  pub faults : ℕ

-- A read of this number, counted from 1, has a door before it.
abbrev pub IsBehindDoor : ℕ → Type 0
IsBehindDoor read = (read ≡ 2) ⊎ (read ≡ 3)
