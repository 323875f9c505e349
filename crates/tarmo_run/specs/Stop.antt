-- Why writing the blocks of jobs stopped.
use Rattle.std.specs.Prelude.{◌≡◌, ℕ, ◌<◌, ◌≤◌, ◌⊎◌}
use Rattle.run_io.specs.Fault.{last_count}
use Rattle.tarmo_run.specs.declared.writer.Halt.{Halt}
use Rattle.tarmo_run.specs.declared.writer.Halt.TheVariants.{Unwritten, Memory}

-- the count of faults rose, or it stands at its last number
pub record HasRisen (before now : ℕ) : Type 0 where
  pub later : before ≤ now
  pub risen : (before < now) ⊎ (now ≡ last_count)

-- a fault of the sink is counted, and want of memory leaves the count
abbrev pub IsHalt : Halt → ℕ → ℕ → Type 0
IsHalt Unwritten before now = HasRisen before now
IsHalt Memory before now = now ≡ before
