-- The scheduling rule: which job a worker is to take.
use Rattle.std.specs.Prelude.{◌≡◌, ◌⊎◌, ℕ, ◌+◌, ◌<◌, ◌≤◌, None, List}
use Rattle.entry_core.specs.declared.entries.Entry.{Entry}
use Rattle.entry_core.specs.declared.rules.Rules.{Rules}
use Rattle.entry_core.specs.Journal.{jobs}
use Rattle.entry_core.specs.Attempts.{open_attempts, spent_attempts}
use Rattle.entry_core.specs.Settled.{settled}

-- an unsettled job whose open and spent attempts are fewer than it may have
pub record IsWaiting (rules : Rules) (journal : List Entry) (job : ℕ) : Type 0 where
  pub from_one : 1 ≤ job
  pub added : job ≤ jobs journal
  pub unsettled : settled rules journal job ≡ None
  pub allowed : open_attempts journal job + spent_attempts journal job < rules.attempts

-- fewer open attempts, and with as many the smaller number
abbrev pub GoesBefore : List Entry → ℕ → ℕ → Type 0
GoesBefore journal job other =
    (open_attempts journal job < open_attempts journal other)
    ⊎ ((open_attempts journal job ≡ open_attempts journal other) × (job ≤ other))

-- the job to take: the waiting one that goes before all others
pub record IsNext (rules : Rules) (journal : List Entry) (job : ℕ) : Type 0 where
  pub waiting : IsWaiting rules journal job
  pub first : (other : ℕ) → IsWaiting rules journal other → GoesBefore journal job other
