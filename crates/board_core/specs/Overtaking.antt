-- Models that cancel every later job: what a board keeps of them, and what one more changes.
use Rattle.std.specs.Prelude.{◌≡◌, ◌⊎◌, ℕ, zero, suc, ◌+◌, ◌<◌, ◌≤◌, true, if◌then◌else◌}
use Rattle.std.specs.Prelude.{Option, None, Some, is_some, List, [], ◌∷◌, length, Contains}
use Rattle.sat_base.specs.Limits.{most_jobs}
use Rattle.entry_core.specs.declared.entries.Entry.{Entry}
use Rattle.entry_core.specs.declared.rules.Rules.{Rules}
use Rattle.entry_core.specs.Journal.{jobs}
use Rattle.entry_core.specs.Settled.{satisfied}
use Rattle.board_core.specs.declared.index.Ending.{Ending}
use Rattle.board_core.specs.declared.index.Ending.TheVariants as ending
use Rattle.board_core.specs.declared.index.Index.{Index}
use Rattle.board_core.specs.declared.index.JobState.{JobState}
use Rattle.board_core.specs.declared.index.Models.{Models}
use Rattle.board_core.specs.States.{state_at, ranks_from}

-- what a board keeps of the models of its journal: the first and the last one's job
pub record HasModels (rules : Rules) (journal : List Entry) (models : Models) : Type 0 where
  pub rule : rules.first ≡ true
  pub later : List ℕ
  pub begins : satisfied journal ≡ models.first ∷ later
  pub added : models.first ≤ jobs journal
  pub last_added : models.last ≤ jobs journal
  pub has_last : Contains (satisfied journal) models.last

abbrev pub IsModelsOf : Rules → List Entry → Option Models → Type 0
IsModelsOf rules journal None = rules.first ≡ true → satisfied journal ≡ []
IsModelsOf rules journal (Some models) = HasModels rules journal models

-- how a job is settled that is added after these models
abbrev pub next_ending : Option Models → Option Ending
next_ending None = None
next_ending (Some models) = Some (ending.Cancelled models.first)

-- after which job each one is settled
abbrev pub last_of : Option Models → ℕ → ℕ
last_of None count = count
last_of (Some models) count = models.last

abbrev pub models_after : Option Models → ℕ → Models
models_after None by = record { first = by; last = by }
models_after (Some models) by = record { first = models.first; last = by }

-- a job that isn't settled is cancelled by an earlier one's model
abbrev pub overtaken_state : ℕ → JobState → JobState
overtaken_state by state =
    if is_some state.ending then state else record state { ending = Some (ending.Cancelled by) }

-- The jobs after `by` up to the last one are cancelled unless they are settled. The others stand as
-- they stood.
pub record AreOvertaken (by last : ℕ) (old new : List JobState) : Type 0 where
  pub same_number : length new ≡ length old
  pub later : (job : ℕ) → by < job → job ≤ last
      → state_at new job ≡ overtaken_state by (state_at old job)
  pub others : (job : ℕ) → (job ≤ by) ⊎ (last < job) → state_at new job ≡ state_at old job

-- how many of the first so many jobs are settled
abbrev pub ended_up_to : List JobState → ℕ → ℕ
ended_up_to states zero = 0
ended_up_to states (suc job) =
    ended_up_to states job + (if is_some (state_at states (suc job)).ending then 1 else 0)

-- a job whose model may cancel later ones
pub record MayOvertake (most : ℕ) (index : Index) (by : ℕ) : Type 0 where
  pub ranked : index.waiting ≡ ranks_from most 1 index.jobs.items
  pub few : length index.jobs.items ≤ most_jobs
  pub from : by ≤ last_of index.models (length index.jobs.items)
  pub there : last_of index.models (length index.jobs.items) ≤ length index.jobs.items
  pub settled : index.settled ≤ 4294967295

-- what an index keeps beside jobs, ranks and their number
abbrev pub overtaken_at : Index → Index → ℕ → Index
overtaken_at old new by = record old {
  jobs = new.jobs;
  waiting = new.waiting;
  settled = new.settled;
  models = Some (models_after old.models by);
}
