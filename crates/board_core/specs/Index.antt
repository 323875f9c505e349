-- The index of a board: readings of the journal.
use Rattle.std.specs.Prelude.{◌≡◌, ℕ, ◌+◌, ◌-◌, ◌≤◌, Option, None, Some, IsSome}
use Rattle.std.specs.Prelude.{is_some, List, map, length, filter_map, count_by, All}
use Rattle.std.specs.Prelude.{slice_get, slice_index_or, option_and_then, if◌then◌else◌}
use Rattle.std.specs.Arc.{arc_value}
use Rattle.sat_base.specs.Limits.{most_jobs}
use Rattle.entry_core.specs.declared.answers.Verdict.{Verdict}
use Rattle.entry_core.specs.declared.answers.Verdict.TheVariants as verdict
use Rattle.entry_core.specs.declared.entries.Entry.{Entry}
use Rattle.entry_core.specs.declared.entries.Event.{Event}
use Rattle.entry_core.specs.declared.entries.Event.TheVariants as event
use Rattle.entry_core.specs.declared.rules.Rules.{Rules}
use Rattle.entry_core.specs.Journal.{segments, jobs, inputs, literals, packets, is_closed}
use Rattle.entry_core.specs.Journal.{closing_place}
use Rattle.entry_core.specs.Attempts.{attempts, ended, is_open, open_attempts, spent_by}
use Rattle.entry_core.specs.Attempts.{spent_attempts}
use Rattle.entry_core.specs.Settled.{decisions, starved, settled, settled_jobs}
use Rattle.board_core.specs.declared.index.Ending.{Ending}
use Rattle.board_core.specs.declared.index.Ending.TheVariants as ending
use Rattle.board_core.specs.declared.index.JobState.{JobState}
use Rattle.board_core.specs.declared.index.Attempted.{Attempted}
use Rattle.board_core.specs.declared.index.Index.{Index}
pub use Rattle.entry_core.specs.Attempts.{AreNumberedFrom}
pub use Rattle.board_core.specs.States.{new_job, or_new, state_at, rank_of, ranks_from}
use Rattle.board_core.specs.Overtaking.{IsModelsOf}

-- the answer of a `Decided` entry
abbrev pub answered_by : Event → Option Verdict
answered_by (event.Decided number given) = Some (verdict.Answered given)
answered_by _ = None

abbrev pub verdict_in : List Entry → Ending → Option Verdict
verdict_in journal (ending.Answered place) =
    option_and_then (λ entry. answered_by entry.event) (slice_get journal place)
verdict_in journal (ending.Cancelled by) = Some (verdict.Cancelled by)
verdict_in journal ending.Spent = Some verdict.Spent
verdict_in journal ending.Starved = Some verdict.Starved

-- whether and how a job was settled
abbrev pub IsEndingOf : List Entry → Option Ending → Option Verdict → Type 0
IsEndingOf journal None given = given ≡ None
IsEndingOf journal (Some how) given = IsSome given × (verdict_in journal how ≡ given)

-- the job of an attempt, and where it stands
abbrev pub attempted : Index → ℕ → Attempted
attempted index number =
    let job = slice_index_or index.attempts.items (number - 1) 0 in
    record { job = job; state = state_at index.jobs.items job }

-- an attempt that was begun, at a job that was added
pub record HasAttempt (index : Index) (number : ℕ) : Type 0 where
  pub from_one : 1 ≤ number
  pub begun : number ≤ length index.attempts.items
  pub job_from_one : 1 ≤ (attempted index number).job
  pub added : (attempted index number).job ≤ length index.jobs.items

-- a job with its rank, of whose attempts one may end
pub record MayEnd (index : Index) (job : ℕ) : Type 0 where
  pub from_one : 1 ≤ job
  pub added : job ≤ length index.jobs.items
  pub entered : length index.waiting ≡ length index.jobs.items
  pub opened : 1 ≤ index.open_now

-- what an index keeps beside jobs, ranks and open attempts
abbrev pub ended_at : Index → Index → Index
ended_at old new =
    record old { jobs = new.jobs; waiting = new.waiting; open_now = old.open_now - 1 }

pub record IsStateOf (rules : Rules) (journal : List Entry) (job : ℕ)
    (state : JobState) : Type 0 where
  pub open_now : state.open_now ≡ open_attempts journal job
  pub spent : state.spent ≡ spent_attempts journal job
  pub ending : IsEndingOf journal state.ending (settled rules journal job)

-- Attempts have their places as their numbers, and what is said of an attempt comes after it was
-- begun.
pub record IsOrderly (journal : List Entry) : Type 0 where
  pub numbered : AreNumberedFrom 1 (attempts journal)
  pub ended : All (λ number. number ≤ length (attempts journal)) (ended journal)
  pub spents : All (λ number. number ≤ length (attempts journal))
      (filter_map (λ entry. spent_by entry.event) journal)
  pub decided : All (λ decision. decision.number ≤ length (attempts journal)) (decisions journal)
  pub starved : All (λ number. number ≤ length (attempts journal)) (starved journal)

-- The index is what the journal says.
pub record IsIndexOf (rules : Rules) (journal : List Entry) (index : Index) : Type 0 where
  pub jobs : length index.jobs.items ≡ jobs journal
  pub states : (job : ℕ) → IsStateOf rules journal job (state_at index.jobs.items job)
  pub segments : map arc_value index.segments.items ≡ segments journal
  pub packets : map arc_value index.packets.items ≡ packets journal
  pub begun : map (λ attempt. attempt.job) (attempts journal) ≡ index.attempts.items
  pub place : index.closed ≡ closing_place journal
  pub closed : is_some index.closed ≡ is_closed journal
  pub clauses : index.clauses ≡ length (inputs journal)
  pub literals : index.literals ≡ literals journal
  pub settled : index.settled ≡ settled_jobs rules journal
  pub open_now : index.open_now ≡ count_by (is_open journal) (attempts journal)
  pub models : IsModelsOf rules journal index.models

-- the entries that may still come without memory: one for each unsettled job, each open attempt,
-- and the closing
abbrev pub room : Index → ℕ
room index =
    (length index.jobs.items - index.settled) + index.open_now +
    (if is_some index.closed then 0 else 1)

-- counts that can be added
pub record IsCountable (index : Index) : Type 0 where
  pub settled : index.settled ≤ length index.jobs.items
  pub jobs : length index.jobs.items ≤ most_jobs
  pub open_now : index.open_now ≤ 67108864
