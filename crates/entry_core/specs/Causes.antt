-- Why a job is settled as it is.
use Rattle.std.specs.Prelude.{◌≡◌, ◌⊎◌, ℕ, ◌<◌, ◌≤◌, Bool, true, if◌then◌else◌, Option, None, Some}
use Rattle.std.specs.Prelude.{List, length, filter_map, All, Contains, IsTrue}
use Rattle.std.specs.Arc.{arc_value}
use Rattle.sat_base.specs.Truth.{IsModelOf}
use Rattle.entry_core.specs.declared.answers.Verdict.{Verdict}
use Rattle.entry_core.specs.declared.answers.Verdict.TheVariants as verdict
use Rattle.entry_core.specs.declared.entries.Entry.{Entry}
use Rattle.entry_core.specs.declared.entries.Event.{Event}
use Rattle.entry_core.specs.declared.entries.Event.TheVariants as event
use Rattle.entry_core.specs.declared.rules.Rules.{Rules}
use Rattle.entry_core.specs.Journal.{clauses_of, cube_of}
use Rattle.entry_core.specs.Attempts.{is_attempt_at}
use Rattle.entry_core.specs.Settled.{cancelled, starved, satisfied}
use Rattle.entry_core.specs.Right.{IsRightAnswer, IsSpentFor}

-- the clauses of a `Spent` entry of an attempt at the job
abbrev pub spent_list_of : List Entry → ℕ → Event → Option (List (List ℕ))
spent_list_of journal job (event.Spent number learnt) =
    if is_attempt_at journal job number then Some (arc_value learnt) else None
spent_list_of journal job _ = None

-- the lists of clauses that attempts at the job used up their budget on, in order
abbrev pub spent_lists : List Entry → ℕ → List (List (List ℕ))
spent_lists journal job = filter_map (λ entry. spent_list_of journal job entry.event) journal

-- As many attempts as the job may have used up their budget, each of them on new clauses alone.
pub record IsUnknown (rules : Rules) (journal : List Entry) (job : ℕ) : Type 0 where
  pub enough : rules.attempts ≤ length (spent_lists journal job)
  pub each : All (IsSpentFor journal job rules.conflicts) (spent_lists journal job)

-- The rule is `first`, and an earlier job was answered by a model, which it has.
pub record IsOvertaken (rules : Rules) (journal : List Entry) (job by : ℕ) : Type 0 where
  pub first : rules.first ≡ true
  pub earlier : by < job
  pub answered : Contains (satisfied journal) by
  pub model : (values : List Bool) × IsModelOf (clauses_of journal by) (cube_of journal by) values

-- An attempt at the job found no memory.
pub record IsStarved (journal : List Entry) (job : ℕ) : Type 0 where
  pub number : ℕ
  pub starved_attempt : Contains (starved journal) number
  pub own : IsTrue (is_attempt_at journal job number)

-- Why a job is settled so: by a right answer; by a client's cancel, or by an earlier job's model;
-- by as many attempts as it may have, each of which used up its budget on new clauses alone; by an
-- attempt that found no memory.
abbrev pub HasCause : Rules → List Entry → ℕ → Verdict → Type 0
HasCause rules journal job (verdict.Answered answer) =
    IsRightAnswer rules.traces journal job (arc_value answer)
HasCause rules journal job (verdict.Cancelled by) =
    ((by ≡ 0) × Contains (cancelled journal) job) ⊎ IsOvertaken rules journal job by
HasCause rules journal job verdict.Spent = IsUnknown rules journal job
HasCause rules journal job verdict.Starved = IsStarved journal job
