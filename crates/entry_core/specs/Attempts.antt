-- What a journal says of attempts: which were begun, which are open, which were spent.
use Rattle.std.specs.Prelude.{◌≡◌, ℕ, suc, Bool, false, not, ◌&&◌, ◌==◌, Option, None, Some, List}
use Rattle.std.specs.Prelude.{[], ◌∷◌, filter_map, count_by}
use Rattle.std.specs.List.{list_any}
use Rattle.trace_core.specs.Known.{item_at}
use Rattle.entry_core.specs.declared.entries.Entry.{Entry}
use Rattle.entry_core.specs.declared.entries.Event.{Event}
use Rattle.entry_core.specs.declared.entries.Event.TheVariants as event

pub record Attempt : Type 0 where
  pub number : ℕ
  pub worker : ℕ
  pub job : ℕ

abbrev pub begun_by : ℕ → Event → Option Attempt
begun_by caller (event.Began job attempt) =
    Some (record { number = attempt; worker = caller; job = job })
begun_by caller _ = None

-- The attempts that were begun, numbered from 1 in the order of their `Began` entries.
abbrev pub attempts : List Entry → List Attempt
attempts journal = filter_map (λ entry. begun_by entry.caller entry.event) journal

abbrev pub attempt : List Entry → ℕ → Option Attempt
attempt journal number = item_at (attempts journal) number

-- attempts whose numbers are their places, the first of them having this number
abbrev pub AreNumberedFrom : ℕ → List Attempt → Type 0
AreNumberedFrom number [] = Unit {0}
AreNumberedFrom number (attempt ∷ rest) =
    (attempt.number ≡ number) × AreNumberedFrom (suc number) rest

-- how many attempts at the job were begun
abbrev pub begun_attempts : List Entry → ℕ → ℕ
begun_attempts journal job = count_by (λ attempt. attempt.job == job) (attempts journal)

abbrev pub ended_by : Event → Option ℕ
ended_by (event.Spent number learnt) = Some number
ended_by (event.Dropped number) = Some number
ended_by (event.Decided number answer) = Some number
ended_by (event.Starved number) = Some number
ended_by _ = None

-- the numbers of the attempts that were ended
abbrev pub ended : List Entry → List ℕ
ended journal = filter_map (λ entry. ended_by entry.event) journal

-- An attempt is open from its `Began` entry up to the entry that ends it.
abbrev pub is_open : List Entry → Attempt → Bool
is_open journal attempt = not (list_any (λ number. number == attempt.number) (ended journal))

-- how many attempts at the job are open
abbrev pub open_attempts : List Entry → ℕ → ℕ
open_attempts journal job =
    count_by (λ attempt. attempt.job == job && is_open journal attempt) (attempts journal)

-- whether the attempt of that number is one at the job
abbrev pub is_at : ℕ → Option Attempt → Bool
is_at job None = false
is_at job (Some attempt) = attempt.job == job

abbrev pub is_attempt_at : List Entry → ℕ → ℕ → Bool
is_attempt_at journal job number = is_at job (attempt journal number)

abbrev pub spent_by : Event → Option ℕ
spent_by (event.Spent number learnt) = Some number
spent_by _ = None

-- how many attempts at the job used up their budget
abbrev pub spent_attempts : List Entry → ℕ → ℕ
spent_attempts journal job =
    count_by (is_attempt_at journal job) (filter_map (λ entry. spent_by entry.event) journal)
