-- Who is settled, and with which verdict.
use Rattle.std.specs.Prelude.{ℕ, zero, suc, ◌+◌, Bool, true, false, ◌&&◌, ◌==◌, if◌then◌else◌}
use Rattle.std.specs.Prelude.{Option, None, Some, List, [], ◌∷◌, ◌++◌, filter_map, find, option_map}
use Rattle.std.specs.Prelude.{nat_le, nat_lt, is_some}
use Rattle.std.specs.List.{list_any}
use Rattle.std.specs.Arc.{arc_value}
use Rattle.std.specs.declared.sync.Arc.{Arc}
use Rattle.std.specs.declared.alloc.Global.{Global}
use Rattle.entry_core.specs.declared.answers.Answer.{Answer}
use Rattle.entry_core.specs.declared.answers.Answer.TheVariants as answer
use Rattle.entry_core.specs.declared.answers.Verdict.{Verdict}
use Rattle.entry_core.specs.declared.answers.Verdict.TheVariants as verdict
use Rattle.entry_core.specs.declared.entries.Entry.{Entry}
use Rattle.entry_core.specs.declared.entries.Event.{Event}
use Rattle.entry_core.specs.declared.entries.Event.TheVariants as event
use Rattle.entry_core.specs.declared.rules.Rules.{Rules}
use Rattle.entry_core.specs.Journal.{jobs}
use Rattle.entry_core.specs.Attempts.{Attempt, attempt, is_attempt_at, spent_attempts}

-- an attempt and its answer
pub record Decision : Type 0 where
  pub number : ℕ
  pub given : Arc Answer Global

abbrev pub decision_of : Event → Option Decision
decision_of (event.Decided number given) = Some (record { number = number; given = given })
decision_of _ = None

abbrev pub decisions : List Entry → List Decision
decisions journal = filter_map (λ entry. decision_of entry.event) journal

abbrev pub cancelled_by : Event → Option ℕ
cancelled_by (event.Cancelled job) = Some job
cancelled_by _ = None

-- the jobs that clients cancelled
abbrev pub cancelled : List Entry → List ℕ
cancelled journal = filter_map (λ entry. cancelled_by entry.event) journal

abbrev pub starved_by : Event → Option ℕ
starved_by (event.Starved number) = Some number
starved_by _ = None

-- the attempts that found no memory
abbrev pub starved : List Entry → List ℕ
starved journal = filter_map (λ entry. starved_by entry.event) journal

abbrev pub is_model : Answer → Bool
is_model (answer.Model values) = true
is_model (answer.Refuted part steps) = false

abbrev pub job_of : Option Attempt → Option ℕ
job_of found = option_map (λ attempt. attempt.job) found

-- the jobs that were answered by a model, in the order of their `Decided` entries
abbrev pub satisfied : List Entry → List ℕ
satisfied journal =
    filter_map
    (λ decision. if is_model (arc_value decision.given)
    then job_of (attempt journal decision.number) else None) (decisions journal)

abbrev pub or_else : {X : Type 0} → Option X → Option X → Option X
or_else (Some x) other = Some x
or_else None other = other

abbrev pub given_if : Bool → Verdict → Option Verdict
given_if true verdict = Some verdict
given_if false verdict = None

-- the answer of the first attempt at the job that has one
abbrev pub answer_to : List Entry → ℕ → Option Verdict
answer_to journal job =
    option_map (λ decision. verdict.Answered decision.given)
    (find (λ decision. is_attempt_at journal job decision.number) (decisions journal))

-- under the rule `first`, the first model of a smaller job cancels each job that was added
abbrev pub overtaken : Rules → List Entry → ℕ → Option Verdict
overtaken rules journal job =
    if rules.first && nat_le job (jobs journal)
    then option_map (λ earlier. verdict.Cancelled earlier)
    (find (λ earlier. nat_lt earlier job) (satisfied journal))
    else None

-- The case that settles the job, if one stands: an answer, a cancel, as many spent attempts as it
-- may have, a starved attempt, or an earlier job's model.
abbrev pub standing : Rules → List Entry → ℕ → Option Verdict
standing rules journal job =
    or_else (answer_to journal job)
    (or_else
    (given_if (list_any (λ number. number == job) (cancelled journal)) (verdict.Cancelled 0))
    (or_else (given_if (nat_le rules.attempts (spent_attempts journal job)) verdict.Spent)
    (or_else (given_if (list_any (is_attempt_at journal job) (starved journal)) verdict.Starved)
    (overtaken rules journal job))))

-- the case that stands at the first of the places after these entries
abbrev pub settled_after : Rules → List Entry → List Entry → ℕ → Option Verdict
settled_after rules before [] job = None
settled_after rules before (entry ∷ rest) job =
    or_else (standing rules (before ++ entry ∷ []) job)
    (settled_after rules (before ++ entry ∷ []) rest job)

-- A job is settled at the first place up to which a case stands, with the verdict of that case.
abbrev pub settled : Rules → List Entry → ℕ → Option Verdict
settled rules journal job = settled_after rules [] journal job

-- how many of the jobs 1 to the number are settled
abbrev pub settled_up_to : Rules → List Entry → ℕ → ℕ
settled_up_to rules journal zero = 0
settled_up_to rules journal (suc job) =
    settled_up_to rules journal job + (if is_some (settled rules journal (suc job)) then 1 else 0)

abbrev pub settled_jobs : Rules → List Entry → ℕ
settled_jobs rules journal = settled_up_to rules journal (jobs journal)
