-- Looks at single jobs.
use Rattle.std.proofs.Common.{◌≡◌, ℕ, ◌-◌, ◌≤◌, Option, Some, None, List, length, refl, subst, arith}
use Rattle.std.specs.Prelude.{IsSome}
use Rattle.std.proofs.lemmas.Option.{slice_get_within}
use Rattle.trace_core.specs.Known.{item_at}
use Rattle.entry_core.specs.declared.answers.Outcome.{Outcome}
use Rattle.entry_core.specs.declared.answers.Verdict.{Verdict}
use Rattle.entry_core.specs.Outcomes.{outcome_of}
use Rattle.entry_core.specs.Settled.{settled}
use Rattle.entry_core.proofs.Inputs.{item_found}
use Rattle.board_core.specs.declared.board.Board.TheInside.{Inside}
use Rattle.board_core.specs.declared.index.Ending.{Ending}
use Rattle.board_core.specs.declared.index.JobState.{JobState}
use Rattle.board_core.specs.Index.{or_new, verdict_in, IsEndingOf, IsStateOf}
use Rattle.board_core.specs.Kept.{state_of, IsKept}
use Rattle.board_core.specs.Replies.{IsJob, HasOutcome, HasVerdict, IsSame}

-- an item stands at a place from 1 to the length
pub item_place : {X : Type 0} (items : List X) (place : ℕ) (item : X) →
    item_at items place ≡ Some item → (1 ≤ place) × (place ≤ length items)
item_place items place item is =
    let at = item_found items place item is in
    let lt = slice_get_within items (place - 1) item at.1 in
    let from = at.0 in
    (omega arith, omega arith)

pub job_there : (a : Inside) (job : ℕ) (state : JobState) → IsKept a → item_at a.index.jobs.items job ≡ Some state → IsJob (state_of a) job
job_there a job state kept is =
    let place = item_place a.index.jobs.items job state is in
    record { from_one = place.0; added = let e = kept.index.jobs in let le = place.1 in omega arith }

pub state_there : (a : Inside) (job : ℕ) (state : JobState) → IsKept a → item_at a.index.jobs.items job ≡ Some state → IsStateOf a.rules a.journal.items job state
state_there a job state kept is = subst (λ o. IsStateOf a.rules a.journal.items job (or_new o)) is (kept.index.states job)

-- the verdict of a job that was settled like this
pub given_there : (a : Inside) (job : ℕ) (state : JobState) (how : Ending) → IsKept a → item_at a.index.jobs.items job ≡ Some state → state.ending ≡ Some how
    → (given : Verdict) × (settled a.rules a.journal.items job ≡ Some given) × (verdict_in a.journal.items how ≡ Some given)
given_there a job state how kept is ends =
    found (settled a.rules a.journal.items job) refl (subst (λ o. IsEndingOf a.journal.items o (settled a.rules a.journal.items job)) ends (state_there a job state kept is).ending)
  where
    found : (o : Option Verdict) → settled a.rules a.journal.items job ≡ o → IsSome o × (verdict_in a.journal.items how ≡ o)
        → (given : Verdict) × (settled a.rules a.journal.items job ≡ Some given) × (verdict_in a.journal.items how ≡ Some given)
    found None same h = absurd (let some = h.0 in cc)
    found (Some given) same h = (given, same, h.1)

pub has_outcome : (a : Inside) (job : ℕ) (state : JobState) (how : Ending) (outcome : Outcome) → IsKept a → item_at a.index.jobs.items job ≡ Some state → state.ending ≡ Some how
    → ((given : Verdict) → verdict_in a.journal.items how ≡ Some given → outcome ≡ outcome_of given) → HasOutcome (state_of a) job outcome
has_outcome a job state how outcome kept is ends same =
    let found = given_there a job state how kept is ends in
    record { there = job_there a job state kept is; given = found.0; is = found.1; same = same found.0 found.2 }

pub has_verdict : (a : Inside) (job : ℕ) (state : JobState) (how : Ending) (copy : Verdict) → IsKept a → item_at a.index.jobs.items job ≡ Some state → state.ending ≡ Some how
    → ((given : Verdict) → verdict_in a.journal.items how ≡ Some given → IsSame given copy) → HasVerdict (state_of a) job copy
has_verdict a job state how copy kept is ends same =
    let found = given_there a job state how kept is ends in
    record { there = job_there a job state kept is; given = found.0; is = found.1; same = same found.0 found.2 }
