-- Legal journals: each entry is allowed after the entries before it.
use Rattle.std.specs.Prelude.{◌≡◌, ℕ, ◌+◌, ◌<◌, ◌≤◌, false, None, Some, IsSome, IsTrue, List, []}
use Rattle.std.specs.Prelude.{◌∷◌, ◌++◌, length, All}
use Rattle.std.specs.Arc.{arc_value}
use Rattle.sat_base.specs.Lit.{IsTautology, greatest_of, greatest_of_all}
use Rattle.trace_core.specs.Trace.{AreOkSteps}
use Rattle.trace_core.specs.declared.derivation.Step.{Step}
use Rattle.entry_core.specs.declared.segments.Segment.{Segment}
use Rattle.entry_core.specs.declared.answers.Answer.{Answer}
use Rattle.entry_core.specs.declared.entries.Entry.{Entry}
use Rattle.entry_core.specs.declared.entries.Event.{Event}
use Rattle.entry_core.specs.declared.entries.Event.TheVariants as event
use Rattle.entry_core.specs.declared.rules.Rules.{Rules}
use Rattle.entry_core.specs.Journal.{jobs, inputs, inputs_of, clauses_of, literals}
use Rattle.entry_core.specs.Journal.{segment_literals, packets, shared, is_closed}
use Rattle.entry_core.specs.Attempts.{Attempt, attempts, attempt, is_open}
use Rattle.entry_core.specs.Settled.{settled}
use Rattle.entry_core.specs.Schedule.{IsNext}
use Rattle.entry_core.specs.Right.{IsRightAnswer, IsSpentFor}

-- rules within their limits
pub record AreWithinLimits (rules : Rules) : Type 0 where
  pub some_client : 1 ≤ rules.clients
  pub few_clients : rules.clients ≤ 16
  pub some_worker : 1 ≤ rules.workers
  pub few_workers : rules.workers ≤ 64
  pub some_attempt : 1 ≤ rules.attempts
  pub few_attempts : rules.attempts ≤ 64
  pub some_conflict : 1 ≤ rules.conflicts

abbrev pub IsClient : Rules → ℕ → Type 0
IsClient rules caller = (1 ≤ caller) × (caller ≤ rules.clients)

-- the callers after the clients
abbrev pub IsWorker : Rules → ℕ → Type 0
IsWorker rules caller = (rules.clients < caller) × (caller ≤ rules.clients + rules.workers)

pub record MayAdd (rules : Rules) (before : List Entry) (caller : ℕ)
    (segment : Segment) : Type 0 where
  pub client : IsClient rules caller
  pub not_closed : is_closed before ≡ false
  pub few_jobs : jobs before < 1048576
  pub few_clauses : length (inputs before) + length segment.clauses ≤ 16777216
  pub few_literals : literals before + segment_literals segment ≤ 33554432

pub record MayClose (rules : Rules) (before : List Entry) (caller : ℕ) : Type 0 where
  pub client : IsClient rules caller
  pub not_closed : is_closed before ≡ false

pub record MayCancel (rules : Rules) (before : List Entry) (caller job : ℕ) : Type 0 where
  pub client : IsClient rules caller
  pub from_one : 1 ≤ job
  pub added : job ≤ jobs before
  pub unsettled : settled rules before job ≡ None

pub record MayBegin (rules : Rules) (before : List Entry) (caller job number : ℕ) : Type 0 where
  pub worker : IsWorker rules caller
  pub next_job : IsNext rules before job
  pub next_number : number ≡ length (attempts before) + 1

-- The steps of a packet prove its last clause, which is short and no tautology, from the input
-- clauses up to its tag and the packets before. No tag is above that of the last step, so that
-- every hint has at most this tag too.
pub record IsShareable (before : List Entry) (packet : List Step) : Type 0 where
  pub front : List Step
  pub last : Step
  pub ends : packet ≡ front ++ last ∷ []
  pub proper : ¬ IsTautology last.clause
  pub short : length last.clause ≤ 8
  pub added : last.tag ≤ jobs before
  pub ok : AreOkSteps (inputs_of before last.tag) (shared before) [] packet
  pub tags : All (λ step. step.tag ≤ last.tag) packet
  pub within : greatest_of last.clause ≤ greatest_of_all (clauses_of before last.tag)

pub record MayShare (rules : Rules) (before : List Entry) (caller : ℕ)
    (packet : List Step) : Type 0 where
  pub worker : IsWorker rules caller
  pub few : length (packets before) < 4194304
  pub shareable : IsShareable before packet

-- the attempt of that number, which is open and was begun by the caller
pub record IsRunning (before : List Entry) (caller number : ℕ) (begun : Attempt) : Type 0 where
  pub found : attempt before number ≡ Some begun
  pub own : begun.worker ≡ caller
  pub open_yet : IsTrue (is_open before begun)

pub record MaySpend (rules : Rules) (before : List Entry) (caller number : ℕ)
    (learnt : List (List ℕ)) : Type 0 where
  pub begun : Attempt
  pub running : IsRunning before caller number begun
  pub unsettled : settled rules before begun.job ≡ None
  pub spent : IsSpentFor before begun.job rules.conflicts learnt

pub record MayDrop (rules : Rules) (before : List Entry) (caller number : ℕ) : Type 0 where
  pub begun : Attempt
  pub running : IsRunning before caller number begun
  pub settled_job : IsSome (settled rules before begun.job)

pub record MayDecide (rules : Rules) (before : List Entry) (caller number : ℕ)
    (given : Answer) : Type 0 where
  pub begun : Attempt
  pub running : IsRunning before caller number begun
  pub unsettled : settled rules before begun.job ≡ None
  pub right : IsRightAnswer rules.traces before begun.job given

pub record MayStarve (rules : Rules) (before : List Entry) (caller number : ℕ) : Type 0 where
  pub begun : Attempt
  pub running : IsRunning before caller number begun
  pub unsettled : settled rules before begun.job ≡ None

-- The caller may write this event after these entries.
abbrev pub IsAllowed : Rules → List Entry → ℕ → Event → Type 0
IsAllowed rules before caller (event.Added segment) = MayAdd rules before caller (arc_value segment)
IsAllowed rules before caller event.Closed = MayClose rules before caller
IsAllowed rules before caller (event.Cancelled job) = MayCancel rules before caller job
IsAllowed rules before caller (event.Began job number) = MayBegin rules before caller job number
IsAllowed rules before caller (event.Shared packet) =
    MayShare rules before caller (arc_value packet)
IsAllowed rules before caller (event.Spent number learnt) =
    MaySpend rules before caller number (arc_value learnt)
IsAllowed rules before caller (event.Dropped number) = MayDrop rules before caller number
IsAllowed rules before caller (event.Decided number given) =
    MayDecide rules before caller number (arc_value given)
IsAllowed rules before caller (event.Starved number) = MayStarve rules before caller number

abbrev pub IsLegalAfter : Rules → List Entry → List Entry → Type 0
IsLegalAfter rules before [] = Unit {0}
IsLegalAfter rules before (entry ∷ rest) =
    IsAllowed rules before entry.caller entry.event × IsLegalAfter rules (before ++ entry ∷ []) rest

-- A journal is legal where each entry is allowed after the entries before it.
abbrev pub IsLegal : Rules → List Entry → Type 0
IsLegal rules journal = IsLegalAfter rules [] journal
