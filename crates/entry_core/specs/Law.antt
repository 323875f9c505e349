-- Laws of legal journals.
use Rattle.std.specs.Prelude.{◌≡◌, ℕ, ◌*◌, ◌^◌, ◌≤◌, Option, Some, None, List, []}
use Rattle.std.specs.Prelude.{◌∷◌, ◌++◌, length, All, Contains}
use Rattle.sat_base.specs.Lit.{IsTautology, greatest_of, greatest_of_all, variables}
use Rattle.sat_base.specs.Truth.{Entails}
use Rattle.trace_core.specs.Known.{item_at}
use Rattle.trace_core.specs.Trace.{AreOkPackets}
use Rattle.trace_core.specs.declared.derivation.Step.{Step}
use Rattle.entry_core.specs.declared.answers.Verdict.{Verdict}
use Rattle.entry_core.specs.declared.answers.Verdict.TheVariants as verdict
use Rattle.entry_core.specs.declared.entries.Entry.{Entry}
use Rattle.entry_core.specs.declared.entries.Event.{Event}
use Rattle.entry_core.specs.declared.entries.Event.TheVariants as event
use Rattle.entry_core.specs.declared.rules.Rules.{Rules}
use Rattle.entry_core.specs.Journal.{jobs, inputs, inputs_of, clauses_of, cube_of, packets}
use Rattle.entry_core.specs.Attempts.{attempts, attempt, begun_attempts}
use Rattle.entry_core.specs.Settled.{job_of, settled}
use Rattle.entry_core.specs.Legal.{AreWithinLimits, IsLegal}
use Rattle.entry_core.specs.Causes.{HasCause}

-- Every step of a shared packet follows from the input clauses up to its tag.
abbrev pub SharedStepsFollow : Type 0
SharedStepsFollow =
    (rules : Rules) (journal : List Entry) (packet : List Step) (step : Step)
    → IsLegal rules journal
    → Contains (packets journal) packet → Contains packet step
    → Entails (clauses_of journal step.tag) step.clause

-- The shared packets are ok one after the other over the input clauses.
abbrev pub PacketsAreOk : Type 0
PacketsAreOk = (rules : Rules) (journal : List Entry) → IsLegal rules journal
    → AreOkPackets (inputs journal) [] (packets journal)

-- The last step of a packet proves a short clause, no tautology, whose variables are those of the
-- input clauses up to its tag. That tag is at most the number of jobs, and no other one in the
-- packet is above it.
pub record IsBounded (journal : List Entry) (packet : List Step) : Type 0 where
  pub front : List Step
  pub last : Step
  pub ends : packet ≡ front ++ last ∷ []
  pub added : last.tag ≤ jobs journal
  pub within : greatest_of last.clause ≤ greatest_of_all (clauses_of journal last.tag)
  pub proper : ¬ IsTautology last.clause
  pub short : length last.clause ≤ 8
  pub tags : All (λ step. step.tag ≤ last.tag) packet

-- Each shared packet is bounded.
abbrev pub PacketsAreBounded : Type 0
PacketsAreBounded = (rules : Rules) (journal : List Entry) (packet : List Step)
    → IsLegal rules journal
    → Contains (packets journal) packet → IsBounded journal packet

-- what the first journal says, the second one says too
pub record Keeps (rules : Rules) (journal longer : List Entry) : Type 0 where
  pub more_jobs : jobs journal ≤ jobs longer
  pub inputs : (job : ℕ) → job ≤ jobs journal → inputs_of longer job ≡ inputs_of journal job
  pub clauses : (job : ℕ) → job ≤ jobs journal → clauses_of longer job ≡ clauses_of journal job
  pub cubes : (job : ℕ) → job ≤ jobs journal → cube_of longer job ≡ cube_of journal job
  pub database : (more : List (List Step)) × (packets longer ≡ packets journal ++ more)
  pub verdicts : (job : ℕ) (verdict : Verdict) → settled rules journal job ≡ Some verdict
      → settled rules longer job ≡ Some verdict

-- A longer journal keeps the jobs, the database and the verdicts.
abbrev pub LongerJournalKeeps : Type 0
LongerJournalKeeps =
    (rules : Rules) (journal more : List Entry) → Keeps rules journal (journal ++ more)

-- Each verdict of a legal journal has its cause.
abbrev pub VerdictsHaveCauses : Type 0
VerdictsHaveCauses =
    (rules : Rules) (journal : List Entry) (job : ℕ) (given : Verdict) → IsLegal rules journal
    → settled rules journal job ≡ Some given → HasCause rules journal job given

-- A job is never given up with a budget that is greater than the number of clauses over its
-- variables.
abbrev pub LargeBudgetsAnswer : Type 0
LargeBudgetsAnswer =
    (rules : Rules) (journal : List Entry) (job : ℕ) → IsLegal rules journal → AreWithinLimits rules
    → settled rules journal job ≡ Some verdict.Spent
    → rules.conflicts ≤ 3 ^ variables (clauses_of journal job) (cube_of journal job)

-- the job whose attempt the event ends with an answer
abbrev pub decided_by : List Entry → Event → Option ℕ
decided_by journal (event.Decided number given) = job_of (attempt journal number)
decided_by journal _ = None

-- The entry at the place, counted from 1, decides the job.
pub record Decides (journal : List Entry) (job place : ℕ) : Type 0 where
  pub entry : Entry
  pub there : item_at journal place ≡ Some entry
  pub decided : decided_by journal entry.event ≡ Some job

-- At most one entry of a legal journal decides a job.
abbrev pub JobsAreDecidedOnce : Type 0
JobsAreDecidedOnce =
    (rules : Rules) (journal : List Entry) (job first second : ℕ) → IsLegal rules journal
    → Decides journal job first → Decides journal job second → first ≡ second

-- At each job at most as many attempts were begun as the rules allow. In all they are at most so
-- many for each job, which under rules within their limits is at most 64 * 1,048,576.
pub record HasFewAttempts (rules : Rules) (journal : List Entry) : Type 0 where
  pub each : (job : ℕ) → begun_attempts journal job ≤ rules.attempts
  pub all : length (attempts journal) ≤ rules.attempts * jobs journal
  pub most : AreWithinLimits rules → length (attempts journal) ≤ 67108864

-- A legal journal has few attempts.
abbrev pub AttemptsAreFew : Type 0
AttemptsAreFew =
    (rules : Rules) (journal : List Entry) → IsLegal rules journal → HasFewAttempts rules journal
