-- Laws over two states of one pass.
use Rattle.std.specs.Prelude.{◌≡◌, ℕ, Some}
use Rattle.trace_core.specs.Known.{item_at}
use Rattle.entry_core.specs.declared.answers.Outcome.{Outcome}
use Rattle.entry_core.specs.declared.answers.Verdict.{Verdict}
use Rattle.entry_core.specs.declared.segments.Segment.{Segment}
use Rattle.entry_core.specs.Journal.{segments}
use Rattle.board_core.specs.declared.faults.AskFault.{AskFault}
use Rattle.board_core.specs.declared.faults.AskFault.TheVariants as ask
use Rattle.board_core.specs.declared.faults.LookFault.{LookFault}
use Rattle.board_core.specs.Replies.{IsJob, IsSame, HasVerdict, HasOutcome, IsAskFault, IsLookFault}
use Rattle.service.specs.Passes.{BoardLock, BoardPass, Keeps, board_of}
use Rattle.service.specs.Replies.{HasAdded}

-- what is read again of a job with this verdict: the verdict, or else that there was no memory
pub record ReadsAgain (lock : BoardLock) (later : BoardPass) (job : ℕ)
    (verdict : Verdict) : Type 0 where
  pub same : (again : Verdict) → HasVerdict (board_of lock later.seen) job again
      → IsSame verdict again
  pub refused : (fault : AskFault) → IsAskFault (board_of lock later.seen) job fault
      → fault ≡ ask.Memory

-- A verdict once read is read again.
abbrev pub VerdictsAreReadAgain : Type 0
VerdictsAreReadAgain =
    (lock : BoardLock) (before later : BoardPass) (job : ℕ) (verdict : Verdict)
    → Keeps lock before later → HasVerdict (board_of lock before.seen) job verdict
    → ReadsAgain lock later job verdict

-- what is read again of a job with this outcome: the outcome, without a refusal
pub record LooksAgain (lock : BoardLock) (later : BoardPass) (job : ℕ)
    (outcome : Outcome) : Type 0 where
  pub same : (again : Outcome) → HasOutcome (board_of lock later.seen) job again
      → again ≡ outcome
  pub answered : (fault : LookFault) → ¬ IsLookFault (board_of lock later.seen) job fault

-- An outcome once read is read again.
abbrev pub OutcomesAreReadAgain : Type 0
OutcomesAreReadAgain =
    (lock : BoardLock) (before later : BoardPass) (job : ℕ) (outcome : Outcome)
    → Keeps lock before later → HasOutcome (board_of lock before.seen) job outcome
    → LooksAgain lock later job outcome

-- what is found of a job that was added with this segment
pub record IsFound (lock : BoardLock) (later : BoardPass) (job : ℕ)
    (segment : Segment) : Type 0 where
  pub there : IsJob (board_of lock later.seen) job
  pub same : item_at (segments later.seen) job ≡ Some segment

-- A job once added is found again.
abbrev pub JobsAreFoundAgain : Type 0
JobsAreFoundAgain =
    (lock : BoardLock) (before after later : BoardPass) (segment : Segment) (job : ℕ)
    → HasAdded lock before after segment job → Keeps lock after later
    → IsFound lock later job segment
