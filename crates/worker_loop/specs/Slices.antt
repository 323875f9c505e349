-- A slice of an attempt: a round, and then a hold in which the worker shares.
use Rattle.std.specs.Prelude.{◌≡◌, ◌⊎◌, ℕ, ◌<◌, ◌≤◌, Bool, true, false, Option, None, Some, IsSome}
use Rattle.std.specs.Prelude.{List, ◌++◌, length, All, Contains}
use Rattle.std.specs.Arc.{arc_value}
use Rattle.trace_core.specs.Known.{Known, tag_of}
use Rattle.trace_core.specs.declared.derivation.Step.{Step}
use Rattle.trace_trim.specs.Packed.{ends_in}
use Rattle.entry_core.specs.declared.entries.Entry.{Entry}
use Rattle.entry_core.specs.declared.rules.Rules.{Rules}
use Rattle.entry_core.specs.Journal.{packets}
use Rattle.entry_core.specs.Legal.{IsLegal}
use Rattle.entry_core.specs.Right.{IsRightAnswer, IsSpentFor}
use Rattle.entry_core.specs.Settled.{settled}
use Rattle.turn_lock.specs.Entries.{entries_of}
use Rattle.board_core.specs.Replies.{IsOwn}
use Rattle.service.specs.Holds.{MadeHold}
use Rattle.service.specs.Passes.{BoardLock, BoardPass, IsReady, IsWorkerPass, Keeps, board_of}
use Rattle.service.specs.Passes.{caller_of}
use Rattle.session.specs.declared.rounds.Round.{Round}
use Rattle.session.specs.declared.rounds.Round.TheVariants.{Paused}
use Rattle.session.specs.Sharing.{IsHeld}
use Rattle.session.specs.Solver.{Solver}
use Rattle.worker_loop.specs.declared.attempt.Attempt.{Attempt}
use Rattle.worker_loop.specs.declared.bench.Bench.{Bench}
use Rattle.worker_loop.specs.declared.ends.End.{End}
use Rattle.worker_loop.specs.declared.ends.End.TheVariants as end
use Rattle.worker_loop.specs.declared.slices.Turn.{Turn}
use Rattle.worker_loop.specs.declared.slices.Turn.TheVariants as turn
use Rattle.worker_loop.specs.Asked.{clauses_at}
use Rattle.worker_loop.specs.Attempts.{IsAt}
use Rattle.worker_loop.specs.Fits.{Fits, FitsAttempt}
use Rattle.worker_loop.specs.Importing.{IsLastOfOne}
use Rattle.worker_loop.specs.Kept.{KeepsLearnt}
use Rattle.worker_loop.specs.Rounds.{MakesRound}
use Rattle.worker_loop.specs.Shared.{IsShared, IsSharing}

-- A worker's pass without a hold. What it has seen is legal, and the entries of its number there
-- are its own.
pub record IsAtWork (lock : BoardLock) (pass : BoardPass) : Type 0 where
  pub ready : IsReady lock pass
  pub worker : IsWorkerPass lock pass
  pub legal : IsLegal lock.basis pass.seen
  pub own : entries_of caller_of pass.number pass.seen ≡ pass.own

-- The pass has an open attempt of this number at this job.
abbrev pub HasOpen : BoardLock → BoardPass → ℕ → ℕ → Type 0
HasOpen lock pass number job = IsAt (board_of lock pass.seen) pass.number number job

-- The attempt is an open one of the pass. Bench and attempt fit what the pass has seen.
pub record IsUnderWay (lock : BoardLock) (pass : BoardPass) (bench : Bench)
    (attempt : Attempt) : Type 0 where
  pub at : HasOpen lock pass attempt.number attempt.job
  pub fits : Fits bench pass.seen
  pub fits_attempt : FitsAttempt bench attempt pass.seen

-- one hold that added packets alone
pub record SharedInHold (lock : BoardLock) (before after : BoardPass) : Type 0 where
  pub shown : List Entry
  pub added : List Entry
  pub hold : MadeHold lock before after shown added
  pub sharing : All (λ entry. IsSharing entry.event) added

-- From one state of the pass to a later one, the attempt is still open, and none was begun.
pub record GoesOnOpen (lock : BoardLock) (before after : BoardPass) (number job : ℕ) : Type 0 where
  pub keeps : Keeps lock before after
  pub work : IsAtWork lock after
  pub at : HasOpen lock after number job
  pub begins_none : (other : ℕ) → IsOwn (board_of lock after.seen) after.number other
      → IsOwn (board_of lock before.seen) before.number other

-- No hold, or one that added packets alone, so that the attempt is still open.
pub record HasSliced (lock : BoardLock) (before after : BoardPass) (number job : ℕ) : Type 0 where
  pub on : GoesOnOpen lock before after number job
  pub hold : (after ≡ before) ⊎ SharedInHold lock before after

-- what comes of a slice with this end, where the job was found settled or not
abbrev pub turn_with : Bool → Option End → Turn
turn_with true given = turn.Overtaken
turn_with false None = turn.Going
turn_with false (Some (end.Answered given)) = turn.Answer given
turn_with false (Some (end.Spent learnt)) = turn.Spent learnt

-- The job is settled; or else the round has a right answer; or else the attempt has learnt as much
-- as its budget allows, the clauses that are listed; or else it goes on.
abbrev pub IsTurn : Rules → List Entry → Attempt → Round → List (List ℕ) → Turn → Type 0
IsTurn rules seen attempt round learnt turn.Overtaken = IsSome (settled rules seen attempt.job)
IsTurn rules seen attempt round learnt (turn.Answer given) =
    (settled rules seen attempt.job ≡ None) × (round ≡ Paused → ⊥)
    × IsRightAnswer rules.traces seen attempt.job (arc_value given)
IsTurn rules seen attempt round learnt (turn.Spent list) =
    (settled rules seen attempt.job ≡ None) × (round ≡ Paused)
    × (length attempt.learnt.items ≡ rules.conflicts) × (arc_value list ≡ learnt)
    × IsSpentFor seen attempt.job rules.conflicts (arc_value list)
IsTurn rules seen attempt round learnt turn.Going =
    (settled rules seen attempt.job ≡ None) × (round ≡ Paused)
    × (length attempt.learnt.items < rules.conflicts)

-- One round of at most 256 learnt clauses, and never more than the budget leaves. Each clause of at
-- most 8 literals that it learnt is a packet's clause in what was seen, unless the shared database
-- is full. Nothing that was learnt is lost, nothing else is learnt, and what comes to be held behind
-- the round is packets' clauses.
pub record IsSlice (rules : Rules) (seen : List Entry) (old new : Bench)
    (attempt attempt' : Attempt) (turn : Turn) : Type 0 where
  pub round : Round
  pub solver : Solver
  pub made : MakesRound old.session.solver solver attempt attempt' rules.conflicts round
  pub shared : All (IsShared solver.steps seen) made.solves.learns.names
  pub kept : KeepsLearnt solver new.session.solver
  pub steps : new.session.solver.steps ≡ solver.steps
  pub learnt : new.session.solver.learnt ≡ solver.learnt
  pub came : (more : List Known) × (new.session.solver.held ≡ solver.held ++ more)
      × All (IsLastOfOne (packets seen)) more
  pub comes : IsTurn rules seen attempt' round (clauses_at solver.steps attempt'.learnt.items) turn

-- The session holds the clause of each packet with a tag up to the job.
abbrev pub HoldsShared : Solver → List Entry → ℕ → Type 0
HoldsShared solver seen job = (packet : List Step) → Contains (packets seen) packet
    → tag_of (ends_in packet) ≤ job → IsHeld solver packet

-- Nothing is lost that was learnt before the slices, and the attempt lists exactly what was learnt
-- since, at most as many clauses as the budget allows.
pub record HasLearntSince (old new : Solver) (before after : Attempt) (budget : ℕ) : Type 0 where
  pub kept : KeepsLearnt old new
  pub names : List ℕ
  pub learnt : new.learnt ≡ old.learnt ++ names
  pub listed : after.learnt.items ≡ before.learnt.items ++ names
  pub few : length after.learnt.items ≤ budget
