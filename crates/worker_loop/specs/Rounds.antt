-- The rounds of an attempt.
use Rattle.std.specs.Prelude.{◌≡◌, ℕ, ◌-◌, ◌<◌, ◌≤◌, Bool, min, List, [], ◌++◌, length, Option}
use Rattle.std.specs.Prelude.{None, Some}
use Rattle.std.specs.Arc.{arc_value}
use Rattle.sat_base.specs.Truth.{IsModelOf}
use Rattle.trace_core.specs.declared.derivation.Step.{Step}
use Rattle.entry_core.specs.declared.answers.Answer.{Answer}
use Rattle.session.specs.declared.rounds.Round.{Round}
use Rattle.session.specs.declared.rounds.Round.TheVariants.{Model, Refuted, Paused}
use Rattle.session.specs.Refutations.{IsRefutation}
use Rattle.session.specs.Solver.{Solver, clauses_of}
use Rattle.session.specs.Solving.{Keeps, Solves}
use Rattle.worker_loop.specs.declared.attempt.Attempt.{Attempt}
use Rattle.worker_loop.specs.declared.ends.End.{End}
use Rattle.worker_loop.specs.declared.ends.End.TheVariants.{Answered, Spent}
use Rattle.worker_loop.specs.Asked.{IsRightOver, clauses_at}

-- a right answer, or a pause
abbrev pub IsRightRound : Solver → List ℕ → Round → Type 0
IsRightRound solver cube (Model values) = IsModelOf (clauses_of solver.inputs) cube values
IsRightRound solver cube (Refuted part number) =
    IsRefutation solver.inputs solver.steps cube part number
IsRightRound solver cube Paused = Unit {0}

-- The answer is right for each cube whose part is refuted by the own step of that number.
abbrev pub IsRightWhereRefuted : Bool → Solver → List ℕ → ℕ → Answer → Type 0
IsRightWhereRefuted traces solver part number answer = (cube : List ℕ)
    → IsRefutation solver.inputs solver.steps cube part number
    → IsRightOver traces solver.inputs cube answer

-- One round of at most 256 learnt clauses, and never more than the budget leaves. The attempt
-- lists the own steps of exactly those besides, and nothing else of it changed.
pub record MakesRound (old new : Solver) (before after : Attempt) (budget : ℕ)
    (round : Round) : Type 0 where
  pub solves : Solves old new before.cube (min 256 (budget - length before.learnt.items)) round
  pub same : after ≡ record before { learnt = after.learnt }
  pub listed : after.learnt.items ≡ before.learnt.items ++ solves.learns.names

-- Nothing is lost that was learnt before, and the attempt lists exactly what was learnt since, at
-- most as many clauses as the budget allows.
pub record HasLearntOn (old new : Solver) (before after : Attempt) (budget : ℕ) : Type 0 where
  pub keeps : Keeps old new
  pub same : after ≡ record before { learnt = after.learnt }
  pub names : List ℕ
  pub learnt : new.learnt ≡ old.learnt ++ names
  pub listed : after.learnt.items ≡ before.learnt.items ++ names
  pub few : length after.learnt.items ≤ budget

-- a spent list is the clauses of the own steps of these numbers
abbrev pub IsListOf : List Step → List ℕ → End → Type 0
IsListOf steps names (Answered answer) = Unit {0}
IsListOf steps names (Spent learnt) = arc_value learnt ≡ clauses_at steps names

-- a spent list is the clauses of the own steps that the attempt lists
abbrev pub IsOfLearnt : Solver → Attempt → End → Type 0
IsOfLearnt solver attempt end = IsListOf solver.steps attempt.learnt.items end

-- What the session has learnt when an attempt at the job begins: nothing where it was past the job,
-- and else what it had learnt.
abbrev pub IsLearntBefore : Solver → ℕ → List ℕ → Type 0
IsLearntBefore old job first =
    (old.bound ≤ job → first ≡ old.learnt) × (job < old.bound → first ≡ [])

-- An attempt at the job learnt these clauses, at most as many as the budget allows, and a spent
-- list is exactly these.
pub record HasPursued (old new : Solver) (job budget : ℕ) (end : End) : Type 0 where
  pub first : List ℕ
  pub begins : IsLearntBefore old job first
  pub names : List ℕ
  pub learnt : new.learnt ≡ first ++ names
  pub few : length names ≤ budget
  pub listed : IsListOf new.steps names end

-- An answer comes after a round with an answer, a spent list where the round paused and the
-- attempt has learnt as much as the budget allows, and no end where it has learnt less.
abbrev pub IsOfRound : Attempt → ℕ → Round → Option End → Type 0
IsOfRound attempt budget round None = (round ≡ Paused) × (length attempt.learnt.items < budget)
IsOfRound attempt budget round (Some (Answered given)) = round ≡ Paused → ⊥
IsOfRound attempt budget round (Some (Spent learnt)) =
    (round ≡ Paused) × (length attempt.learnt.items ≡ budget)
