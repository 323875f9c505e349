-- What a round of solving does, as its caller sees it.
use Rattle.std.specs.Prelude.{◌≡◌, ℕ, ◌<◌, ◌≤◌, List, [], ◌∷◌, ◌++◌, length, All}
use Rattle.sat_base.specs.Lit.{IsTautology, greatest_of, greatest_of_all}
use Rattle.sat_base.specs.Truth.{IsModelOf}
use Rattle.trace_core.specs.Known.{Known}
use Rattle.session.specs.declared.rounds.Round.{Round}
use Rattle.session.specs.declared.rounds.Round.TheVariants.{Model, Refuted, Paused}
use Rattle.session.specs.Solver.{Solver, clauses_of}
use Rattle.session.specs.Searching.{HasStepsMore}
use Rattle.session.specs.Fronts.{IsFront}
use Rattle.session.specs.Rounds.{AreNew, AreNamed, step_of_round}
use Rattle.session.specs.Refutations.{IsRefutation}

-- What no call takes away, whatever its answer: the inputs, the bound and the packets stay, and
-- held clauses, own steps and learnt steps come behind those that were there.
pub record Keeps (old new : Solver) : Type 0 where
  pub inputs : new.inputs ≡ old.inputs
  pub bound : new.bound ≡ old.bound
  pub packets : new.packets ≡ old.packets
  pub held : IsFront old.held new.held
  pub steps : IsFront old.steps new.steps
  pub learnt : IsFront old.learnt new.learnt

-- no tautology, and over the variables of the inputs
abbrev pub IsProperOver : List Known → Known → Type 0
IsProperOver inputs one =
    (IsTautology one.clause → ⊥) × (greatest_of one.clause ≤ greatest_of_all (clauses_of inputs))

-- These clauses were learnt, in order, and nothing else changed but that own steps came: each is
-- held, is the clause of a step that is listed as learnt, contains no clause that was held before
-- or learnt earlier, is no tautology, and is over the variables of the inputs. Each learnt clause
-- came with one step of its own; all other steps that came have one literal, or are among the last
-- ones.
pub record Learns (old new : Solver) (more : List Known) (last : List ℕ) : Type 0 where
  pub inputs : new.inputs ≡ old.inputs
  pub bound : new.bound ≡ old.bound
  pub packets : new.packets ≡ old.packets
  pub held : new.held ≡ old.held ++ more
  pub names : List ℕ
  pub learnt : new.learnt ≡ old.learnt ++ names
  pub named : AreNamed new.steps names more
  pub steps : HasStepsMore old.steps new.steps (names ++ last)
  pub fresh : AreNew old.held more
  pub proper : All (IsProperOver old.inputs) more

-- one clause was learnt
pub record LearnsOne (old new : Solver) : Type 0 where
  pub one : Known
  pub learns : Learns old new (one ∷ []) []

-- a right answer
abbrev pub IsRight : Solver → List ℕ → Round → Type 0
IsRight solver cube (Model values) = IsModelOf (clauses_of solver.inputs) cube values
IsRight solver cube (Refuted part number) = IsRefutation solver.inputs solver.steps cube part number
IsRight solver cube Paused = ⊥

-- a right answer, and no clause was learnt
pub record Concludes (old new : Solver) (cube : List ℕ) (round : Round) : Type 0 where
  pub learns : Learns old new [] (step_of_round round)
  pub right : IsRight new cube round

-- A right answer after fewer than `limit` learnt clauses, or exactly so many and no answer.
abbrev pub Ends : Solver → List ℕ → ℕ → ℕ → Round → Type 0
Ends solver cube limit count (Model values) = IsRight solver cube (Model values) × (count < limit)
Ends solver cube limit count (Refuted part number) = IsRight solver cube (Refuted part number)
    × (count < limit)
Ends solver cube limit count Paused = count ≡ limit

pub record Solves (old new : Solver) (cube : List ℕ) (limit : ℕ) (round : Round) : Type 0 where
  pub more : List Known
  pub learns : Learns old new more (step_of_round round)
  pub ends : Ends new cube limit (length more) round
