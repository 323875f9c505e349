-- Rounds until there is an answer.
use Rattle.std.specs.Prelude.{ℕ, List}
use Rattle.trace_core.specs.Known.{Known}
use Rattle.session.specs.declared.answering.Conclusion.{Conclusion}
use Rattle.session.specs.declared.answering.Conclusion.TheVariants.{Model, Refuted}
use Rattle.session.specs.declared.rounds.Round.{Round}
use Rattle.session.specs.declared.rounds.Round.TheVariants as round
use Rattle.session.specs.Solver.{Solver}
use Rattle.session.specs.Rounds.{step_of_round}
use Rattle.session.specs.Solving.{IsRight, Learns}

-- the round that came to this answer
abbrev pub round_of : Conclusion → Round
round_of (Model values) = round.Model values
round_of (Refuted part number) = round.Refuted part number

-- a right answer, after clauses were learnt
pub record Answers (old new : Solver) (cube : List ℕ) (conclusion : Conclusion) : Type 0 where
  pub more : List Known
  pub learns : Learns old new more (step_of_round (round_of conclusion))
  pub right : IsRight new cube (round_of conclusion)
