-- Refutations of cubes.
use Rattle.std.specs.Prelude.{ℕ, ◌↔◌, List, Contains}
use Rattle.sat_base.specs.Lit.{opposite}
use Rattle.sat_base.specs.Truth.{IsRefutedPart}
use Rattle.trace_core.specs.Known.{Known}
use Rattle.trace_core.specs.declared.derivation.Step.{Step}
use Rattle.session.specs.Solver.{clauses_of, IsStep}

-- a refuted part, and the own step of the clause of its negated literals
pub record IsRefutation (inputs : List Known) (steps : List Step) (cube part : List ℕ)
    (number : ℕ) : Type 0 where
  pub right : IsRefutedPart (clauses_of inputs) cube part
  pub one : Known
  pub step : IsStep steps number one
  pub negates : (lit : ℕ) → Contains one.clause lit ↔ Contains part (opposite lit)
