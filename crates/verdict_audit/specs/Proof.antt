-- A part, the input clauses, and the steps so far of a trace.
use Rattle.std.specs.Prelude.{ℕ, List}
use Rattle.trace_core.specs.Known.{Known}
use Rattle.trace_core.specs.declared.derivation.Step.{Step}

pub record Proof : Type 0 where
  pub part : List ℕ
  pub inputs : List Known
  pub steps : List Step
