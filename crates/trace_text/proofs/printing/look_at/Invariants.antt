use Rattle.std.proofs.Common.{take}
use Rattle.std.specs.Prelude.{All}
use Rattle.sat_base.specs.Lit.{IsLitSet}
use Rattle.trace_core.specs.declared.derivation.Step.{Step}
use Rattle.trace_text.proofs.printing.look_at.Given as goal

abbrev pub invariant-loop-step : goal.invariant-loop-step
invariant-loop-step l = All (λ (step : Step). IsLitSet step.clause) (take l.step-index l.steps)
