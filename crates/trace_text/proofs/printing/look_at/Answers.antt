use Rattle.std.proofs.Common.{subst}
use Rattle.std.proofs.lemmas.List.Elements.{All-more}
use Rattle.sat_base.specs.Lit.{IsLitSet}
use Rattle.trace_core.specs.declared.derivation.Step.{Step}
use Rattle.trace_text.proofs.printing.look_at.Goals as goal

pub loop-step-preserved : goal.loop-step-preserved
loop-step-preserved c = All-more (λ (step : Step). IsLitSet step.clause) c.args.steps.now c.loop-step.step-index c.step-item.result c.loop-step-test.true c.loop-step.invariant (subst (λ (step : Step). IsLitSet step.clause) c.step-item.is c.lits.ensures.set)
