use Rattle.std.proofs.Common.{◌∙◌, refl}
use Rattle.trace_core.proofs.AssumeLemmas.{covered_next, covered_whole}
use Rattle.trace_core.proofs.unit_propagation.is_covered.Goals as goal

pub loop-lit-preserved : goal.loop-lit-preserved
loop-lit-preserved c =
    covered_next c.args.clause.now c.loop-lit.lit-index c.args.marks.now c.lit-item.result c.code.result c.loop-lit-test.true c.lit-item.is (c.code.ensures.value ∙ c.negated.ensures) c.in_default.not-Uncovered c.loop-lit.invariant

pub returns : goal.returns
returns c = (λ _. covered_whole c.args.clause.now c.loop-lit.lit-index c.args.marks.now c.loop-lit-test.false c.loop-lit.invariant, λ _. refl)
