use Rattle.std.proofs.Common.{List, subst}
use Rattle.std.specs.Prelude.{All}
use Rattle.sat_base.specs.declared.origins.Ref.{Ref}
use Rattle.trace_text.specs.Text.{IsHintBelow}
use Rattle.tarmo_bench.proofs.Earlier.{earlier_more}
use Rattle.tarmo_bench.proofs.trimming.chain.cite_earlier.Goals as goal

pub loop-index-preserved : goal.loop-index-preserved
loop-index-preserved c =
    earlier_more c.args.inputs c.args.steps.now c.loop-index.index c.index-steps-index.result c.loop-index-test.true c.index-steps-index.is c.loop-index.invariant
    (subst (λ (hints : List Ref). All (IsHintBelow c.args.inputs c.loop-index.index) hints) c.items.ensures (c.are_below.ensures c.if-not-are_below.false))
