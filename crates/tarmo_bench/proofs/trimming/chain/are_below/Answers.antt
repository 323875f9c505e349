use Rattle.std.proofs.lemmas.List.Elements.{All-more}
use Rattle.trace_text.specs.Text.{IsHintBelow}
use Rattle.tarmo_bench.proofs.trimming.chain.are_below.Goals as goal

pub loop-hint-preserved : goal.loop-hint-preserved
loop-hint-preserved c =
    All-more (IsHintBelow c.args.inputs c.args.steps) c.args.hints.now c.loop-hint.hint-index _ c.loop-hint-test.true c.loop-hint.invariant
    (c.is_below.ensures c.if-not-is_below.false)
