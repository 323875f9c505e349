use Rattle.std.proofs.Common.{take}
use Rattle.std.specs.Prelude.{All}
use Rattle.trace_text.specs.Text.{IsHintBelow}
use Rattle.tarmo_bench.proofs.trimming.chain.are_below.Given as goal

abbrev pub invariant-loop-hint : goal.invariant-loop-hint
invariant-loop-hint l = All (IsHintBelow l.inputs l.steps) (take l.hint-index l.hints)
