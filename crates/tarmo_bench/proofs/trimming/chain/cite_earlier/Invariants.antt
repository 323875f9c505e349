use Rattle.std.proofs.Common.{take}
use Rattle.trace_text.specs.Text.{CiteEarlier}
use Rattle.tarmo_bench.proofs.trimming.chain.cite_earlier.Given as goal

abbrev pub invariant-loop-index : goal.invariant-loop-index
invariant-loop-index l = CiteEarlier l.inputs 0 (take l.index l.steps)
