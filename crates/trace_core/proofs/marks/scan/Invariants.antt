use Rattle.std.proofs.Common.{take}
use Rattle.trace_core.proofs.MarkLemmas.{Scanned}
use Rattle.trace_core.proofs.marks.scan.Given as goal

abbrev pub invariant-loop-lit : goal.invariant-loop-lit
invariant-loop-lit l = Scanned l.initial.marks (take l.lit-index l.hint) l.marks l.found
