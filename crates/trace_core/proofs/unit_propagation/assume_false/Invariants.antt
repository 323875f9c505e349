use Rattle.std.proofs.Common.{take}
use Rattle.trace_core.proofs.AssumeLemmas.{Assumed}
use Rattle.trace_core.proofs.unit_propagation.assume_false.Given as goal

abbrev pub invariant-loop-lit : goal.invariant-loop-lit
invariant-loop-lit l = Assumed (take l.lit-index l.clause) l.marks l.set.items
