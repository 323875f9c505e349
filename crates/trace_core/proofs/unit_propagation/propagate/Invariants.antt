use Rattle.trace_core.specs.Checked.{hinted}
use Rattle.trace_core.proofs.RunLemmas.{Ran}
use Rattle.trace_core.proofs.unit_propagation.propagate.Given as goal

abbrev pub invariant-loop-i : goal.invariant-loop-i
invariant-loop-i l = Ran (hinted l.database.inputs l.database.steps l.hints) l.initial.marks l.initial.set.items l.i l.marks l.set.items
