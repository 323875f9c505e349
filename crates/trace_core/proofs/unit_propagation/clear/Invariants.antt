use Rattle.std.proofs.Common.{ℕ, drop}
use Rattle.std.specs.Prelude.{Contains, IsTrue}
use Rattle.trace_core.specs.Marking.{holds}
use Rattle.trace_core.proofs.unit_propagation.clear.Given as goal

abbrev pub invariant-loop-lit : goal.invariant-loop-lit
invariant-loop-lit l = (lit : ℕ) → IsTrue (holds l.marks lit) → Contains (drop l.lit-index l.lit-items) lit
