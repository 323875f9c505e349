use Rattle.std.proofs.Common.{◌≡◌, ℕ, take, false}
use Rattle.std.specs.Prelude.{Contains}
use Rattle.sat_base.specs.Lit.{opposite}
use Rattle.trace_core.specs.Marking.{is_uncovered}
use Rattle.trace_core.proofs.unit_propagation.is_covered.Given as goal

abbrev pub invariant-loop-lit : goal.invariant-loop-lit
invariant-loop-lit l = (lit : ℕ) → Contains (take l.lit-index l.clause) lit → is_uncovered l.marks (opposite lit) ≡ false
