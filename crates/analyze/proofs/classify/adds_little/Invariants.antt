use Rattle.std.proofs.Common.{ℕ, take}
use Rattle.std.specs.Prelude.{Contains}
use Rattle.sat_base.specs.Lit.{variable}
use Rattle.analyze.specs.Cut.{AddsNothing}
use Rattle.analyze.proofs.classify.adds_little.Given as goal

abbrev pub invariant-loop-lit : goal.invariant-loop-lit
invariant-loop-lit l = (lit : ℕ) → Contains (take l.lit-index l.clause) lit
    → AddsNothing l.trail.entries l.seen (variable lit)
