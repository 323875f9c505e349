use Rattle.std.proofs.Common.{take, All}
use Rattle.trail_core.specs.Trail.{lits_of}
use Rattle.trail_core.specs.UnderTrail.{IsUnassigned}
use Rattle.session.proofs.conflicts.unassigned.Given as goal

abbrev pub invariant-loop-lit : goal.invariant-loop-lit
invariant-loop-lit l = All (λ lit. IsUnassigned (lits_of l.trail.entries) lit → ⊥)
    (take l.lit-index l.lit-items)
