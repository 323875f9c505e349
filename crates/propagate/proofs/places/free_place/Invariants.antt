use Rattle.trail_core.specs.Trail.{lits_of}
use Rattle.propagate.specs.Places.{AreFalseBetween}
use Rattle.propagate.proofs.places.free_place.Given as goal

-- the literals that were looked at are false
abbrev pub invariant-loop-place : goal.invariant-loop-place
invariant-loop-place l = AreFalseBetween (lits_of l.trail.entries) l.lits l.from l.place
