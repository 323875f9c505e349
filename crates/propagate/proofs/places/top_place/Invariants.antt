use Rattle.propagate.specs.Places.{AreNotAtFrom}
use Rattle.propagate.proofs.places.top_place.Given as goal

-- the variables that were looked at are of other levels
abbrev pub invariant-loop-place : goal.invariant-loop-place
invariant-loop-place l = AreNotAtFrom l.trail.entries l.lits l.trail.depth 1 l.place
