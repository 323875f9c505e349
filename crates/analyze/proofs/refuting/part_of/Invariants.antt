use Rattle.std.proofs.Common.{◌≡◌, ◌∷◌, map, take}
use Rattle.analyze.specs.Graph.{lit_at}
use Rattle.analyze.proofs.refuting.part_of.Given as goal

abbrev pub invariant-loop-place : goal.invariant-loop-place
invariant-loop-place l = l.lits.items ≡ l.fn.lit ∷ map (lit_at l.trail.entries) (take l.place-index l.places)
