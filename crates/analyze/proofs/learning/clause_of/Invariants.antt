use Rattle.std.proofs.Common.{◌≡◌, map, take}
use Rattle.sat_base.specs.Lit.{opposite}
use Rattle.analyze.specs.Graph.{lit_at}
use Rattle.analyze.proofs.learning.clause_of.Given as goal

abbrev pub invariant-loop-place : goal.invariant-loop-place
invariant-loop-place l = l.lits.items ≡ map (λ place. opposite (lit_at l.trail.entries place)) (take l.place-index l.places)
