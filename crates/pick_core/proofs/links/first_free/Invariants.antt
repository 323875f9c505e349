use Rattle.std.proofs.Common.{ℕ, List, length}
use Rattle.pick_core.specs.Links.{IsWay, walk}
use Rattle.pick_core.proofs.Walks.{IsPassed}
use Rattle.pick_core.proofs.links.first_free.Given as goal

-- the variables passed are assigned
abbrev pub invariant-loop-at : goal.invariant-loop-at
invariant-loop-at l = (rest : List ℕ) → IsWay l.links.items l.fn.from rest → IsPassed l.trail.entries l.links.items rest l.at

abbrev pub decreases-loop-at : goal.decreases-loop-at
decreases-loop-at l = length (walk l.links.items (length l.links.items) l.at)
