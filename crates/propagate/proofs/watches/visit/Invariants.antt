use Rattle.std.proofs.Common.{◌≡◌}
use Rattle.watch_ring.specs.Ring.{list_of}
use Rattle.propagate.specs.Lists.{HasPropagated}
use Rattle.propagate.specs.Walk.{IsUnderway, left_from}
use Rattle.propagate.proofs.watches.visit.Given as goal

abbrev pub invariant-loop-here : goal.invariant-loop-here
invariant-loop-here l = record {
  underway : IsUnderway l.arena l.ring l.trail l.gone l.before l.here;
  kept : HasPropagated l.fn.arena l.fn.ring l.fn.trail l.arena l.ring l.trail;
  looked : l.trail.looked ≡ l.fn.trail.looked;
}

abbrev pub decreases-loop-here : goal.decreases-loop-here
decreases-loop-here l = left_from l.here (list_of l.ring l.gone)
