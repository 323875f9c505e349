use Rattle.std.proofs.Common.{◌≤◌, length}
use Rattle.session.proofs.Fronts.{IsAbove}
use Rattle.session.proofs.order.count_up_to.Given as goal

abbrev pub invariant-loop-count : goal.invariant-loop-count
invariant-loop-count l = (l.count ≤ length l.trail.entries)
    × IsAbove l.trail.entries l.count l.level

abbrev pub decreases-loop-count : goal.decreases-loop-count
decreases-loop-count l = l.count
