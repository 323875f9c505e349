use Rattle.std.proofs.Common.{◌-◌, length, take, All, Contains}
use Rattle.trail_core.specs.Trail.{lits_of}
use Rattle.session.proofs.moves.first_open.Given as goal

abbrev pub invariant-loop-cursor : goal.invariant-loop-cursor
invariant-loop-cursor l = All (Contains (lits_of l.trail.entries)) (take l.cursor l.cube)

abbrev pub decreases-loop-cursor : goal.decreases-loop-cursor
decreases-loop-cursor l = length l.cube - l.cursor
