use Rattle.std.proofs.Common.{◌-◌, length}
use Rattle.session.specs.Places.{AreThere}
use Rattle.session.proofs.places.passed.Given as goal

abbrev pub invariant-loop-front : goal.invariant-loop-front
invariant-loop-front l = AreThere l.packets l.front

abbrev pub decreases-loop-front : goal.decreases-loop-front
decreases-loop-front l = length l.packets - l.front
