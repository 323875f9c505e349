use Rattle.std.proofs.Common.{◌≡◌, ◌-◌, [], length}
use Rattle.session.specs.Searching.{solver_of}
use Rattle.session.specs.Rounds.{IsInRound}
use Rattle.session.specs.Solving.{Learns}
use Rattle.session.proofs.rounds.descend.Given as goal

abbrev pub invariant-loop-end : goal.invariant-loop-end
invariant-loop-end l = IsInRound l.search l.cube l.vars
    × Learns (solver_of l.fn.search) (solver_of l.search) [] []
    × (l.search.trail.vars ≡ l.fn.search.trail.vars)

abbrev pub decreases-loop-end : goal.decreases-loop-end
decreases-loop-end l = l.fn.search.trail.vars - length l.search.trail.entries
