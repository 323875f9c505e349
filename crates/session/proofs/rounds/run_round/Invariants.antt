use Rattle.std.proofs.Common.{◌≡◌, ◌≤◌, ◌-◌, List, [], length}
use Rattle.trace_core.specs.Known.{Known}
use Rattle.session.specs.Searching.{solver_of}
use Rattle.session.specs.Rounds.{IsInRound}
use Rattle.session.specs.Solving.{Learns}
use Rattle.session.proofs.rounds.run_round.Given as goal

abbrev pub invariant-loop-count : goal.invariant-loop-count
invariant-loop-count l =
    IsInRound l.search l.cube l.vars × ((more : List Known)
    × Learns (solver_of l.fn.search) (solver_of l.search) more [] × (length more ≡ l.count)
    × (l.count ≤ l.limit))

abbrev pub decreases-loop-count : goal.decreases-loop-count
decreases-loop-count l = l.limit - l.count
