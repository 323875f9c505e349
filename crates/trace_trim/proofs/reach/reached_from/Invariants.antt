use Rattle.std.proofs.Common.{map}
use Rattle.std.specs.Arc.{arc_value}
use Rattle.trace_trim.proofs.NameWalk.{IsNameWalk}
use Rattle.trace_trim.proofs.Order.{peak, rank}
use Rattle.trace_trim.proofs.reach.reached_from.Given as goal

abbrev pub invariant-loop-name : goal.invariant-loop-name
invariant-loop-name l = IsNameWalk (map arc_value l.packets) l.own l.last l.names.items l.pending.keys

abbrev pub decreases-loop-name : goal.decreases-loop-name
decreases-loop-name l = peak (rank (map arc_value l.packets)) l.pending.keys
