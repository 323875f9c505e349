use Rattle.trace_trim.proofs.OwnWalk.{IsOwnWalk}
use Rattle.trace_trim.proofs.Order.{peak}
use Rattle.trace_trim.proofs.own_reach.packed_numbers.Given as goal

abbrev pub invariant-loop-number : goal.invariant-loop-number
invariant-loop-number l = IsOwnWalk l.own l.names l.last l.numbers.items l.pending.keys

abbrev pub decreases-loop-number : goal.decreases-loop-number
decreases-loop-number l = peak (λ number. number) l.pending.keys
