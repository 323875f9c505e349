use Rattle.std.proofs.Common.{◌≤◌, ◌-◌, length}
use Rattle.propagate.specs.Lists.{IsConnected, HasPropagated, new_from}
use Rattle.propagate.proofs.new_clauses.settle_new.Given as goal

abbrev pub invariant-loop-id : goal.invariant-loop-id
invariant-loop-id l = record {
  connected : IsConnected l.arena (new_from l.id l.arena) l.ring l.trail;
  kept : HasPropagated l.fn.arena l.fn.ring l.fn.trail l.arena l.ring l.trail;
  more : l.from ≤ l.id;
  known : l.id ≤ length l.arena;
}

abbrev pub decreases-loop-id : goal.decreases-loop-id
decreases-loop-id l = length l.arena - l.id
