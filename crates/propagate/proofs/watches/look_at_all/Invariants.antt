use Rattle.std.proofs.Common.{◌-◌, []}
use Rattle.propagate.specs.Lists.{IsConnected, HasPropagated}
use Rattle.propagate.proofs.watches.look_at_all.Given as goal

abbrev pub invariant-loop-lits : goal.invariant-loop-lits
invariant-loop-lits l = record {
  connected : IsConnected l.arena [] l.ring l.trail;
  kept : HasPropagated l.fn.arena l.fn.ring l.fn.trail l.arena l.ring l.trail;
}

abbrev pub decreases-loop-lits : goal.decreases-loop-lits
decreases-loop-lits l = l.trail.vars - l.trail.looked
