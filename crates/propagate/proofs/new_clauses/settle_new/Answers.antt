use Rattle.std.proofs.Common.{arith}
use Rattle.propagate.proofs.Same.{propagated_none, propagated_twice}
use Rattle.propagate.proofs.new_clauses.settle_new.Goals as goal

pub loop-id-init : goal.loop-id-init
loop-id-init c = record {
  connected = c.requires.connected;
  kept = propagated_none c.args.arena.now c.args.ring.now c.args.trail.now;
  more = omega arith;
  known = c.requires.known;
}

pub returns-then-not-settle-clause-kept : goal.returns-then-not-settle-clause-kept
returns-then-not-settle-clause-kept c =
    propagated_twice c.args.arena.now c.args.ring.now c.args.trail.now c.loop-id.arena c.loop-id.ring c.loop-id.trail c.settle.new.arena c.settle.new.ring c.settle.new.trail c.loop-id.invariant.kept c.settle.ensures.kept

pub loop-id-preserved : goal.loop-id-preserved
loop-id-preserved c = record {
  connected = c.settle.ensures.settled c.if-not-settle.false;
  kept = propagated_twice c.args.arena.now c.args.ring.now c.args.trail.now c.loop-id.arena c.loop-id.ring c.loop-id.trail c.settle.new.arena c.settle.new.ring c.settle.new.trail c.loop-id.invariant.kept c.settle.ensures.kept;
  more = omega (arith, c.loop-id.invariant.more);
  known = omega (arith, c.loop-id-test.true, c.len.ensures.value, c.settle.ensures.kept.same.count);
}
