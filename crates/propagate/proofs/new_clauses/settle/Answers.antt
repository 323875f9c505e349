use Rattle.std.proofs.Common.{◌<◌, arith, refl, length}
use Rattle.propagate.specs.Lists.{IsConnected, new_from}
use Rattle.propagate.proofs.Same.{within_at, propagated_twice}
use Rattle.propagate.proofs.Settles.{connected_settled, connected_rearranged, propagated_rearranged, ready_first, own_two}
use Rattle.propagate.proofs.new_clauses.settle.Goals as goal
use Rattle.propagate.proofs.new_clauses.settle.Goals.{After-choose}

pub choose-requires-clause-ready : goal.choose-requires-clause-ready
choose-requires-clause-ready c = ready_first c.args.arena.now c.args.ring.now c.args.trail.now c.args.id c.requires.known c.requires.connected

connected : (c : After-choose) → IsConnected c.choose.new.arena (new_from c.args.id c.choose.new.arena) c.args.ring.now c.args.trail.now
connected c = connected_rearranged c.args.arena.now c.choose.new.arena c.args.ring.now c.args.trail.now c.args.id c.requires.known c.choose.ensures.rearranged c.requires.connected

known : (c : After-choose) → c.args.id < length c.choose.new.arena
known c = omega (arith, c.requires.known, c.choose.ensures.rearranged.count)

pub settle_one-requires-clause-connected : goal.settle_one-requires-clause-connected
settle_one-requires-clause-connected c = connected (goal.at.settle_one-requires-clause-connected c).After-choose

pub watch-requires-clause-reserved : goal.watch-requires-clause-reserved
watch-requires-clause-reserved c =
    let s = (goal.at.watch-requires-clause-reserved c).After-choose in
    within_at c.args.ring.now.vars c.choose.new.arena c.args.id (known s) (connected s).reserved

pub watch-requires-clause-lists : goal.watch-requires-clause-lists
watch-requires-clause-lists c = (connected (goal.at.watch-requires-clause-lists c).After-choose).lists

pub returns-in-False-clause-kept : goal.returns-in-False-clause-kept
returns-in-False-clause-kept c =
    propagated_rearranged c.args.arena.now c.choose.new.arena c.args.ring.now c.args.ring.now c.args.trail.now c.args.id c.choose.ensures.rearranged refl refl

pub returns-in-False-clause-still_new : goal.returns-in-False-clause-still_new
returns-in-False-clause-still_new c = λ no. connected (goal.at.returns-in-False-clause-still_new c).After-choose

pub returns-in-One-clause-kept : goal.returns-in-One-clause-kept
returns-in-One-clause-kept c =
    propagated_twice c.args.arena.now c.args.ring.now c.args.trail.now c.choose.new.arena c.args.ring.now c.args.trail.now c.choose.new.arena c.settle_one.new.ring c.settle_one.new.trail
    (propagated_rearranged c.args.arena.now c.choose.new.arena c.args.ring.now c.args.ring.now c.args.trail.now c.args.id c.choose.ensures.rearranged refl refl)
    c.settle_one.ensures.kept

pub returns-in-Two-clause-kept : goal.returns-in-Two-clause-kept
returns-in-Two-clause-kept c =
    propagated_rearranged c.args.arena.now c.choose.new.arena c.args.ring.now c.watch.new.ring c.args.trail.now c.args.id c.choose.ensures.rearranged c.watch.ensures.vars c.watch.ensures.clauses

pub returns-in-Two-clause-settled : goal.returns-in-Two-clause-settled
returns-in-Two-clause-settled c = λ yes.
    let s = (goal.at.returns-in-Two-clause-settled c).After-choose in
    connected_settled c.choose.new.arena c.args.ring.now c.watch.new.ring c.args.trail.now c.args.id (known s) (connected s) c.watch.ensures.vars c.watch.ensures.clauses c.watch.ensures.lists
    (own_two c.choose.new.arena c.args.id c.args.trail.now c.choose.ensures.trail c.in-Two.ensures.chosen)
