use Rattle.analyze.proofs.Decided.{below_decision, ready_again, conflict_then}
use Rattle.std.specs.Prelude.{None}
use Rattle.propagate.proofs.Rounds.{fit_decided, settled_after}
use Rattle.analyze.proofs.tests.decide.Goals as goal

pub propagate-requires-clause-paired : goal.propagate-requires-clause-paired
propagate-requires-clause-paired c =
    (fit_decided c.args.store.now c.args.trail.now c.open_level.new.self c.assign.new.self c.args.lit None c.requires.settled
    c.open_level.ensures.entries c.open_level.ensures.looked c.assign.ensures.entries c.assign.ensures.depth c.assign.ensures.looked).paired

pub returns-clause-settled : goal.returns-clause-settled
returns-clause-settled c =
    settled_after c.propagate.result c.propagate.new.store c.propagate.new.trail c.propagate.ensures.paired c.propagate.ensures.fresh c.propagate.ensures.looked

pub returns-clause-ready : goal.returns-clause-ready
returns-clause-ready c =
    ready_again c.propagate.new.store.clauses c.propagate.new.trail c.propagate.result
    (below_decision c.args.store.now.clauses c.propagate.new.store.clauses c.args.trail.now c.open_level.new.self c.assign.new.self c.propagate.new.trail c.args.lit
    c.requires.ready c.requires.trail c.open_level.ensures.entries c.open_level.ensures.depth c.assign.ensures.entries c.assign.ensures.depth
    c.propagate.ensures.depth c.propagate.ensures.same c.propagate.ensures.grown c.propagate.ensures.founded)
    c.propagate.ensures.complete

pub returns-clause-conflict : goal.returns-clause-conflict
returns-clause-conflict c =
    conflict_then c.propagate.new.store.clauses c.propagate.new.trail c.propagate.result
    (below_decision c.args.store.now.clauses c.propagate.new.store.clauses c.args.trail.now c.open_level.new.self c.assign.new.self c.propagate.new.trail c.args.lit
    c.requires.ready c.requires.trail c.open_level.ensures.entries c.open_level.ensures.depth c.assign.ensures.entries c.assign.ensures.depth
    c.propagate.ensures.depth c.propagate.ensures.same c.propagate.ensures.grown c.propagate.ensures.founded)
    c.propagate.ensures.known c.propagate.ensures.refuted
