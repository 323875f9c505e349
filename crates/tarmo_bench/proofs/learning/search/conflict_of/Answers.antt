use Rattle.std.proofs.Common.{refl}
use Rattle.std.specs.Prelude.{None}
use Rattle.propagate.proofs.Rounds.{fit_decided}
use Rattle.analyze.proofs.Decided.{below_decision, conflict_then}
use Rattle.tarmo_bench.proofs.learning.search.conflict_of.Goals as goal

pub propagate-requires-clause-paired : goal.propagate-requires-clause-paired
propagate-requires-clause-paired c =
    (fit_decided c.begin.new.store c.begin.new.trail c.open_level.new.self c.assign.new.self c.args.lit
    None (c.if-not-begin.ensures.settled refl) c.open_level.ensures.entries c.open_level.ensures.looked
    c.assign.ensures.entries c.assign.ensures.depth c.assign.ensures.looked).paired

pub returns-clause-conflict : goal.returns-clause-conflict
returns-clause-conflict c =
    conflict_then c.propagate.new.store.clauses c.propagate.new.trail c.propagate.result
    (below_decision c.begin.new.store.clauses c.propagate.new.store.clauses c.begin.new.trail c.open_level.new.self c.assign.new.self c.propagate.new.trail c.args.lit
    (c.if-not-begin.ensures.ready refl) c.value.ensures.trail c.open_level.ensures.entries c.open_level.ensures.depth c.assign.ensures.entries c.assign.ensures.depth
    c.propagate.ensures.depth c.propagate.ensures.same c.propagate.ensures.grown c.propagate.ensures.founded)
    c.propagate.ensures.known c.propagate.ensures.refuted
