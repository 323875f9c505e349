use Rattle.propagate.proofs.Rounds.{fit_all_new, settled_after}
use Rattle.propagate.proofs.propagation.tests.begin.Goals as goal

pub propagate-requires-clause-paired : goal.propagate-requires-clause-paired
propagate-requires-clause-paired c = (fit_all_new c.args.store.now c.args.trail.now c.requires.all_new c.requires.empty c.requires.depth).paired

pub propagate-requires-clause-ready : goal.propagate-requires-clause-ready
propagate-requires-clause-ready c = (fit_all_new c.args.store.now c.args.trail.now c.requires.all_new c.requires.empty c.requires.depth).ready

pub propagate-requires-clause-pending : goal.propagate-requires-clause-pending
propagate-requires-clause-pending c = (fit_all_new c.args.store.now c.args.trail.now c.requires.all_new c.requires.empty c.requires.depth).pending

pub returns-clause-settled : goal.returns-clause-settled
returns-clause-settled c =
    settled_after c.propagate.result c.propagate.new.store c.propagate.new.trail c.propagate.ensures.paired c.propagate.ensures.fresh c.propagate.ensures.looked
