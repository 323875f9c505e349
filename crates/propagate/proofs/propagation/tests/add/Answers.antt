use Rattle.propagate.proofs.Rounds.{new_after_add}
use Rattle.propagate.proofs.propagation.tests.add.Goals as goal

pub returns-clause-all_new : goal.returns-clause-all_new
returns-clause-all_new g c =
    new_after_add c.add.result c.args.store.now c.add.new.self _ c.add.ensures.ok c.add.ensures.fresh c.add.ensures.err c.requires.all_new
