use Rattle.propagate.proofs.Rounds.{new_after_cut}
use Rattle.propagate.proofs.propagation.tests.cut.Goals as goal

pub returns-clause-all_new : goal.returns-clause-all_new
returns-clause-all_new c =
    new_after_cut c.args.store.now c.truncate.new.self c.args.len c.truncate.ensures.clauses c.truncate.ensures.fresh c.requires.all_new
