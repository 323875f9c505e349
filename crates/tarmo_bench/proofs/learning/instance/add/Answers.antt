use Rattle.std.proofs.Common.{subst, sym}
use Rattle.propagate.specs.Store.{StoreView, AreNewFrom}
use Rattle.propagate.proofs.Rounds.{new_from_add}
use Rattle.tarmo_bench.proofs.learning.instance.add.Goals as goal

pub returns-in_err-add-clause-all_new : goal.returns-in_err-add-clause-all_new
returns-in_err-add-clause-all_new c =
    subst (λ (s : StoreView). AreNewFrom s 0) (sym c.in_err-add.ensures.err) c.requires.all_new

pub returns-clause-all_new : goal.returns-clause-all_new
returns-clause-all_new c =
    new_from_add c.args.store.now c.add.new.self _ 0 c.in_ok-add.ensures.ok c.in_ok-add.ensures.fresh
    c.requires.all_new
