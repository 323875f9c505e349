use Rattle.std.proofs.Common.{◌<◌, length, subst}
use Rattle.std.specs.Prelude.{All}
use Rattle.propagate.specs.Store.{StoreView}
use Rattle.propagate.proofs.Fresh.{new_known}
use Rattle.propagate.proofs.store.Store.arena.Goals as goal

pub returns-clause-fresh : goal.returns-clause-fresh
returns-clause-fresh c =
    subst (λ (s : StoreView). All (λ id. id < length s.clauses) s.fresh) c.self.view_is (new_known c.self.inside.watched c.self.inside.arena)
