use Rattle.std.proofs.Common.{refl, ap}
use Rattle.propagate.specs.Store.{StoreView}
use Rattle.session.proofs.Reserved.{new_search}
use Rattle.session.proofs.search.Search.new.Goals as goal

pub returns-clause-kept : goal.returns-clause-kept
returns-clause-kept c =
    new_search _ (ap (λ (x : StoreView). x.clauses) c.new.ensures)
    (ap (λ (x : StoreView). x.fresh) c.new.ensures) c.new-2.ensures.entries c.new-2.ensures.depth c.new-2.ensures.looked c.new-2.ensures.vars c.new-9.ensures c.new-10.ensures c.new-11.ensures.items refl c.new-6.ensures.items refl refl c.new-7.ensures.is c.new-7.ensures.none
    (c.new-7.ensures.offers c.new-2.result.entries)
