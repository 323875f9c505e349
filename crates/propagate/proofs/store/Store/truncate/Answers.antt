use Rattle.std.proofs.Common.{◌∙◌, ap, subst, sym}
use Rattle.std.specs.List.{filter}
use Rattle.std.specs.Prelude.{nat_lt}
use Rattle.propagate.specs.Store.{StoreView, AreNewFrom}
use Rattle.propagate.specs.Layout.{IsKept}
use Rattle.propagate.specs.Lists.{new_from}
use Rattle.propagate.proofs.Stores.{kept_truncate, new_truncate}
use Rattle.propagate.proofs.store.Store.truncate.Goals as goal

pub invariant_of-self : goal.invariant_of-self
invariant_of-self c =
    let new = subst (λ (s : StoreView). AreNewFrom s c.args.len) (sym c.self.view_is) c.requires in
    subst (λ xs. IsKept xs c.self.inside.ring c.self.inside.watched c.self.inside.vars) (sym c.truncate.ensures)
    (kept_truncate c.self.inside.arena c.self.inside.ring c.self.inside.watched c.self.inside.vars c.args.len c.self.invariant new)

pub returns-clause-fresh : goal.returns-clause-fresh
returns-clause-fresh c =
    ap (new_from c.self.inside.watched) c.truncate.ensures
    ∙ new_truncate c.self.inside.arena c.self.inside.watched c.args.len
    ∙ ap (λ (s : StoreView). filter (λ id. nat_lt id c.args.len) s.fresh) c.self.view_is
