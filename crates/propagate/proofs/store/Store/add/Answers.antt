use Rattle.std.proofs.Common.{◌∙◌, ◌++◌, ◌∷◌, [], ap, subst, sym, arith, length}
use Rattle.clause_arena.specs.Arena.{ArenaClause}
use Rattle.propagate.specs.Store.{StoreView, AreWithin}
use Rattle.propagate.specs.Lists.{new_from}
use Rattle.propagate.proofs.Stores.{kept_ring, kept_add, new_add, on_either, on_ok}
use Rattle.propagate.proofs.store.Store.add.Goals as goal

pub invariant_of-self : goal.invariant_of-self
invariant_of-self c =
    kept_ring c.self.inside.arena c.self.inside.ring c.reserve.new.self c.self.inside.watched c.self.inside.vars c.self.invariant c.in_err-reserve.ensures.lists
    (omega (arith, c.in_err-reserve.ensures.err_vars)) (omega (arith, c.in_err-reserve.ensures.err_clauses))

pub invariant_of-self-2 : goal.invariant_of-self-2
invariant_of-self-2 c =
    let clause : ArenaClause = record { lits = c.args.clause.now; tag = c.args.tag; origin = c.args.origin } in
    let ring = kept_ring c.self.inside.arena c.self.inside.ring c.reserve.new.self c.self.inside.watched c.self.inside.vars c.self.invariant c.in_ok-reserve.ensures.lists
    (omega (arith, c.in_ok-reserve.ensures.ok_vars)) (omega (arith, c.in_ok-reserve.ensures.ok_clauses)) in
    kept_add c.self.inside.arena c.add.new.self clause c.reserve.new.self c.self.inside.watched c.self.inside.vars ring
    (omega (arith, c.in_ok-reserve.ensures.ok_clauses, c.in-Some.ensures, c.len.ensures.value))
    (subst (λ v. AreWithin v c.args.clause.now) (sym (ap (λ (s : StoreView). s.vars) c.self.view_is)) c.requires)
    (on_either c.add.result _ _ c.add.ensures.ok c.add.ensures.err)

pub returns-clause-fresh : goal.returns-clause-fresh
returns-clause-fresh c =
    let clause : ArenaClause = record { lits = c.args.clause.now; tag = c.args.tag; origin = c.args.origin } in
    on_ok c.add.result _ _
    (λ is. ap (new_from c.self.inside.watched) is ∙ new_add c.self.inside.arena clause c.self.inside.watched c.self.invariant.known
    ∙ ap (λ (s : StoreView). s.fresh ++ length s.clauses ∷ []) c.self.view_is)
    c.add.ensures.ok
