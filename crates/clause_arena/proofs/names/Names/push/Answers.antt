use Rattle.std.proofs.Common.{◌∙◌, List, [], ◌∷◌, ◌++◌, ap, refl, map}
use Rattle.clause_arena.specs.declared.names.Name.{Name}
use Rattle.clause_arena.specs.Naming.{named}
use Rattle.clause_arena.proofs.NameLists.{names_kept, names_pushed}
use Rattle.clause_arena.proofs.Laid.{on_err}
use Rattle.clause_arena.proofs.names.Names.push.Goals as goal

pub returns-in_err-origin-clause-err : goal.returns-in_err-origin-clause-err
returns-in_err-origin-clause-err c =
    on_err c.from_residual-in_err-origin.result _
    (ap (λ (xs : List Name). map (named c.origin_in.new.listed.items) xs) c.reserve.ensures.items
    ∙ names_kept c.self.inside.listed.items c.origin_in.new.listed.items c.self.inside.names.items (record { front = c.origin_in.ensures.kept }) c.self.invariant ∙ c.self.view_is)

pub returns-clause-ok : goal.returns-clause-ok
returns-clause-ok c =
    names_pushed c.self.inside.listed.items c.origin_in.new.listed.items c.self.inside.names.items c.push_reserved.new.self.items _ _ c.args.tag c.args.origin
    (record { front = c.origin_in.ensures.kept }) c.self.invariant c.self.view_is
    (c.push_reserved.ensures.items ∙ ap (λ (xs : List Name). xs ++ record { origin = c.in_ok-origin.origin; tag = c.args.tag } ∷ []) c.reserve.ensures.items) refl c.in_ok-origin.ensures.value
