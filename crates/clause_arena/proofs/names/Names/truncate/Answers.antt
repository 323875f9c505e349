use Rattle.std.proofs.Common.{◌∙◌, List, ap, sym, map, take}
use Rattle.std.proofs.lemmas.List.{take-map}
use Rattle.clause_arena.specs.declared.names.Name.{Name}
use Rattle.clause_arena.specs.Naming.{named}
use Rattle.clause_arena.proofs.names.Names.truncate.Goals as goal

pub returns : goal.returns
returns c =
    ap (λ (xs : List Name). map (named c.self.inside.listed.items) xs) c.truncate.ensures.items
    ∙ sym (take-map (named c.self.inside.listed.items) c.args.n c.self.inside.names.items)
    ∙ ap (take c.args.n) c.self.view_is
