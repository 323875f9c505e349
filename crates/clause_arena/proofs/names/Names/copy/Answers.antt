use Rattle.std.proofs.Common.{◌≡◌, ◌∙◌, List, set, ap, sym, get_or}
use Rattle.std.proofs.lemmas.List.{map-set, get_or_read}
use Rattle.std.proofs.Math.ListN.{get_or-map}
use Rattle.clause_arena.specs.declared.names.Name.{Name}
use Rattle.clause_arena.specs.Named.{Named}
use Rattle.clause_arena.specs.Naming.{named}
use Rattle.clause_arena.proofs.names.Names.copy.Goals as goal

pub returns : goal.returns
returns c =
    let f : Name → Named = named c.self.inside.listed.items in
    let read : f c.index.result.now ≡ get_or c.args.self.now c.args.from (f c.index.result.now) =
    ap f c.index.ensures ∙ sym (get_or-map f c.self.inside.names.items c.args.from c.index.result.now) ∙ ap (λ (xs : List Named). get_or xs c.args.from (f c.index.result.now)) c.self.view_is in
    map-set f c.self.inside.names.items c.args.to c.index.result.now
    ∙ ap (λ (xs : List Named). set xs c.args.to (f c.index.result.now)) c.self.view_is
    ∙ ap (set c.args.self.now c.args.to) (get_or_read c.args.self.now c.args.from (f c.index.result.now) c.requires.from read _)
