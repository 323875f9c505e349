use Rattle.std.proofs.Common.{◌∙◌, ap, sym, arith}
use Rattle.clause_arena.proofs.Laid.{known}
use Rattle.clause_arena.proofs.arena.Arena.tag.Goals as goal

pub tag-requires : goal.tag-requires
tag-requires c = let k = known c.self.inside.lits.items c.self.inside.bounds.items c.self.inside.names _ c.args.id c.self.view_is c.requires in omega (arith, k.within, c.self.invariant.named)

pub returns : goal.returns
returns c = let k = known c.self.inside.lits.items c.self.inside.bounds.items c.self.inside.names _ c.args.id c.self.view_is c.requires in c.tag.ensures ∙ sym (ap (λ clause. clause.tag) k.is)
