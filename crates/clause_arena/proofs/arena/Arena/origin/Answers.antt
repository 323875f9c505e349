use Rattle.std.proofs.Common.{◌∙◌, ap, sym, arith}
use Rattle.clause_arena.proofs.Laid.{known}
use Rattle.clause_arena.proofs.arena.Arena.origin.Goals as goal

pub origin-requires : goal.origin-requires
origin-requires c = let k = known c.self.inside.lits.items c.self.inside.bounds.items c.self.inside.names _ c.args.id c.self.view_is c.requires in omega (arith, k.within, c.self.invariant.named)

pub returns : goal.returns
returns c = let k = known c.self.inside.lits.items c.self.inside.bounds.items c.self.inside.names _ c.args.id c.self.view_is c.requires in c.origin.ensures ∙ sym (ap (λ clause. clause.origin) k.is)
