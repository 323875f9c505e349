use Rattle.std.proofs.Common.{length, ap, arith}
use Rattle.clause_arena.proofs.Laid.{length-laid_clauses}
use Rattle.clause_arena.proofs.arena.Arena.keep.Goals as goal

pub compact-kept-requires-clause-size : goal.compact-kept-requires-clause-size
compact-kept-requires-clause-size c =
    omega (arith, c.requires, ap length c.self.view_is, length-laid_clauses c.self.inside.lits.items c.self.inside.bounds.items c.self.inside.names)
