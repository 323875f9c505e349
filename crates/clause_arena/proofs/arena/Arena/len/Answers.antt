use Rattle.std.proofs.Common.{arith, ap, sym, subst, length}
use Rattle.std.proofs.lemmas.List.Elements.{All-from_get_or}
use Rattle.clause_arena.specs.Arena.{ArenaClause, HasNoRepeat, no_clause}
use Rattle.clause_arena.proofs.Laid.{length-laid_clauses, known}
use Rattle.clause_arena.proofs.arena.Arena.len.Goals as goal

pub returns-clause-value : goal.returns-clause-value
returns-clause-value c = omega (arith, length-laid_clauses c.self.inside.lits.items c.self.inside.bounds.items c.self.inside.names, ap length c.self.view_is)

pub returns-clause-distinct : goal.returns-clause-distinct
returns-clause-distinct c =
    All-from_get_or (λ (clause : ArenaClause). HasNoRepeat clause.lits) c.args.self.now no_clause
    (λ id lt. let k = known c.self.inside.lits.items c.self.inside.bounds.items c.self.inside.names _ id c.self.view_is lt in
    subst (λ (clause : ArenaClause). HasNoRepeat clause.lits) (sym k.is) (c.self.invariant.distinct id k.within))
