use Rattle.std.proofs.Common.{◌∙◌, sym, arith}
use Rattle.clause_arena.proofs.Front.{cut_back, cut_nothing}
use Rattle.clause_arena.proofs.arena.Arena.truncate.Goals as goal

pub invariant_of-self : goal.invariant_of-self
invariant_of-self c =
    (cut_back c.self.inside.lits.items c.self.inside.bounds.items c.truncate.new.self.items c.self.inside.names c.args.self.now c.args.len
    c.self.invariant c.self.view_is (omega (arith, c.if-len.true, c.len.ensures)) c.truncate.ensures.items).laid

pub returns-then-len : goal.returns-then-len
returns-then-len c =
    (cut_back c.self.inside.lits.items c.self.inside.bounds.items c.truncate.new.self.items c.self.inside.names c.args.self.now c.args.len
    c.self.invariant c.self.view_is (omega (arith, c.if-len.true, c.len.ensures)) c.truncate.ensures.items).is

pub returns-else-len : goal.returns-else-len
returns-else-len c =
    sym c.self.view_is
    ∙ cut_nothing c.self.inside.lits.items c.self.inside.bounds.items c.self.inside.names c.args.self.now c.args.len c.self.view_is (omega (arith, c.if-len.false, c.len.ensures))
