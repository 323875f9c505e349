use Rattle.std.proofs.Common.{arith}
use Rattle.propagate.proofs.Stores.{kept_ring, kept_vars}
use Rattle.propagate.proofs.store.Store.reserve.Goals as goal

pub invariant_of-self : goal.invariant_of-self
invariant_of-self c =
    kept_ring c.self.inside.arena c.self.inside.ring c.reserve.new.self c.self.inside.watched c.self.inside.vars c.self.invariant c.in_err-reserve.ensures.lists
    (omega (arith, c.in_err-reserve.ensures.err_vars)) (omega (arith, c.in_err-reserve.ensures.err_clauses))

pub invariant_of-self-2 : goal.invariant_of-self-2
invariant_of-self-2 c =
    let ring = kept_ring c.self.inside.arena c.self.inside.ring c.reserve.new.self c.self.inside.watched c.self.inside.vars c.self.invariant c.in_ok-reserve.ensures.lists
    (omega (arith, c.in_ok-reserve.ensures.ok_vars)) (omega (arith, c.in_ok-reserve.ensures.ok_clauses)) in
    kept_vars c.self.inside.arena c.reserve.new.self c.self.inside.watched c.self.inside.vars c.args.vars ring (omega arith) (omega (arith, c.in_ok-reserve.ensures.ok_vars))
