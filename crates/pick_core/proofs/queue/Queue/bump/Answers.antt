use Rattle.std.proofs.Common.{◌∷◌, length, sym, arith}
use Rattle.pick_core.specs.Queue.{without}
use Rattle.pick_core.proofs.Lists.{one_moved}
use Rattle.pick_core.proofs.Seen.{is_seen, kept_from, order_is}
use Rattle.pick_core.proofs.queue.Queue.bump.Goals as goal

pub invariant_of-self : goal.invariant_of-self
invariant_of-self c =
    let s = is_seen c.self.inside.links.items c.self.inside.cursor c.self.inside.vars c.args.self.now c.self.invariant c.self.view_is in
    let has = s.order.variables.each c.args.var c.requires.low (omega (arith, c.requires.high, s.vars_is, s.size)) in
    let o = c.move_to_end.ensures.order c.args.self.now.order s.order has in
    let q = one_moved c.args.var c.args.self.now.order (length c.args.self.now.order) s.order.variables has in
    kept_from c.move_to_end.new.links.items c.self.inside.vars (c.args.var ∷ without c.args.var c.args.self.now.order) c.args.var o (sym o.linked.0) (omega (arith, s.size, q.size)) (omega (arith, s.tight, c.move_to_end.ensures.size))

pub returns-clause-order : goal.returns-clause-order
returns-clause-order c =
    let s = is_seen c.self.inside.links.items c.self.inside.cursor c.self.inside.vars c.args.self.now c.self.invariant c.self.view_is in
    let has = s.order.variables.each c.args.var c.requires.low (omega (arith, c.requires.high, s.vars_is, s.size)) in
    order_is c.move_to_end.new.links.items (c.args.var ∷ without c.args.var c.args.self.now.order) (c.move_to_end.ensures.order c.args.self.now.order s.order has)
