use Rattle.std.proofs.Common.{◌≡◌, subst, arith}
use Rattle.std.proofs.lemmas.List.{get_or_read}
use Rattle.pick_core.specs.Heap.{IsPut, var_at}
use Rattle.pick_core.proofs.Heaps.{exchanged}
use Rattle.pick_core.proofs.heap.Heap.exchange.Goals as goal

pub returns-clause-exchanged : goal.returns-clause-exchanged
returns-clause-exchanged c =
    let var : c.index-var.result.now ≡ var_at c.args.self.now.order.items c.args.first = get_or_read c.args.self.now.order.items c.args.first c.index-var.result.now (omega (arith, c.requires.first, c.requires.placed.room)) c.index-var.ensures 0 in
    let other : c.index-other.result.now ≡ var_at c.args.self.now.order.items c.args.second = get_or_read c.args.self.now.order.items c.args.second c.index-other.result.now (omega (arith, c.requires.second, c.requires.placed.room)) c.index-other.ensures 0 in
    exchanged c.args.self.now.items.items c.args.self.now.order.items c.put.new.self.items.items c.put.new.self.order.items c.put-2.new.self.items.items c.put-2.new.self.order.items c.args.first c.args.second c.requires.placed c.requires.first c.requires.second
    (subst (IsPut c.args.self.now.items.items c.args.self.now.order.items c.put.new.self.items.items c.put.new.self.order.items c.args.first) other c.put.ensures.put)
    (subst (IsPut c.put.new.self.items.items c.put.new.self.order.items c.put-2.new.self.items.items c.put-2.new.self.order.items c.args.second) var c.put-2.ensures.put)
