use Rattle.std.proofs.Common.{rules, ◌∙◌, ◌<◌, subst, sym, arith}
use Rattle.pick_core.specs.Heap.{IsDownHeap, IsIn, IsBestChild, weight_in}
use Rattle.pick_core.proofs.Heaps.{lower_step, same_keys, still_in}
use Rattle.pick_core.proofs.heap.Heap.lower.Goals as goal

pub loop-child-preserved : goal.loop-child-preserved
loop-child-preserved c =
    let d = c.loop-child.invariant.heap in
    let x = c.exchange.ensures.exchanged in
    let b : IsBestChild c.loop-child.self.items.items c.loop-child.self.order.items c.loop-child.self.count c.loop-child.at c.in-Some.child = c.in-Some.ensures.some in
    let less : weight_in c.loop-child.self.items.items c.loop-child.self.order.items c.loop-child.at < weight_in c.loop-child.self.items.items c.loop-child.self.order.items c.in-Some.child = search rules in
    record {
      heap = subst (λ n. IsDownHeap c.exchange.new.self.items.items c.exchange.new.self.order.items n c.in-Some.child) (sym c.exchange.ensures.count)
          (lower_step c.loop-child.self.items.items c.loop-child.self.order.items c.exchange.new.self.items.items c.exchange.new.self.order.items c.loop-child.self.count c.loop-child.at c.in-Some.child d x b less);
      keys = same_keys _ c.loop-child.self.items.items c.exchange.new.self.items.items c.loop-child.invariant.keys x.keys;
      count = c.exchange.ensures.count ∙ c.loop-child.invariant.count;
      waits = λ var i. subst (λ n. IsIn c.exchange.new.self.items.items n var) (sym c.exchange.ensures.count)
          (still_in c.loop-child.self.items.items c.loop-child.self.order.items c.exchange.new.self.items.items c.exchange.new.self.order.items c.in-Some.child c.loop-child.at c.loop-child.self.count var d.placed x b.within (omega (arith, b.within, b.low)) d.count_within (c.loop-child.invariant.waits var i));
    }
