use Rattle.std.proofs.Common.{rules, ◌∙◌, ◌+◌, ◌-◌, ◌*◌, ◌/◌, ◌<◌, ◌≤◌, subst, sym, arith}
use Rattle.pick_core.specs.Heap.{IsUpHeap, IsIn, weight_in}
use Rattle.pick_core.proofs.Heaps.{raise_step, same_keys, still_in}
use Rattle.pick_core.proofs.heap.Heap.raise.Goals as goal

pub loop-at-preserved : goal.loop-at-preserved
loop-at-preserved c =
    let u = c.loop-at.invariant.heap in
    let x = c.exchange.ensures.exchanged in
    let parent = (c.loop-at.at - 1) / 2 in
    let low : 2 * parent + 1 ≤ c.loop-at.at = omega (arith, c.loop-at-test.true) in
    let high : c.loop-at.at ≤ 2 * parent + 2 = omega arith in
    let less : weight_in c.loop-at.self.items.items c.loop-at.self.order.items parent < weight_in c.loop-at.self.items.items c.loop-at.self.order.items c.loop-at.at = search rules in
    record {
      heap = subst (λ n. IsUpHeap c.exchange.new.self.items.items c.exchange.new.self.order.items n parent) (sym c.exchange.ensures.count)
          (raise_step c.loop-at.self.items.items c.loop-at.self.order.items c.exchange.new.self.items.items c.exchange.new.self.order.items c.loop-at.self.count c.loop-at.at parent u x low high less);
      keys = same_keys c.args.self.now.items.items c.loop-at.self.items.items c.exchange.new.self.items.items c.loop-at.invariant.keys x.keys;
      count = c.exchange.ensures.count ∙ c.loop-at.invariant.count;
      waits = λ var i. subst (λ n. IsIn c.exchange.new.self.items.items n var) (sym c.exchange.ensures.count)
          (still_in c.loop-at.self.items.items c.loop-at.self.order.items c.exchange.new.self.items.items c.exchange.new.self.order.items c.loop-at.at parent c.loop-at.self.count var u.placed x u.at_within (omega (arith, u.at_within)) u.count_within (c.loop-at.invariant.waits var i));
    }
