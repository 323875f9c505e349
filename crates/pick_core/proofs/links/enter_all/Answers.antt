use Rattle.std.proofs.Common.{◌≡◌, ℕ, List, subst, sym, arith}
use Rattle.pick_core.specs.Links.{IsOrder}
use Rattle.pick_core.specs.Queue.{entered}
use Rattle.pick_core.proofs.Entered.{entered_more, entered_size}
use Rattle.pick_core.proofs.links.enter_all.Goals as goal

pub enter-requires : goal.enter-requires
enter-requires c =
    let size = entered_size c.args.at_end c.requires.order c.args.from c.loop-var.var in
    record {
      order = entered c.args.at_end c.requires.order c.args.from c.loop-var.var;
      is = c.loop-var.invariant.order c.requires.order c.requires.is (sym c.requires.next);
      next = omega (arith, size, c.requires.next, c.loop-var.invariant.low);
      within = omega (arith, c.requires.within, c.loop-var-test.true, c.loop-var.invariant.size);
    }

pub loop-var-preserved : goal.loop-var-preserved
loop-var-preserved c = record {
  low = omega (arith, c.loop-var.invariant.low);
  high = omega (arith, c.loop-var-test.true);
  size = omega (arith, c.enter.ensures.size, c.loop-var.invariant.size);
  order = λ order o n.
      let size = entered_size c.args.at_end order c.args.from c.loop-var.var in
      subst (λ (xs : List ℕ). IsOrder c.enter.new.links.items xs) (sym (entered_more c.args.at_end order c.args.from c.loop-var.var c.loop-var.invariant.low))
      (c.enter.ensures.order (entered c.args.at_end order c.args.from c.loop-var.var) (c.loop-var.invariant.order order o n) (omega (arith, size, n, c.loop-var.invariant.low)));
}

pub returns-clause-order : goal.returns-clause-order
returns-clause-order c = λ order o n.
    let last : c.loop-var.var ≡ c.args.to = omega (arith, c.loop-var-test.false, c.loop-var.invariant.high) in
    subst (λ k. IsOrder c.loop-var.links.items (entered c.args.at_end order c.args.from k)) last (c.loop-var.invariant.order order o n)
