use Rattle.std.proofs.Common.{rules, ◌≡◌, ◌<◌, length, subst, sym, arith}
use Rattle.std.proofs.lemmas.List.{get_or_read}
use Rattle.trail_core.specs.Trail.{IsFree}
use Rattle.pick_core.specs.Heap.{IsBest, var_at}
use Rattle.pick_core.proofs.Heaps.{first_is_most}
use Rattle.pick_core.proofs.Choice.{is_assigned_where_not_free}
use Rattle.pick_core.proofs.heap.Heap.first_free.Goals as goal

pub returns-then-is_none-clause-some : goal.returns-then-is_none-clause-some
returns-then-is_none-clause-some c =
    let h = c.loop-self.invariant.heap in
    let within : 0 < length c.loop-self.self.items.items = omega (arith, c.loop-self-test.true, h.count_within) in
    let read : c.index-var.result.now ≡ var_at c.loop-self.self.order.items 0 = get_or_read c.loop-self.self.order.items 0 c.index-var.result.now (omega (arith, within, h.placed.room)) c.index-var.ensures 0 in
    let free : IsFree c.args.trail.now.entries c.index-var.result.now = search rules in
    subst (IsBest c.args.trail.now.entries c.loop-self.self.items.items) (sym read) (record {
      low = h.placed.low 0 within;
      high = h.placed.high 0 within;
      free = subst (IsFree c.args.trail.now.entries) read free;
      best = λ other low high f. first_is_most c.loop-self.self.items.items c.loop-self.self.order.items c.loop-self.self.count other h (c.loop-self.invariant.waits other low (omega (arith, high, c.loop-self.invariant.keys.size)) f);
    })

pub returns-clause-none : goal.returns-clause-none
returns-clause-none c = λ var low high.
    is_assigned_where_not_free c.args.trail.now.entries var (λ f. let i = c.loop-self.invariant.waits var low high f in omega (arith, i.front, c.loop-self-test.false))
