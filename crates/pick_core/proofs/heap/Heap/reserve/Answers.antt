use Rattle.std.proofs.Common.{◌≡◌, ◌∙◌, ◌<◌, length, ap, subst, sym, arith}
use Rattle.pick_core.specs.declared.heap.Item.{Item}
use Rattle.pick_core.specs.Heap.{IsHeap, item_in, var_at}
use Rattle.pick_core.proofs.Filled.{longer_heap, front, IsLonger}
use Rattle.pick_core.proofs.heap.Heap.reserve.Goals as goal

pub enter-requires : goal.enter-requires
enter-requires c =
    let f = c.fill.ensures.filled in
    let len : c.len-len.result ≡ length c.args.self.now.items.items = omega (arith, c.len-len.ensures) in
    let size : length c.resize-2.new.self.items ≡ c.args.vars = omega (arith, c.in_ok-resize-2.ensures.len) in
    let room : length c.resize.new.self.items ≡ c.args.vars = omega (arith, c.in_ok-resize.ensures.len) in
    let less : length c.args.self.now.items.items < c.args.vars = omega (arith, c.if-vars-len.false, len) in
    let none : Item = record { score = 0; rank = 0; place = 0 } in
    let longer : IsLonger c.args.self.now.items.items c.args.self.now.order.items c.fill.new.self.items.items c.fill.new.self.order.items c.args.vars c.args.at_end = record {
      size = f.size ∙ size;
      more = omega (arith, less);
      few = omega (arith, c.if-vars-ge-MIDDLE.false);
      room = omega (arith, f.room, room);
      old = λ i lt. f.old i (omega (arith, lt, len)) ∙ ap (λ xs. item_in xs i) c.in_ok-resize-2.ensures.items ∙ front c.args.self.now.items.items _ c.args.vars i none (omega (arith, lt, less)) lt;
      old_var = λ i lt. f.old_var i (omega (arith, lt, len)) ∙ ap (λ xs. var_at xs i) c.in_ok-resize.ensures.items ∙ front c.args.self.now.order.items _ c.args.vars i 0 (omega (arith, lt, less)) (omega (arith, lt, c.requires.heap.placed.room));
      rank = λ i ge lt. f.rank i (omega (arith, ge, len)) (omega (arith, lt, size));
      place = λ i ge lt. f.place i (omega (arith, ge, len)) (omega (arith, lt, size));
      var = λ i ge lt. f.var i (omega (arith, ge, len)) (omega (arith, lt, size));
    } in
    subst (IsHeap c.fill.new.self.items.items c.fill.new.self.order.items) (sym c.fill.ensures.count)
    (longer_heap c.args.self.now.items.items c.args.self.now.order.items c.fill.new.self.items.items c.fill.new.self.order.items c.args.vars c.args.self.now.count c.args.at_end c.requires.heap longer)
