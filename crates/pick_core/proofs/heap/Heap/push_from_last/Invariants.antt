use Rattle.std.proofs.Common.{◌≡◌, ◌-◌, ◌<◌, ◌≤◌, ℕ, length}
use Rattle.pick_core.specs.Heap.{IsHeap, HasSameKeys, IsIn}
use Rattle.pick_core.proofs.heap.Heap.push_from_last.Given as goal

-- pushed down to behind this variable
abbrev pub invariant-loop-var : goal.invariant-loop-var
invariant-loop-var l = record {
  heap : IsHeap l.self.items.items l.self.order.items l.self.count;
  high : l.var ≤ length l.fn.self.items.items;
  keys : HasSameKeys l.fn.self.items.items l.self.items.items;
  pushed : (var : ℕ) → l.var < var → var ≤ length l.fn.self.items.items → IsIn l.self.items.items l.self.count var;
  waits : (var : ℕ) → IsIn l.fn.self.items.items l.fn.self.count var → IsIn l.self.items.items l.self.count var;
}

abbrev pub decreases-loop-var : goal.decreases-loop-var
decreases-loop-var l = l.var
