use Rattle.std.proofs.Common.{◌≡◌, ◌-◌, ℕ}
use Rattle.pick_core.specs.Heap.{IsDownHeap, HasSameKeys, IsIn}
use Rattle.pick_core.proofs.heap.Heap.lower.Given as goal

-- a heap but for one place
abbrev pub invariant-loop-child : goal.invariant-loop-child
invariant-loop-child l = record {
  heap : IsDownHeap l.self.items.items l.self.order.items l.self.count l.at;
  keys : HasSameKeys l.fn.self.items.items l.self.items.items;
  count : l.self.count ≡ l.fn.self.count;
  waits : (var : ℕ) → IsIn l.fn.self.items.items l.fn.self.count var → IsIn l.self.items.items l.self.count var;
}

abbrev pub decreases-loop-child : goal.decreases-loop-child
decreases-loop-child l = l.self.count - l.at
