use Rattle.std.proofs.Common.{◌≡◌, ℕ}
use Rattle.pick_core.specs.Heap.{IsUpHeap, HasSameKeys, IsIn}
use Rattle.pick_core.proofs.heap.Heap.raise.Given as goal

-- a heap but for one place
abbrev pub invariant-loop-at : goal.invariant-loop-at
invariant-loop-at l = record {
  heap : IsUpHeap l.self.items.items l.self.order.items l.self.count l.at;
  keys : HasSameKeys l.fn.self.items.items l.self.items.items;
  count : l.self.count ≡ l.fn.self.count;
  waits : (var : ℕ) → IsIn l.fn.self.items.items l.fn.self.count var → IsIn l.self.items.items l.self.count var;
}

abbrev pub decreases-loop-at : goal.decreases-loop-at
decreases-loop-at l = l.at
