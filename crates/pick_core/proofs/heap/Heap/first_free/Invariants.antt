use Rattle.std.proofs.Common.{◌≤◌, ℕ, length}
use Rattle.trail_core.specs.Trail.{IsFree}
use Rattle.pick_core.specs.Heap.{IsHeap, HasSameKeys, IsIn}
use Rattle.pick_core.proofs.heap.Heap.first_free.Given as goal

-- each free variable waits
abbrev pub invariant-loop-self : goal.invariant-loop-self
invariant-loop-self l = record {
  heap : IsHeap l.self.items.items l.self.order.items l.self.count;
  keys : HasSameKeys l.fn.self.items.items l.self.items.items;
  waits : (var : ℕ) → 1 ≤ var → var ≤ length l.fn.self.items.items → IsFree l.trail.entries var → IsIn l.self.items.items l.self.count var;
}

abbrev pub decreases-loop-self : goal.decreases-loop-self
decreases-loop-self l = l.self.count
