use Rattle.std.proofs.Common.{◌≡◌, ◌+◌, ◌-◌, ◌<◌, ◌≤◌, ℕ, length}
use Rattle.pick_core.specs.Heap.{item_in, var_at, entry_rank}
use Rattle.pick_core.proofs.heap.Heap.fill.Given as goal

-- filled up to this place
abbrev pub invariant-loop-index : goal.invariant-loop-index
invariant-loop-index l = record {
  low : l.from ≤ l.index;
  size : length l.self.items.items ≡ length l.fn.self.items.items;
  room : length l.self.order.items ≡ length l.fn.self.order.items;
  count : l.self.count ≡ l.fn.self.count;
  old : (i : ℕ) → i < l.from → item_in l.self.items.items i ≡ item_in l.fn.self.items.items i;
  old_var : (i : ℕ) → i < l.from → var_at l.self.order.items i ≡ var_at l.fn.self.order.items i;
  score : (i : ℕ) → l.from ≤ i → i < l.index → i < length l.fn.self.items.items → (item_in l.self.items.items i).score ≡ 0;
  rank : (i : ℕ) → l.from ≤ i → i < l.index → i < length l.fn.self.items.items → (item_in l.self.items.items i).rank ≡ entry_rank l.at_end (i + 1);
  place : (i : ℕ) → l.from ≤ i → i < l.index → i < length l.fn.self.items.items → (item_in l.self.items.items i).place ≡ i;
  var : (i : ℕ) → l.from ≤ i → i < l.index → i < length l.fn.self.items.items → var_at l.self.order.items i ≡ i + 1;
}

abbrev pub decreases-loop-index : goal.decreases-loop-index
decreases-loop-index l = length l.self.items.items - l.index
