use Rattle.std.proofs.Common.{◌≡◌, ◌-◌, ◌/◌, ◌<◌, ◌≤◌, ℕ, length}
use Rattle.pick_core.specs.Heap.{item_in}
use Rattle.pick_core.proofs.heap.Heap.shift.Given as goal

-- divided up to this place
abbrev pub invariant-loop-index : goal.invariant-loop-index
invariant-loop-index l = record {
  size : length l.self.items.items ≡ length l.fn.self.items.items;
  order : l.self.order.items ≡ l.fn.self.order.items;
  count : l.self.count ≡ l.fn.self.count;
  score : (i : ℕ) → i < l.index → (item_in l.self.items.items i).score ≡ (item_in l.fn.self.items.items i).score / 1099511627776;
  later : (i : ℕ) → l.index ≤ i → (item_in l.self.items.items i).score ≡ (item_in l.fn.self.items.items i).score;
  rank : (i : ℕ) → (item_in l.self.items.items i).rank ≡ (item_in l.fn.self.items.items i).rank;
  place : (i : ℕ) → (item_in l.self.items.items i).place ≡ (item_in l.fn.self.items.items i).place;
}

abbrev pub decreases-loop-index : goal.decreases-loop-index
decreases-loop-index l = length l.self.items.items - l.index
