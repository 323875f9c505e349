-- How scores are kept.
use Rattle.std.specs.Prelude.{ℕ, ◌≤◌, nat_lt, map, length, Bool}
use Rattle.pick_core.specs.declared.heap.Item.{Item}
use Rattle.pick_core.specs.declared.scores.Scores.TheInside.{Inside}
use Rattle.pick_core.specs.Heap.{IsHeap}
use Rattle.pick_core.specs.Scores.{ScoresView}

abbrev pub score_in : Item → ℕ
score_in item = item.score

abbrev pub rank_in : Item → ℕ
rank_in item = item.rank

abbrev pub waits_in : ℕ → Item → Bool
waits_in count item = nat_lt item.place count

abbrev pub scores_of : Inside → ScoresView
scores_of a = record {
  scores = map score_in a.heap.items.items;
  ranks = map rank_in a.heap.items.items;
  waiting = map (waits_in a.heap.count) a.heap.items.items;
  increment = a.increment;
  vars = length a.heap.items.items;
}

pub record AreKept (a : Inside) : Type 0 where
  pub heap : IsHeap a.heap.items.items a.heap.order.items a.heap.count
  pub bound : a.increment ≤ 288230376151711744
