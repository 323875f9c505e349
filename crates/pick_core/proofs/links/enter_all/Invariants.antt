use Rattle.std.proofs.Common.{◌-◌, ◌≡◌, ◌≤◌, ℕ, List, length}
use Rattle.pick_core.specs.Links.{IsOrder}
use Rattle.pick_core.specs.Queue.{entered}
use Rattle.pick_core.proofs.links.enter_all.Given as goal

-- entered up to this variable
abbrev pub invariant-loop-var : goal.invariant-loop-var
invariant-loop-var l = record {
  low : l.fn.from ≤ l.var;
  high : l.var ≤ l.to;
  size : length l.links.items ≡ length l.fn.links.items;
  order : (order : List ℕ) → IsOrder l.fn.links.items order → length order ≡ l.fn.from → IsOrder l.links.items (entered l.fn.at_end order l.fn.from l.var);
}

abbrev pub decreases-loop-var : goal.decreases-loop-var
decreases-loop-var l = l.to - l.var
