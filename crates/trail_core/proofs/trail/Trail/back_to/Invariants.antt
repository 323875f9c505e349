use Rattle.std.proofs.Common.{◌≡◌, ◌<◌, ◌≤◌, ℕ, length, take, min}
use Rattle.trail_core.specs.Trail.{entry_at}
use Rattle.trail_core.proofs.trail.Trail.back_to.Given as goal

-- what is left is a front, and the rest of the trail is above the level
abbrev pub invariant-loop-self : goal.invariant-loop-self
invariant-loop-self l = record {
  front : l.self.entries ≡ take (length l.self.entries) l.fn.self.entries;
  within : length l.self.entries ≤ length l.fn.self.entries;
  above : (k : ℕ) → length l.self.entries ≤ k → k < length l.fn.self.entries → l.level < (entry_at l.fn.self.entries k).level;
  depth : l.self.depth ≡ l.fn.self.depth;
  vars : l.self.vars ≡ l.fn.self.vars;
  looked : min l.self.looked (length l.self.entries) ≡ min l.fn.self.looked (length l.self.entries);
}

abbrev pub decreases-loop-self : goal.decreases-loop-self
decreases-loop-self l = length l.self.entries
