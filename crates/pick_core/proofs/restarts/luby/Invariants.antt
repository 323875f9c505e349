use Rattle.std.proofs.Common.{ℕ, ◌≤◌}
use Rattle.pick_core.specs.Luby.{IsLuby}
use Rattle.pick_core.proofs.restarts.luby.Given as goal

-- what stands at this place stands at the first one
abbrev pub invariant-loop-place : goal.invariant-loop-place
invariant-loop-place l = record {
  low : 1 ≤ l.at;
  leads : (item : ℕ) → IsLuby l.at item → IsLuby l.fn.place item;
}

abbrev pub decreases-loop-place : goal.decreases-loop-place
decreases-loop-place l = l.at
