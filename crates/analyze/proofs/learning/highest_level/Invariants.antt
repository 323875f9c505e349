use Rattle.std.proofs.Common.{◌≡◌, ◌≢◌, ◌≤◌, ◌⊎◌, ℕ, take}
use Rattle.std.specs.Prelude.{Contains}
use Rattle.analyze.specs.Graph.{level_at}
use Rattle.analyze.proofs.learning.highest_level.Given as goal

abbrev pub invariant-loop-place : goal.invariant-loop-place
invariant-loop-place l = record {
  bound : (place : ℕ) → Contains (take l.place-index l.places) place → place ≢ l.but → level_at l.trail.entries place ≤ l.highest;
  reached : (l.highest ≡ 0) ⊎ ((place : ℕ) × Contains l.places place × (place ≢ l.but) × (level_at l.trail.entries place ≡ l.highest));
}
