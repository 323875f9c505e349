use Rattle.std.proofs.Common.{ℕ, take}
use Rattle.std.specs.Prelude.{Contains, ◌↔◌}
use Rattle.analyze.specs.Graph.{IsVariableAbove}
use Rattle.analyze.proofs.learning.variables_of.Given as goal

abbrev pub invariant-loop-place : goal.invariant-loop-place
invariant-loop-place l = (var : ℕ)
    → Contains l.vars.items var ↔ IsVariableAbove l.trail.entries (take l.place-index l.analyzed)
    var
