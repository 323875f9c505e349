use Rattle.std.proofs.Common.{◌≡◌, ℕ}
use Rattle.pick_core.specs.Scores.{Waits}
use Rattle.pick_core.proofs.scores.tests.decay.Given as goal

-- nothing leaves
abbrev pub invariant-loop : goal.invariant-loop
invariant-loop l = record {
  vars : l.scores.vars ≡ l.fn.scores.vars;
  wait : (var : ℕ) → Waits l.fn.scores var → Waits l.scores var;
}
