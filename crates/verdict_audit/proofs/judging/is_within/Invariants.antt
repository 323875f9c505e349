use Rattle.std.proofs.Common.{◌≡◌, ◌≤◌, drop, length}
use Rattle.verdict_audit.proofs.Within.{is_front}
use Rattle.verdict_audit.proofs.judging.is_within.Given as goal

abbrev pub invariant-loop-lit : goal.invariant-loop-lit
invariant-loop-lit l = record {
  front : is_front (drop l.at l.part) (drop l.lit-index l.cube) ≡ is_front l.part l.cube;
  within : l.at ≤ length l.part;
}
