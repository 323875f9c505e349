use Rattle.std.proofs.Common.{◌≡◌, ◌++◌, drop, map}
use Rattle.std.specs.Prelude.{not}
use Rattle.sat_base.specs.Lit.{is_negative}
use Rattle.verdict_text.proofs.lines.values_of.Given as goal

abbrev pub invariant-loop-lit : goal.invariant-loop-lit
invariant-loop-lit l = l.values.items ++ map (λ lit. not (is_negative lit)) (drop l.lit-index l.lits) ≡ map (λ lit. not (is_negative lit)) l.lits
