use Rattle.std.proofs.Common.{take}
use Rattle.std.specs.Prelude.{All}
use Rattle.sat_base.specs.Lit.{IsLit}
use Rattle.sat_base.proofs.literal_sets.look_at.Given as goal

abbrev pub invariant-loop-lit : goal.invariant-loop-lit
invariant-loop-lit l = All IsLit (take l.lit-index l.lits)
