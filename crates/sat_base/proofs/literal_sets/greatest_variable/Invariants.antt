use Rattle.std.proofs.Common.{◌≡◌, drop}
use Rattle.std.specs.Prelude.{max}
use Rattle.sat_base.specs.Lit.{greatest_of}
use Rattle.sat_base.proofs.literal_sets.greatest_variable.Given as goal

abbrev pub invariant-loop-lit : goal.invariant-loop-lit
invariant-loop-lit l = max l.greatest (greatest_of (drop l.lit-index l.lits)) ≡ greatest_of l.lits
