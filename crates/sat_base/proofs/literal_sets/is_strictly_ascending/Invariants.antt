use Rattle.std.proofs.Common.{◌≡◌, drop}
use Rattle.sat_base.specs.Lit.{ascends_above}
use Rattle.sat_base.proofs.literal_sets.is_strictly_ascending.Given as goal

abbrev pub invariant-loop-lit : goal.invariant-loop-lit
invariant-loop-lit l = ascends_above l.bound (drop l.lit-index l.lits) ≡ ascends_above 0 l.lits
