use Rattle.std.proofs.Common.{arith}
use Rattle.sat_base.proofs.Ascending.{no_tautology}
use Rattle.sat_base.proofs.literal_sets.has_both_signs.Goals as goal

pub returns : goal.returns
returns c = (
  λ h. cc,
  λ both. absurd (no_tautology c.args.lits.now c.requires (λ k from below is. c.loop-i.invariant k from (omega arith) is) both),
)
