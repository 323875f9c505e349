use Rattle.sat_base.proofs.Entailment.{sees_members}
use Rattle.sat_base.proofs.laws.truth_sees_members.Goals as goal

pub returns : goal.returns
returns c = sees_members
