use Rattle.sat_base.proofs.Entailment.{one}
use Rattle.sat_base.proofs.laws.one_answer.Goals as goal

pub returns : goal.returns
returns c = one
