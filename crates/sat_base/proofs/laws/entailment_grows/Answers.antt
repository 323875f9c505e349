use Rattle.sat_base.proofs.Entailment.{grows}
use Rattle.sat_base.proofs.laws.entailment_grows.Goals as goal

pub returns : goal.returns
returns c = grows
