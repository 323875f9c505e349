use Rattle.sat_base.proofs.Entailment.{cube_contradicts}
use Rattle.sat_base.proofs.laws.cube_contradicts_its_negation.Goals as goal

pub returns : goal.returns
returns c = cube_contradicts
