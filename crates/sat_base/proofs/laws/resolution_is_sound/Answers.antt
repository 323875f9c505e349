use Rattle.sat_base.proofs.Entailment.{resolution}
use Rattle.sat_base.proofs.laws.resolution_is_sound.Goals as goal

pub returns : goal.returns
returns c = resolution
