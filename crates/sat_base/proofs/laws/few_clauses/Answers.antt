use Rattle.sat_base.proofs.Counting.{few}
use Rattle.sat_base.proofs.laws.few_clauses.Goals as goal

pub returns : goal.returns
returns c = few
