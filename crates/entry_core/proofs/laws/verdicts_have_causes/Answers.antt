use Rattle.entry_core.proofs.VerdictCauses.{verdicts_have_causes}
use Rattle.entry_core.proofs.laws.verdicts_have_causes.Goals as goal

pub returns : goal.returns
returns c = verdicts_have_causes
