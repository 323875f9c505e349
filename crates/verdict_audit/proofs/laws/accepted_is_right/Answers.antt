use Rattle.verdict_audit.proofs.Accepted.{accepted_is_right}
use Rattle.verdict_audit.proofs.laws.accepted_is_right.Goals as goal

pub returns : goal.returns
returns c = accepted_is_right
