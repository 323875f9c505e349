use Rattle.verdict_audit.proofs.OneFinding.{has_one_finding}
use Rattle.verdict_audit.proofs.laws.audit_has_one_finding.Goals as goal

pub returns : goal.returns
returns c = has_one_finding
