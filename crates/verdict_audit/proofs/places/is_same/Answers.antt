use Rattle.verdict_audit.proofs.ProofLemmas.{same_members}
use Rattle.verdict_audit.proofs.places.is_same.Goals as goal

pub returns : goal.returns
returns c = same_members c.args.clause.now c.args.other.now c.eq.result c.eq.ensures c.lits.ensures.set c.lits-2.ensures.set
