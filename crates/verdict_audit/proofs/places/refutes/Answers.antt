use Rattle.std.proofs.Common.{rules, refl}
use Rattle.verdict_audit.proofs.ProofLemmas.{clash, none_refutes, last_refutes}
use Rattle.verdict_audit.proofs.places.refutes.Goals as goal

pub returns-then-is_empty : goal.returns-then-is_empty
returns-then-is_empty c = (λ holds. absurd (clash _ holds refl), λ refuted. absurd (none_refutes c.args.part.now c.args.steps.now (search rules) refuted))

pub returns : goal.returns
returns c = last_refutes c.args.part.now c.args.steps.now c.index-steps-steps.result c.in_ok-negated.negated c.is_same.result (search rules) (search rules) c.in_ok-negated.ensures.members c.is_same.ensures
