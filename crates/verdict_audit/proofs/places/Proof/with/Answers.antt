use Rattle.std.proofs.Common.{◌∙◌, [], ◌∷◌, ◌++◌, rules, sym, subst, ap}
use Rattle.trace_core.specs.Trace.{IsOkStep}
use Rattle.verdict_audit.proofs.ProofLemmas.{clash, same_table, viewed}
use Rattle.verdict_audit.proofs.places.Proof.with.Goals as goal

pub returns-then-not-branch-clause-refused : goal.returns-then-not-branch-clause-refused
returns-then-not-branch-clause-refused c = λ _ ok. absurd (clash _ (c.in_ok-check.ensures.exact.1 (subst (λ table. IsOkStep table c.args.step) (sym (same_table c.args.self _ _ _ (ap (λ p. p.inputs) c.self.view_is) (ap (λ p. p.steps) c.self.view_is) c.self.invariant)) ok)) (search rules))

pub returns-clause-taken : goal.returns-clause-taken
returns-clause-taken c = (
  subst (λ table. IsOkStep table c.args.step) (same_table c.args.self _ _ _ (ap (λ p. p.inputs) c.self.view_is) (ap (λ p. p.steps) c.self.view_is) c.self.invariant) (c.in_ok-check.ensures.exact.0 (search rules)),
  viewed _ _ _ _ _ _ (ap (λ p. p.part) c.self.view_is) (c.in_ok-check.ensures.inputs ∙ ap (λ p. p.inputs) c.self.view_is) (c.in_ok-push.ensures.items ∙ ap (λ ss. ss ++ c.args.step ∷ []) (ap (λ p. p.steps) c.self.view_is)),
)
