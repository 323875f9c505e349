use Rattle.std.proofs.Common.{◌∙◌, rules, inr, subst, refl}
use Rattle.std.specs.Prelude.{◌↔◌, All, Contains, IsTrue}
use Rattle.verdict_text.specs.Line.{part_line_of}
use Rattle.verdict_audit.specs.Case.{cube_of}
use Rattle.verdict_audit.proofs.CaseLemmas.{fresh_spare}
use Rattle.verdict_audit.proofs.JudgeLemmas.{part_refused, part_taken}
use Rattle.verdict_audit.proofs.ProofLemmas.{viewed}
use Rattle.verdict_audit.proofs.judging.take_part.Goals as goal

pub returns-then-not-is_within-clause-outcome : goal.returns-then-not-is_within-clause-outcome
returns-then-not-is_within-clause-outcome c = inr (part_refused c.args.problem.now c.args.tally (part_line_of c.args.line.now) c.in-Some.part c.is_within.result (search rules)
    (subst (λ ps. IsTrue c.is_within.result ↔ All (Contains (cube_of c.args.problem.now c.args.tally.begun)) ps) c.lits.ensures.value (subst (λ cs. IsTrue c.is_within.result ↔ All (Contains cs) c.lits.result.now) (c.lits-2.ensures.value ∙ c.cube.ensures) c.is_within.ensures)) (search rules))

pub returns-clause-outcome : goal.returns-clause-outcome
returns-clause-outcome c = part_taken c.args.problem.now c.args.tally (part_line_of c.args.line.now) c.in-Some.part c.is_within.result c.begin.result (search rules)
    (subst (λ ps. IsTrue c.is_within.result ↔ All (Contains (cube_of c.args.problem.now c.args.tally.begun)) ps) c.lits.ensures.value (subst (λ cs. IsTrue c.is_within.result ↔ All (Contains cs) c.lits.result.now) (c.lits-2.ensures.value ∙ c.cube.ensures) c.is_within.ensures)) (search rules)
    (c.begin.ensures ∙ viewed _ _ _ _ _ _ refl c.in_ok-checker.ensures.inputs refl)

pub returns-clause-spare : goal.returns-clause-spare
returns-clause-spare c = fresh_spare c.args.problem.now c.replace-held.new.dest (search rules) (search rules)
