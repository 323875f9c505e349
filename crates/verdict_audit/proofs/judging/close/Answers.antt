use Rattle.std.proofs.Common.{rules}
use Rattle.verdict_audit.proofs.CaseLemmas.{given_back}
use Rattle.verdict_audit.proofs.judging.close.Goals as goal

pub returns-then-branch-clause-spare : goal.returns-then-branch-clause-spare
returns-then-branch-clause-spare c = λ case tally job spare. given_back case tally c.in-Step.proof c.args.place c.into_checker.result (search rules) job c.into_checker.ensures.inputs c.into_checker.ensures.steps
