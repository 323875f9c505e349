use Rattle.std.proofs.Common.{◌≡◌, ◌∙◌, rules, List, ℕ, map, take, ap}
use Rattle.verdict_audit.specs.Case.{inputs_of, known_of_clause}
use Rattle.verdict_audit.proofs.CaseLemmas.{if_ok, spare_grown}
use Rattle.verdict_audit.proofs.problem.Problem.checker.Goals as goal

pub returns-clause-inputs : goal.returns-clause-inputs
returns-clause-inputs c =
    let clauses : List (List ℕ) = take c.job_at.result.now.inputs c.deref.result.now in
    let whole : map known_of_clause clauses ≡ inputs_of c.args.self.now c.args.number = search rules in
    if_ok c.with_inputs-2.result _ _
    (λ grown is. is ∙ spare_grown c.args.self.now c.args.spare clauses c.input_count-held.result c.job_at.result.now.inputs c.requires.spare (search rules) (search rules) (search rules) ∙ whole)
    c.with_inputs-2.ensures.inputs
