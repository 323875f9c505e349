use Rattle.std.proofs.Common.{◌∙◌, List, ap, arith}
use Rattle.std.specs.Arc.{arc_value}
use Rattle.trace_core.specs.declared.derivation.Step.{Step}
use Rattle.worker_loop.specs.Asked.{clauses_at}
use Rattle.worker_loop.proofs.Learnt.{spent_list}
use Rattle.worker_loop.proofs.Traced.{numbers_there}
use Rattle.worker_loop.proofs.attempts.spent.Goals as goal

pub copies_of-requires : goal.copies_of-requires
copies_of-requires c =
    numbers_there c.args.bench.now.session.solver c.steps.result.now c.args.attempt.now.learnt.items c.deref.result.now c.steps.ensures.value c.deref.ensures.value c.requires.learnt.held

pub returns-clause-end : goal.returns-clause-end
returns-clause-end c = λ traces.
    spent_list c.args.bench.now.session.solver c.args.attempt.now.cube c.args.attempt.now.learnt.items c.args.budget (arc_value c.in_ok-new.field-0) c.requires.learnt
    (omega (arith, c.requires.few, c.if-len-budget.false, c.len.ensures))
    (c.in_ok-new.ensures.ok ∙ c.in_ok-copies.ensures ∙ ap (λ (steps : List Step). clauses_at steps c.deref.result.now) c.steps.ensures.value
    ∙ ap (clauses_at c.args.bench.now.session.solver.steps) c.deref.ensures.value)
