use Rattle.std.proofs.Common.{◌≡◌, ◌∙◌, ◌-◌, ◌<◌, ◌≤◌, length, ap, sym, subst, arith, get_or}
use Rattle.std.proofs.lemmas.List.{get_or_default}
use Rattle.sat_base.specs.Lit.{IsTautology}
use Rattle.step_table.specs.Table.{no_step}
use Rattle.trace_core.specs.Trace.{known_of}
use Rattle.session.specs.Solver.{IsStep}
use Rattle.session.proofs.Learnt.{learnt_held, step_read}
use Rattle.session.proofs.tests.first_learnt.Goals as goal

pub returns-clause-own : goal.returns-clause-own
returns-clause-own g c =
    let number = get_or c.learnt-learnt.result.now 0 0 in
    let steps = c.steps-steps.result.now in
    let low : 1 ≤ number = omega arith in
    let high : number ≤ length steps = omega arith in
    let is : get_or steps (number - 1) c.step.result ≡ c.step.result =
    get_or_default steps (number - 1) c.step.result no_step (omega (arith, low, high))
    ∙ sym c.step.ensures in (
      known_of c.step.result,
      subst (λ steps. IsStep steps number (known_of c.step.result)) c.steps-steps.ensures.value
          (step_read steps number c.step.result low high is),
      λ both. (let told = c.is_tautology.ensures.1 (subst IsTautology (sym c.in_ok-clause.ensures) both)
          in let not = c.if-is_tautology.false in cc),
    )

pub returns-clause-held : goal.returns-clause-held
returns-clause-held g c =
    let same = c.learnt-learnt.ensures in
    let some : 0 < length c.learnt-learnt.result.now = omega arith in
    learnt_held c.args.session.now.solver 0
    (get_or c.learnt-learnt.result.now 0 0) c.steps-steps.ensures.sound
    (subst (λ numbers. 0 < length numbers) same some)
    (ap (λ numbers. get_or numbers 0 0) (sym same))
