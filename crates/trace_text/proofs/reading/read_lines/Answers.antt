use Rattle.std.proofs.Common.{◌≡◌, ◌==◌, [], rules, sym, subst, inl, inr}
use Rattle.std.specs.Prelude.{Ok, Err}
use Rattle.line_tokens.specs.Token.{lines_of}
use Rattle.trace_text.specs.Text.{steps_of_lines, next_step}
use Rattle.trace_text.proofs.ReadLemmas.{step_read, line_refused, failed}
use Rattle.trace_text.proofs.reading.read_lines.Goals as goal

pub loop-line-preserved : goal.loop-line-preserved
loop-line-preserved c =
    subst (λ steps. steps_of_lines c.args.tags.now steps (lines_of c.in-Some.more.now) ≡ steps_of_lines c.args.tags.now [] (lines_of c.args.bytes.now)) (sym c.in_ok-add.ensures)
    (step_read c.args.tags.now c.loop-line.steps.items (λ b. b == 10) c.loop-line.rest.now c.in-Some.line.now c.in-Some.more.now c.in_ok-step.step (steps_of_lines c.args.tags.now [] (lines_of c.args.bytes.now))
    (search rules) (subst (λ steps. next_step c.args.tags.now steps c.in-Some.line.now ≡ Ok c.in_ok-step.step) c.deref.ensures.value c.in_ok-step.ensures) c.loop-line.invariant)

pub returns-in_err-step : goal.returns-in_err-step
returns-in_err-step c =
    failed _ c.from_residual.result c.in_err-step.field-0.0 (steps_of_lines c.args.tags.now [] (lines_of c.args.bytes.now)) c.from_residual.ensures.1
    (elim c.in_err-step.ensures [
      | inl memory ↦ inl memory
      | inr said ↦ inr (line_refused c.args.tags.now c.loop-line.steps.items (λ b. b == 10) c.loop-line.rest.now c.in-Some.line.now c.in-Some.more.now c.in_err-step.field-0.0 (steps_of_lines c.args.tags.now [] (lines_of c.args.bytes.now))
          (search rules) (subst (λ steps. next_step c.args.tags.now steps c.in-Some.line.now ≡ Err c.in_err-step.field-0.0) c.deref.ensures.value said) c.loop-line.invariant)
    ])
