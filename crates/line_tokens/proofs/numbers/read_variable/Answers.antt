use Rattle.std.proofs.Common.{◌∙◌, arith}
use Rattle.line_tokens.proofs.Digits.{no_variable, variable_too_large, variable_is}
use Rattle.line_tokens.proofs.numbers.read_variable.Goals as goal

pub returns-in_err-number-clause-value : goal.returns-in_err-number-clause-value
returns-in_err-number-clause-value c = c.from_residual.ensures ∙ no_variable c.args.digits.now c.in_err-number.ensures.value

pub returns-then-number-clause-value : goal.returns-then-number-clause-value
returns-then-number-clause-value c = variable_too_large c.args.digits.now c.in_ok-number.number c.in_ok-number.ensures.value (omega arith)

pub returns-clause-value : goal.returns-clause-value
returns-clause-value c = variable_is c.args.digits.now c.in_ok-number.number c.in_ok-number.ensures.value (omega arith)
