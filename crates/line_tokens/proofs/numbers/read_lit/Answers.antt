use Rattle.std.proofs.Common.{arith}
use Rattle.std.proofs.lemmas.Int.{ints}
use Rattle.line_tokens.proofs.Digits.{minus_refused, plain_refused, minus_read, plain_read}
use Rattle.line_tokens.proofs.numbers.read_lit.Goals as goal

pub returns-in_err-variable-in-Some : goal.returns-in_err-variable-in-Some
returns-in_err-variable-in-Some c =
    minus_refused _ c.args.token.now c.in-Some.digits.now (rw c.as_slice.ensures at c.in-Some.ensures.cases.0) (rw c.as_slice.ensures at c.in-Some.ensures.cases.1) c.in_err-variable-in-Some.ensures.value c.from_residual.ensures

pub returns-in_err-variable-in-None : goal.returns-in_err-variable-in-None
returns-in_err-variable-in-None c =
    plain_refused _ c.args.token.now (rw c.as_slice.ensures at c.in-None.ensures.cases) c.in_err-variable-in-None.ensures.value c.from_residual-in_err-variable-in-None.ensures

pub returns-in_ok-variable-in-Some : goal.returns-in_ok-variable-in-Some
returns-in_ok-variable-in-Some c =
    minus_read _ c.args.token.now c.in-Some.digits.now _ c.in_ok-variable-in-Some.variable (rw c.as_slice.ensures at c.in-Some.ensures.cases.0) (rw c.as_slice.ensures at c.in-Some.ensures.cases.1) c.in_ok-variable-in-Some.ensures.value c.of.ensures
    (omega (arith, ints, c.in_ok-variable-in-Some.ensures.range.1)) c.in_ok-variable-in-Some.ensures.range.0 c.in_ok-variable-in-Some.ensures.range.1

pub returns-in_ok-variable-in-None : goal.returns-in_ok-variable-in-None
returns-in_ok-variable-in-None c =
    plain_read _ c.args.token.now _ c.in_ok-variable-in-None.variable (rw c.as_slice.ensures at c.in-None.ensures.cases) c.in_ok-variable-in-None.ensures.value c.of-in-None.ensures
    (omega (arith, ints, c.in_ok-variable-in-None.ensures.range.1)) c.in_ok-variable-in-None.ensures.range.0 c.in_ok-variable-in-None.ensures.range.1
