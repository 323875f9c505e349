use Rattle.std.proofs.Common.{ℕ, ◌≡◌, ◌+◌, sym, ◌∙◌, arith, true, subst, ap, List}
use Rattle.std.specs.Str.{all_ascii_digits}
use Rattle.std.specs.Str.Parse.{digits_value}
use Rattle.std.proofs.lemmas.List.{take_all}
use Rattle.line_tokens.proofs.Digits.{no_digit, leading_zero, too_large, number_is, digits_more, value_more, first_zero, first_none, first_is, some_digit}
use Rattle.line_tokens.proofs.numbers.read_number.Goals as goal

pub returns-then-not-is_ascii_digit-clause-value : goal.returns-then-not-is_ascii_digit-clause-value
returns-then-not-is_ascii_digit-clause-value c = no_digit c.args.digits.now c.loop-digit.digit-index c.loop-digit-test.true (sym c.if-not-is_ascii_digit.ensures.value)

pub returns-then-number-lt-LEAST-clause-value : goal.returns-then-number-lt-LEAST-clause-value
returns-then-number-lt-LEAST-clause-value c = leading_zero c.args.digits.now (first_zero c.args.digits.now c.loop-digit.digit-index c.loop-digit.number c.loop-digit.invariant.positive (omega arith))

pub returns-then-number-gt-GREATEST-clause-value : goal.returns-then-number-gt-GREATEST-clause-value
returns-then-number-gt-GREATEST-clause-value c =
    too_large c.args.digits.now (c.loop-digit.digit-index + 1) _ (value_more c.args.digits.now c.loop-digit.digit-index c.loop-digit.number c.loop-digit-test.true c.loop-digit.invariant.value (sym c.if-not-is_ascii_digit.ensures.value)) (omega arith)

pub loop-digit-preserved : goal.loop-digit-preserved
loop-digit-preserved c = record {
  digits = digits_more c.args.digits.now c.loop-digit.digit-index c.loop-digit-test.true c.loop-digit.invariant.digits (sym c.if-not-is_ascii_digit.ensures.value);
  value = value_more c.args.digits.now c.loop-digit.digit-index c.loop-digit.number c.loop-digit-test.true c.loop-digit.invariant.value (sym c.if-not-is_ascii_digit.ensures.value);
  first = λ _. first_is c.args.digits.now c.loop-digit.digit-index c.loop-digit.number c.loop-digit.invariant.first c.loop-digit.invariant.value (omega arith);
  positive = λ _. omega arith;
  bound = omega arith;
}

pub returns-then-number-lt-LEAST-2-clause-value : goal.returns-then-number-lt-LEAST-2-clause-value
returns-then-number-lt-LEAST-2-clause-value c = leading_zero c.args.digits.now (first_none c.args.digits.now c.loop-digit.digit-index c.loop-digit.number c.loop-digit.invariant.positive (omega arith) c.loop-digit-test.false)

pub returns-else-number-lt-LEAST-2-clause-value : goal.returns-else-number-lt-LEAST-2-clause-value
returns-else-number-lt-LEAST-2-clause-value c =
    let whole = take_all c.loop-digit.digit-index c.args.digits.now c.loop-digit-test.false in
    number_is c.args.digits.now c.loop-digit.number (subst (λ (ds : List ℕ). all_ascii_digits ds ≡ true) whole c.loop-digit.invariant.digits)
    (c.loop-digit.invariant.first (some_digit c.args.digits.now c.loop-digit.digit-index c.loop-digit.number c.loop-digit.invariant.value (omega arith))) c.loop-digit.invariant.bound (c.loop-digit.invariant.value ∙ ap (digits_value 10) whole)
