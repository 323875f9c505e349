use Rattle.std.proofs.Common.{get_or, arith, refl}
use Rattle.icnf_text.proofs.AheadRead.{digits_more, is_digit, seven_digits, one_digit_more}
use Rattle.icnf_text.proofs.ahead.digits_at.Goals as goal

pub overflow_mul-value : goal.overflow_mul-value
overflow_mul-value c =
    let few = c.at_most_seven-most.ensures.most in
    let test = c.loop-count-test.true in
    let short = seven_digits c.loop-count.value c.loop-count.count c.loop-count.invariant.small (omega (arith, test, few)) in omega (arith, short)

pub overflow_add-value : goal.overflow_add-value
overflow_add-value c =
    let few = c.at_most_seven-most.ensures.most in
    let test = c.loop-count-test.true in
    let low = c.if-byte-gt57.false in
    let short = seven_digits c.loop-count.value c.loop-count.count c.loop-count.invariant.small (omega (arith, test, few)) in omega (arith, short, low)

pub loop-count-preserved : goal.loop-count-preserved
loop-count-preserved c =
    let low = c.if-byte-gt57.false in
    let digit = is_digit (get_or c.args.bytes.now c.loop-count.count 0) c.if-byte-lt48.false low in
    let test = c.loop-count-test.true in
    let most = c.at_most_seven-most.ensures in
    let short = seven_digits c.loop-count.value c.loop-count.count c.loop-count.invariant.small (omega (arith, test, most.most)) in record {
      digits = digits_more c.args.bytes.now c.loop-count.value c.loop-count.count _ c.loop-count.invariant.digits (omega (arith, test, most.within)) digit (omega (arith, short)) refl;
      small = one_digit_more c.loop-count.value c.loop-count.count (get_or c.args.bytes.now c.loop-count.count 0) c.loop-count.invariant.small low;
    }
