use Rattle.std.proofs.Common.{arith}
use Rattle.icnf_text.proofs.AheadRead.{first_above}
use Rattle.icnf_text.proofs.ahead.ended_digits.Goals as goal

pub returns : goal.returns
returns c = record {
  digits = c.digits_at-digits.ensures;
  some = (let h = c.if-digits-eq0.false in omega (arith, h));
  first = first_above c.args.bytes.now c.digits_at-digits.result.value c.digits_at-digits.result.count c.digits_at-digits.ensures c.if-digits-eq0.false c.if-digits-bytes.false c.if-bytes-eq48.false;
  behind = c.if-digits-bytes.false;
  space = c.if-bytes-digits-ne32.false;
}
