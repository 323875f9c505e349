use Rattle.std.proofs.Common.{◌≡◌, ◌<◌, ◌≤◌, take, get_or, true}
use Rattle.std.specs.Str.{all_ascii_digits}
use Rattle.std.specs.Str.Parse.{digits_value}
use Rattle.line_tokens.proofs.numbers.read_number.Given as goal

abbrev pub invariant-loop-digit : goal.invariant-loop-digit
invariant-loop-digit l = record {
  digits : all_ascii_digits (take l.digit-index l.digits) ≡ true;
  value : l.number ≡ digits_value 10 (take l.digit-index l.digits);
  first : 0 < l.digit-index → 48 < get_or l.digits 0 0;
  positive : 0 < l.digit-index → 0 < l.number;
  bound : l.number ≤ 18446744073709551615;
}
