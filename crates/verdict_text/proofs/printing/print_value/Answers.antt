use Rattle.std.proofs.Common.{◌≡◌, ◌-◌, cond, ◌≤◌, length, rules, arith, decimal}
use Rattle.std.proofs.lemmas.Fmt.{length-decimal-le}
use Rattle.verdict_text.proofs.Literals.{printed}
use Rattle.verdict_text.proofs.printing.print_value.Goals.{then-value, else-value}
use Rattle.verdict_text.proofs.printing.print_value.Goals as goal

pub write_digits-digits-requires : goal.write_digits-digits-requires
write_digits-digits-requires c = search (rules, length-decimal-le 7)

pub overflow_sub-sign : goal.overflow_sub-sign
overflow_sub-sign c =
    let short : length (decimal c.args.variable) ≤ 7 = length-decimal-le 7 c.args.variable (omega arith) (omega arith) (omega arith) in
    omega (arith, c.write_digits-digits.ensures.start)

pub returns : goal.returns
returns c =
    let short : length (decimal c.args.variable) ≤ 7 = length-decimal-le 7 c.args.variable (omega arith) (omega arith) (omega arith) in
    let some : 1 ≤ c.write_digits-digits.result = omega (arith, c.write_digits-digits.ensures.start) in
    let within : c.write_digits-digits.result ≤ 9 = omega (arith, c.write_digits-digits.ensures.start) in
    let start_is : c.if-value.start ≡ cond c.args.value c.write_digits-digits.result (c.write_digits-digits.result - 1) = elim c.if-value.branch [
      | then-value w ↦ rw (w.if-value.true) w.start-is
      | else-value w ↦ rw (w.if-value.false) w.start-is
    ] in
    let text = printed c.write_digits-digits.new.buf 9 c.write_digits-digits.result c.if-value.start c.args.variable c.args.value (search rules) some within c.write_digits-digits.ensures.written start_is in
    search (rules, text)
