use Rattle.std.proofs.Common.{◌-◌, length, take, drop}
use Rattle.std.proofs.lemmas.List.{take_rest}
use Rattle.icnf_text.proofs.AheadRead.{number_plain, number_minus}
use Rattle.icnf_text.proofs.ahead.number_at.Goals as goal

pub returns : goal.returns
returns c = number_plain c.args.bytes.now c.in_ok-digits-2.digits.value c.in_ok-digits-2.digits.count c.in_ok-digits-2.ensures

pub returns-then-bytes-eq45 : goal.returns-then-bytes-eq45
returns-then-bytes-eq45 c =
    number_minus c.args.bytes.now (take (length c.args.bytes.now - 1) (drop 1 c.args.bytes.now)) c.in_ok-digits.digits.value c.in_ok-digits.digits.count c.if-bytes-eq45.true (take_rest c.args.bytes.now 1) c.in_ok-digits.ensures
