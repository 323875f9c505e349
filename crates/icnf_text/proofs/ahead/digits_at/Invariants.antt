use Rattle.std.proofs.Common.{◌-◌, ◌<◌, ◌^◌}
use Rattle.icnf_text.specs.Ahead.{AreDigits}
use Rattle.icnf_text.proofs.ahead.digits_at.Given as goal

abbrev pub invariant-loop-count : goal.invariant-loop-count
invariant-loop-count l = record {
  digits : AreDigits l.bytes l.value l.count;
  small : l.value < 10 ^ l.count;
}

abbrev pub decreases-loop-count : goal.decreases-loop-count
decreases-loop-count l = l.most - l.count
