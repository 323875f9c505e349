use Rattle.std.proofs.Common.{◌∙◌, arith}
use Rattle.run_io.proofs.Parts.{front_grows}
use Rattle.run_io.proofs.pieces.write_all.Goals as goal

pub loop-at-preserved : goal.loop-at-preserved
loop-at-preserved g c = record {
  taken = front_grows _ _ _ _ _ _ c.loop-at.invariant.taken c.in_ok-at.ensures.bytes;
  faults = c.in_ok-at.ensures.cause.ok ∙ c.loop-at.invariant.faults;
  within = omega (arith, c.in_ok-at.ensures.count, c.loop-at.invariant.within);
}
