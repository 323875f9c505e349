use Rattle.std.proofs.Common.{◌≡◌, ◌≤◌, ◌-◌, length, take}
use Rattle.run_io.specs.Bytes.{appended}
use Rattle.run_io.proofs.pieces.write_all.Given as goal

abbrev pub invariant-loop-at : goal.invariant-loop-at
invariant-loop-at g l = record {
  taken : g.O.Sink.taken l.out ≡ appended (g.O.Sink.taken l.fn.out) (take l.at l.piece);
  faults : g.O.Sink.faults l.out ≡ g.O.Sink.faults l.fn.out;
  within : l.at ≤ length l.piece;
}

abbrev pub decreases-loop-at : goal.decreases-loop-at
decreases-loop-at g l = length l.piece - l.at
