use Rattle.std.proofs.Common.{◌≡◌, ◌-◌, ℕ, List, Option, false, length, true}
use Rattle.tarmo_run.specs.Sides.{IsAdder, progress_by}
use Rattle.tarmo_run.proofs.Reached.{Reached}
use Rattle.tarmo_run.proofs.reader.read_pieces.Given as goal

abbrev pub invariant-loop-count : goal.invariant-loop-count
invariant-loop-count g l = record {
  adder : IsAdder l.service.lock l.adder;
  reached : Reached l.reader (progress_by l.service.lock l.adder) (g.S.Source.left l.fn.source)
      (g.S.Source.left l.source);
  source_faults : g.S.Source.faults l.source ≡ g.S.Source.faults l.fn.source;
  opened : (name : Option (List ℕ)) → g.S.Source.opened l.fn.source name ≡ true →
      g.S.Source.opened l.source name ≡ true;
  unended : g.S.Source.ended l.source ≡ false;
  room : length l.buffer ≡ length l.fn.buffer;
}

abbrev pub decreases-loop-count : goal.decreases-loop-count
decreases-loop-count g l = 4294967296 - l.reader.bytes
