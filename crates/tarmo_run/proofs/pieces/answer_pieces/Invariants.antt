use Rattle.std.proofs.Common.{◌≡◌, ◌-◌, ℕ, List, Option, false, length, true}
use Rattle.tarmo_run.specs.Desk.{IsBetweenPieces, Shows, progress_of}
use Rattle.tarmo_run.specs.Writer.{HasAllBlocks}
use Rattle.tarmo_run.proofs.Reached.{Reached}
use Rattle.tarmo_run.proofs.pieces.answer_pieces.Given as goal

abbrev pub invariant-loop-count : goal.invariant-loop-count
invariant-loop-count g l = record {
  between : IsBetweenPieces l.desk;
  rules : l.desk.board.rules ≡ l.fn.desk.board.rules;
  reached : Reached l.reader (progress_of l.desk) (g.S.Source.left l.fn.source)
      (g.S.Source.left l.source);
  answered : HasAllBlocks l.desk.writer l.desk.board;
  writes : Shows l.trace l.fn.desk l.desk (g.O.Sink.taken l.fn.out) (g.O.Sink.taken l.out);
  source_faults : g.S.Source.faults l.source ≡ g.S.Source.faults l.fn.source;
  sink_faults : g.O.Sink.faults l.out ≡ g.O.Sink.faults l.fn.out;
  opened : (name : Option (List ℕ)) → g.S.Source.opened l.fn.source name ≡ true →
      g.S.Source.opened l.source name ≡ true;
  unended : g.S.Source.ended l.source ≡ false;
  room : length l.buffer ≡ length l.fn.buffer;
}

abbrev pub decreases-loop-count : goal.decreases-loop-count
decreases-loop-count g l = 4294967296 - l.reader.bytes
