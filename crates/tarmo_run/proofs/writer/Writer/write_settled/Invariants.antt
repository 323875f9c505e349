use Rattle.std.proofs.Common.{◌≡◌, ◌-◌}
use Rattle.entry_core.specs.Journal.{jobs}
use Rattle.tarmo_run.specs.Writer.{HasCounted, Writes}
use Rattle.tarmo_run.proofs.writer.Writer.write_settled.Given as goal

abbrev pub invariant-loop-due : goal.invariant-loop-due
invariant-loop-due g l = record {
  counted : HasCounted l.self l.board;
  writes : Writes l.trace l.board l.fn.self l.self (g.O.Sink.taken l.fn.out) (g.O.Sink.taken l.out);
  faults : g.O.Sink.faults l.out ≡ g.O.Sink.faults l.fn.out;
}

abbrev pub decreases-loop-due : goal.decreases-loop-due
decreases-loop-due g l = jobs l.board.journal - l.self.written
