use Rattle.std.proofs.Common.{◌≡◌, ◌+◌, List, map}
use Rattle.std.specs.Arc.{arc_value}
use Rattle.entry_core.specs.declared.entries.Entry.{Entry}
use Rattle.worker_loop.specs.Fits.{Fits}
use Rattle.worker_loop.specs.Kept.{KeepsLearnt}
use Rattle.worker_loop.specs.Segments.{AreSegments}
use Rattle.worker_loop.proofs.segments.load_all.Given as goal

abbrev pub invariant-loop-segment : goal.invariant-loop-segment
invariant-loop-segment l = record {
  fits : (journal : List Entry) → Fits l.fn.bench journal → AreSegments journal l.fn.bench.session.solver.bound (map arc_value l.found) → Fits l.bench journal;
  bound : l.bench.session.solver.bound ≡ l.fn.bench.session.solver.bound + l.segment-index;
  kept : KeepsLearnt l.fn.bench.session.solver l.bench.session.solver;
  learnt : l.bench.session.solver.learnt ≡ l.fn.bench.session.solver.learnt;
}
