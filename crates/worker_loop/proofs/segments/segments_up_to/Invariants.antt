use Rattle.std.proofs.Common.{◌≡◌, ◌+◌, ◌-◌, ◌≤◌, length, map}
use Rattle.std.specs.Arc.{arc_value}
use Rattle.worker_loop.specs.Segments.{AreSegments}
use Rattle.worker_loop.proofs.segments.segments_up_to.Given as goal

abbrev pub invariant-loop-last : goal.invariant-loop-last
invariant-loop-last l = record {
  segments : AreSegments l.board.journal l.from (map arc_value l.found.items);
  count : l.from + length l.found.items ≡ l.last;
  within : l.last ≤ l.job;
}

abbrev pub decreases-loop-last : goal.decreases-loop-last
decreases-loop-last l = l.job - l.last
