use Rattle.std.proofs.Common.{◌∙◌, List, ap, arith, map, subst, sym}
use Rattle.std.specs.Arc.{arc_value}
use Rattle.std.proofs.lemmas.List.{length-map, length_push, map_push}
use Rattle.entry_core.specs.declared.segments.Segment.{Segment}
use Rattle.worker_loop.specs.Segments.{AreSegments}
use Rattle.worker_loop.proofs.Segmented.{segments_more}
use Rattle.worker_loop.proofs.segments.segments_up_to.Goals as goal
use Rattle.std.proofs.Common.{length}

pub loop-last-preserved : goal.loop-last-preserved
loop-last-preserved c = record {
  segments = subst (λ (found : List Segment). AreSegments c.args.board.now.journal c.args.from found)
      (sym (ap (map arc_value) c.in_ok-push.ensures.items ∙ map_push arc_value c.loop-last.found.items c.in_ok-segment.field-0))
      (segments_more c.args.board.now.journal c.args.from _ (map arc_value c.loop-last.found.items) (arc_value c.in_ok-segment.field-0) c.loop-last.invariant.segments
      (omega (arith, c.loop-last.invariant.count, length-map c.loop-last.found.items arc_value)) c.in_ok-segment.ensures);
  count = omega (arith, c.loop-last.invariant.count, ap length c.in_ok-push.ensures.items, length_push c.loop-last.found.items c.in_ok-segment.field-0);
  within = omega (arith, c.loop-last-test.true);
}
