use Rattle.std.specs.Vec.Iter.{into_iter_items}
use Rattle.tarmo_run.specs.Growth.{HasJobsMore}
use Rattle.tarmo_run.proofs.Adding.{AddsUpTo}
use Rattle.tarmo_run.proofs.client.Client.add_all.Given as goal

abbrev pub invariant-loop-numbered : goal.invariant-loop-numbered
invariant-loop-numbered l = record {
  can : (goal.iterator-loop-numbered).can_next l.numbered-iterator;
  ends : (goal.iterator-loop-numbered).is_finite l.numbered-iterator;
  more : HasJobsMore l.fn.board l.board;
  adds : AddsUpTo l.fn.self l.fn.board l.self l.board l.fn.list.items
      (into_iter_items l.numbered-iterator);
}
