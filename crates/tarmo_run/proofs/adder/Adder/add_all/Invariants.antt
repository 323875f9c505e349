use Rattle.std.specs.Vec.Iter.{into_iter_items}
use Rattle.tarmo_run.specs.Sides.{IsAdder, own_of}
use Rattle.tarmo_run.proofs.Adding.{AddsUpTo}
use Rattle.tarmo_run.proofs.adder.Adder.add_all.Given as goal

abbrev pub invariant-loop-numbered : goal.invariant-loop-numbered
invariant-loop-numbered g l = record {
  can : (goal.iterator-loop-numbered g).can_next l.numbered-iterator;
  ends : (goal.iterator-loop-numbered g).is_finite l.numbered-iterator;
  adder : IsAdder l.service.lock l.self;
  adds : AddsUpTo l.fn.self.client (own_of l.service.lock l.fn.self.pass) l.self.client
      (own_of l.service.lock l.self.pass) l.fn.list.items (into_iter_items l.numbered-iterator);
}
