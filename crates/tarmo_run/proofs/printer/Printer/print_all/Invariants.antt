use Rattle.std.proofs.Common.{◌≡◌, false}
use Rattle.tarmo_run.specs.Sides.{IsPrinter, Prints}
use Rattle.tarmo_run.proofs.printer.Printer.print_all.Given as goal

abbrev pub invariant-loop : goal.invariant-loop
invariant-loop g l = record {
  can : (goal.iterator-loop g).can_next l.iterator';
  ends : (goal.iterator-loop g).is_finite l.iterator';
  printer : IsPrinter l.service.lock l.self;
  prints : Prints l.trace l.service.lock l.fn.self l.self (g.O.Sink.taken l.fn.out)
      (g.O.Sink.taken l.out);
  well : l.self.failed ≡ false;
  faults : g.O.Sink.faults l.out ≡ g.O.Sink.faults l.fn.out;
}
