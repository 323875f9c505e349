use Rattle.std.proofs.Common.{◌≡◌, ◌-◌, true}
use Rattle.tarmo_run.specs.Sides.{IsPrinter, Moves}
use Rattle.tarmo_run.proofs.printer.Printer.cancel_all.Given as goal

abbrev pub invariant-loop-job : goal.invariant-loop-job
invariant-loop-job g l = record {
  printer : IsPrinter l.service.lock l.self;
  moves : Moves l.service.lock l.fn.self l.self;
  failed : l.self.failed ≡ true;
}

abbrev pub decreases-loop-job : goal.decreases-loop-job
decreases-loop-job g l = 4294967295 - l.job
