use Rattle.std.proofs.Common.{refl}
use Rattle.tarmo_run.proofs.Passing.{count_moves, printer_counted}
use Rattle.tarmo_run.proofs.printer.Printer.count.Goals as goal

pub returns-clause-printer : goal.returns-clause-printer
returns-clause-printer c =
    printer_counted _ c.args.self.now _ _ _ c.requires.printer c.settled.ensures.pass refl refl

pub returns-clause-moves : goal.returns-clause-moves
returns-clause-moves c =
    count_moves _ c.args.self.now _ _ _ c.requires.printer.ready c.settled.ensures.pass refl
