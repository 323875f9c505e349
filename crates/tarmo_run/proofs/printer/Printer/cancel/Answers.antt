use Rattle.std.proofs.Common.{refl}
use Rattle.tarmo_run.proofs.Passing.{cancelled_on, stays}
use Rattle.tarmo_run.proofs.printer.Printer.cancel.Goals as goal

pub returns-clause-printer : goal.returns-clause-printer
returns-clause-printer g c =
    (cancelled_on c.args.service.now.lock c.args.self.now c.args.self.now _
    c.cancel-cancelled.result _ c.requires.printer
    (stays c.args.service.now.lock c.args.self.now c.requires.printer) c.requires.failed
    c.cancel-cancelled.ensures.keeps c.cancel-cancelled.ensures.cancelled
    c.cancel-cancelled.ensures.looked refl refl).0

pub returns-clause-moves : goal.returns-clause-moves
returns-clause-moves g c =
    (cancelled_on c.args.service.now.lock c.args.self.now c.args.self.now _
    c.cancel-cancelled.result _ c.requires.printer
    (stays c.args.service.now.lock c.args.self.now c.requires.printer) c.requires.failed
    c.cancel-cancelled.ensures.keeps c.cancel-cancelled.ensures.cancelled
    c.cancel-cancelled.ensures.looked refl refl).1
