use Rattle.std.proofs.Common.{refl}
use Rattle.tarmo_run.proofs.Passing.{close_moves, printer_moved}
use Rattle.tarmo_run.proofs.printer.Printer.break_off.Goals as goal

pub cancel_all-requires-clause-printer : goal.cancel_all-requires-clause-printer
cancel_all-requires-clause-printer g c =
    printer_moved _ c.args.self.now _ c.requires.printer
    (close_moves _ c.close_input.result _ _ c.close_input.ensures.keeps
    c.close_input.ensures.closed c.close_input.ensures.looked refl)
    (λ well. absurd (cc))
