use Rattle.tarmo_run.proofs.Passing.{prints_on, prints_still}
use Rattle.tarmo_run.proofs.printer.Printer.print_next.Goals as goal

pub returns-in-Ok-clause-prints : goal.returns-in-Ok-clause-prints
returns-in-Ok-clause-prints g c =
    prints_on c.args.trace c.args.service.now.lock c.args.self.now c.look_up.new.self
    c.print.new.self _ _ _
    (prints_still c.args.trace c.args.service.now.lock c.args.self.now c.look_up.new.self _
    c.requires.printer c.look_up.ensures.moves c.look_up.ensures.failed)
    c.print.ensures.prints

pub returns-in-Err-NoSuchJob-clause-prints : goal.returns-in-Err-NoSuchJob-clause-prints
returns-in-Err-NoSuchJob-clause-prints g c =
    prints_still c.args.trace c.args.service.now.lock c.args.self.now c.look_up.new.self _
    c.requires.printer c.look_up.ensures.moves c.look_up.ensures.failed

pub returns-in-Err-NotYet-clause-prints : goal.returns-in-Err-NotYet-clause-prints
returns-in-Err-NotYet-clause-prints g c =
    prints_still c.args.trace c.args.service.now.lock c.args.self.now c.look_up.new.self _
    c.requires.printer c.look_up.ensures.moves c.look_up.ensures.failed

pub returns-in-Err-Memory-clause-prints : goal.returns-in-Err-Memory-clause-prints
returns-in-Err-Memory-clause-prints g c =
    prints_still c.args.trace c.args.service.now.lock c.args.self.now c.look_up.new.self _
    c.requires.printer c.look_up.ensures.moves c.look_up.ensures.failed
