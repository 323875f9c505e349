use Rattle.tarmo_run.proofs.Passing.{prints_on, prints_still}
use Rattle.tarmo_run.proofs.printer.Printer.print_round.Goals as goal

pub returns-then-is_over-asked-clause-prints : goal.returns-then-is_over-asked-clause-prints
returns-then-is_over-asked-clause-prints g c =
    prints_still c.args.trace c.args.service.now.lock c.args.self.now c.count-settled.new.self _
    c.requires.printer c.count-settled.ensures.moves c.count-settled.ensures.failed

pub returns-in-Printed-clause-prints : goal.returns-in-Printed-clause-prints
returns-in-Printed-clause-prints g c =
    prints_on c.args.trace c.args.service.now.lock c.args.self.now c.count-settled.new.self
    c.print_next.new.self _ _ _
    (prints_still c.args.trace c.args.service.now.lock c.args.self.now c.count-settled.new.self _
    c.requires.printer c.count-settled.ensures.moves c.count-settled.ensures.failed)
    c.print_next.ensures.prints

pub returns-in-Stopped-clause-prints : goal.returns-in-Stopped-clause-prints
returns-in-Stopped-clause-prints g c =
    prints_on c.args.trace c.args.service.now.lock c.args.self.now c.count-settled.new.self
    c.print_next.new.self _ _ _
    (prints_still c.args.trace c.args.service.now.lock c.args.self.now c.count-settled.new.self _
    c.requires.printer c.count-settled.ensures.moves c.count-settled.ensures.failed)
    c.print_next.ensures.prints

pub returns-in-Missing-clause-prints : goal.returns-in-Missing-clause-prints
returns-in-Missing-clause-prints g c =
    prints_on c.args.trace c.args.service.now.lock c.args.self.now c.count-settled.new.self
    c.print_next.new.self _ _ _
    (prints_still c.args.trace c.args.service.now.lock c.args.self.now c.count-settled.new.self _
    c.requires.printer c.count-settled.ensures.moves c.count-settled.ensures.failed)
    c.print_next.ensures.prints

pub returns-in-Missing-2-clause-prints : goal.returns-in-Missing-2-clause-prints
returns-in-Missing-2-clause-prints g c =
    prints_on c.args.trace c.args.service.now.lock c.args.self.now c.count-settled.new.self
    c.print_next.new.self _ _ _
    (prints_still c.args.trace c.args.service.now.lock c.args.self.now c.count-settled.new.self _
    c.requires.printer c.count-settled.ensures.moves c.count-settled.ensures.failed)
    c.print_next.ensures.prints
