use Rattle.std.proofs.Common.{refl}
use Rattle.tarmo_run.specs.Sides.{seen_by}
use Rattle.tarmo_run.proofs.Passing.{printer_wrote, prints_broke, prints_wrote}
use Rattle.tarmo_run.proofs.printer.Printer.print.Goals as goal

pub break_off-requires : goal.break_off-requires
break_off-requires g c = record {
  printer = printer_wrote _ c.args.self.now _ c.requires.printer refl refl
      (c.write_block.ensures.counted _ c.requires.due);
}

pub returns-in-Ok-clause-printer : goal.returns-in-Ok-clause-printer
returns-in-Ok-clause-printer g c =
    printer_wrote _ c.args.self.now _ c.requires.printer refl refl
    (c.write_block.ensures.counted _ c.requires.due)

pub returns-in-Err-Memory-clause-printer : goal.returns-in-Err-Memory-clause-printer
returns-in-Err-Memory-clause-printer g c =
    printer_wrote _ c.args.self.now _ c.requires.printer refl refl
    (c.write_block.ensures.counted _ c.requires.due)

pub returns-in-Err-Memory-clause-prints : goal.returns-in-Err-Memory-clause-prints
returns-in-Err-Memory-clause-prints g c =
    prints_wrote c.args.trace c.args.service.now.lock c.args.self.now
    (record {
      pass = c.args.self.now.pass;
      writer = c.write_block.new.self;
      failed = c.args.self.now.failed;
    })
    _ _ c.requires.well
    c.requires.well refl
    ((rw c.in-Err-Memory.field-0-is at c.in-Err-Memory.ensures.wrote)
    (seen_by c.args.service.now.lock c.args.self.now.pass) c.requires.due)

pub returns-in-Err-Unwritten-clause-prints : goal.returns-in-Err-Unwritten-clause-prints
returns-in-Err-Unwritten-clause-prints g c =
    prints_broke c.args.trace c.args.service.now.lock c.args.self.now c.break_off.new.self _ _
    c.requires.well c.break_off.ensures.failed c.break_off.ensures.moves.keeps
    ((rw c.in-Err-Unwritten.field-0-is at c.in-Err-Unwritten.ensures.wrote)
    (seen_by c.args.service.now.lock c.args.self.now.pass) c.requires.due)
