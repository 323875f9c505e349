use Rattle.std.proofs.Common.{◌≡◌, ◌+◌, refl, rules}
use Rattle.tarmo_run.proofs.Passing.{due_seen, printer_looked}
use Rattle.tarmo_run.proofs.printer.Printer.look_up.Goals as goal

pub returns-in_err-segment-clause-printer : goal.returns-in_err-segment-clause-printer
returns-in_err-segment-clause-printer g c =
    printer_looked _ c.args.self.now _ c.requires.printer c.settled_job.ensures.keeps
    c.settled_job.ensures.looked refl refl

pub returns-clause-printer : goal.returns-clause-printer
returns-clause-printer g c =
    printer_looked _ c.args.self.now _ c.requires.printer c.settled_job.ensures.keeps
    c.settled_job.ensures.looked refl refl

pub returns-clause-due : goal.returns-clause-due
returns-clause-due g c =
    let next : c.in-Some.job ≡ c.args.self.now.writer.written + 1 = search rules in
    due_seen c.args.service.now.lock c.args.self.now.pass
    (record {
      pass = c.settled_job.new.pass;
      writer = c.args.self.now.writer;
      failed = c.args.self.now.failed;
    })
    _
    (printer_looked _ c.args.self.now _ c.requires.printer c.settled_job.ensures.keeps
    c.settled_job.ensures.looked refl refl)
    c.settled_job.ensures.looked next c.in_ok-segment.ensures.segment
    c.in_ok-segment.ensures.verdict
