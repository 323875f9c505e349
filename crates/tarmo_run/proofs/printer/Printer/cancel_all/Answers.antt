use Rattle.tarmo_run.proofs.Passing.{moves_on}
use Rattle.tarmo_run.proofs.printer.Printer.cancel_all.Goals as goal

pub loop-job-preserved : goal.loop-job-preserved
loop-job-preserved g c = record {
  printer = c.cancel.ensures.printer;
  moves = moves_on _ _ c.loop-job.self _ c.loop-job.invariant.moves c.cancel.ensures.moves;
  failed = c.cancel.ensures.failed;
}
