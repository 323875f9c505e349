use Rattle.std.proofs.Common.{◌≡◌, ◌+◌, length, arith, refl, rules}
use Rattle.entry_core.specs.Journal.{inputs_of}
use Rattle.tarmo_run.proofs.Blocks.{inputs_counted, inputs_few}
use Rattle.tarmo_run.proofs.Summaries.{no_inputs}
use Rattle.tarmo_run.proofs.summary.clauses.Goals as goal

pub loop-job-init : goal.loop-job-init
loop-job-init c = record { counted = no_inputs c.args.board.now; within = omega arith }

pub overflow_add-count : goal.overflow_add-count
overflow_add-count c =
    let counted : c.loop-job.count + length c.items.result.now
    ≡ length (inputs_of c.args.board.now.journal (c.loop-job.job + 1)) =
    rw c.items.ensures (rw c.deref.ensures (inputs_counted c.args.board.now.journal
    c.loop-job.job (c.loop-job.job + 1) c.loop-job.count _ refl c.in_ok-segment.ensures
    c.loop-job.invariant.counted)) in
    let few = inputs_few c.args.board.now (c.loop-job.job + 1) _ c.journal.ensures.legal counted in
    omega (arith, few)

pub loop-job-preserved : goal.loop-job-preserved
loop-job-preserved c =
    let counted : c.loop-job.count + length c.items.result.now
    ≡ length (inputs_of c.args.board.now.journal (c.loop-job.job + 1)) =
    rw c.items.ensures (rw c.deref.ensures (inputs_counted c.args.board.now.journal
    c.loop-job.job (c.loop-job.job + 1) c.loop-job.count _ refl c.in_ok-segment.ensures
    c.loop-job.invariant.counted)) in
    record { counted = counted; within = search rules }
