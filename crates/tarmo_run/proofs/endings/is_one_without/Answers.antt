use Rattle.std.proofs.Common.{◌≤◌, ◌+◌, ◌∙◌, sym, rules}
use Rattle.entry_core.specs.Journal.{jobs}
use Rattle.tarmo_run.specs.Output.{lacking}
use Rattle.tarmo_run.proofs.Statuses.{one_more, one_so_of_all}
use Rattle.tarmo_run.proofs.endings.is_one_without.Goals as goal

pub returns-then-is_without : goal.returns-then-is_without
returns-then-is_without c =
    let within : c.loop-job.job + 1 ≤ jobs c.args.board.now.journal = search rules in
    one_so_of_all (lacking c.args.lack) c.args.board.now (c.loop-job.job + 1)
    (jobs c.args.board.now.journal)
    (one_more (lacking c.args.lack) c.args.board.now c.loop-job.job c.loop-job.invariant.none
    ∙ sym c.is_without.ensures ∙ c.if-is_without.true) within
