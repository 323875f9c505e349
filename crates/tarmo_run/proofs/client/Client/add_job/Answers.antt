use Rattle.std.proofs.Common.{◌≡◌, rules, subst, sym}
use Rattle.std.specs.Arc.{arc_value}
use Rattle.entry_core.specs.declared.entries.Event.TheVariants as event
use Rattle.board_core.specs.State.{entered}
use Rattle.tarmo_run.specs.Growth.{HasJobsMore}
use Rattle.tarmo_run.proofs.Boards.{jobs_none}
use Rattle.tarmo_run.proofs.Growing.{jobs_by, one_segment_more}
use Rattle.tarmo_run.proofs.client.Client.add_job.Goals as goal

pub returns-then-is_err-clause-more : goal.returns-then-is_err-clause-more
returns-then-is_err-clause-more c =
    let same : c.add.new.self ≡ c.args.board.now = search rules in
    subst (HasJobsMore c.args.board.now) (sym same) (jobs_none c.args.board.now)

pub returns-clause-more : goal.returns-clause-more
returns-clause-more c =
    let adds : c.add.new.self ≡ entered c.args.board.now 1 (event.Added c.in_ok-segment.segment) =
    search rules in
    jobs_by _ _ _ adds

pub returns-clause-added : goal.returns-clause-added
returns-clause-added c =
    let adds : c.add.new.self ≡ entered c.args.board.now 1 (event.Added c.in_ok-segment.segment) =
    search rules in
    let value : arc_value c.in_ok-segment.segment
    ≡ record { clauses = c.args.self.now.pending.items; cube = c.args.cube } = search rules in
    one_segment_more _ _ _ _ adds value
