use Rattle.std.proofs.Common.{◌∙◌}
use Rattle.tarmo_run.specs.Desk.{progress_of}
use Rattle.tarmo_run.proofs.Desks.{all_at_first, new_at_first}
use Rattle.tarmo_run.proofs.Reached.{failing, through_unbuffered, through_unstarted}
use Rattle.tarmo_run.proofs.pieces.show_blocks.Goals as goal

pub returns-in_default-clause-through : goal.returns-in_default-clause-through
returns-in_default-clause-through g c =
    through_unbuffered (progress_of c.args.desk.now) _ _ _ c.requires.unread
    (new_at_first c.args.desk.now c.requires.fresh)

pub returns-clause-through : goal.returns-clause-through
returns-clause-through g c =
    through_unstarted (progress_of c.args.desk.now) _ _ _ _ c.in-Err.ensures.left
    (c.in-Err.ensures.ended
    ∙ c.requires.unread)
    (failing _ _ c.requires.source_faults c.in-Err.ensures.cause.failed)
    (new_at_first c.args.desk.now c.requires.fresh)

pub returns-clause-answered : goal.returns-clause-answered
returns-clause-answered g c = all_at_first c.args.desk.now c.requires.fresh
