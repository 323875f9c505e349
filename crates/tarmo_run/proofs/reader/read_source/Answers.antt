use Rattle.std.proofs.Common.{◌∙◌}
use Rattle.tarmo_run.specs.Sides.{progress_by}
use Rattle.tarmo_run.proofs.Reached.{failing, through_unbuffered, through_unstarted}
use Rattle.tarmo_run.proofs.reader.read_source.Goals as goal

pub returns-in_default-clause-through : goal.returns-in_default-clause-through
returns-in_default-clause-through g c =
    through_unbuffered (progress_by c.args.service.now.lock c.args.adder.now) _ _ _
    c.requires.unread c.requires.new

pub returns-clause-through : goal.returns-clause-through
returns-clause-through g c =
    through_unstarted (progress_by c.args.service.now.lock c.args.adder.now) _ _ _ _
    c.in-Err.ensures.left (c.in-Err.ensures.ended ∙ c.requires.unread)
    (failing _ _ c.requires.source_faults c.in-Err.ensures.cause.failed) c.requires.new
