use Rattle.std.proofs.Common.{refl}
use Rattle.tarmo_run.proofs.Boards.{work_adds_none}
use Rattle.tarmo_run.proofs.Desks.{between_worked}
use Rattle.tarmo_run.proofs.desk.Desk.work.Goals as goal

pub returns-clause-between : goal.returns-clause-between
returns-clause-between c =
    between_worked c.args.self.now _ c.work_alone.ensures.works c.work_alone.ensures.resting
    c.work_alone.ensures.fits refl c.requires.between

pub returns-clause-more : goal.returns-clause-more
returns-clause-more c = work_adds_none _ _ _ c.work_alone.ensures.works
