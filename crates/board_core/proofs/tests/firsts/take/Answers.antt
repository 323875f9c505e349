use Rattle.board_core.proofs.EmptyJobs.{empty_after}
use Rattle.board_core.proofs.tests.firsts.take.Goals as goal

pub returns : goal.returns
returns g c = empty_after c.take.result c.args.board.now c.take.new.self 2 c.take.ensures.task c.take.ensures.err c.requires
