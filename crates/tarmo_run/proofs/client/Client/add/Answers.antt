use Rattle.tarmo_run.proofs.Adding.{adds_cube}
use Rattle.tarmo_run.proofs.Results.{on_ok_weaker}
use Rattle.tarmo_run.proofs.client.Client.add.Goals as goal

pub returns-in-Cube-clause-all : goal.returns-in-Cube-clause-all
returns-in-Cube-clause-all c =
    on_ok_weaker c.add_job.result
    (λ added. adds_cube c.args.self.now c.add_job.new.self c.args.board.now c.add_job.new.board
    c.args.numbered _ c.in-Cube.cube c.in-Cube.is c.in-Cube.cube-is added
    c.add_job.ensures.none_left)
    c.add_job.ensures.added
