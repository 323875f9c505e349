use Rattle.tarmo_run.specs.Sides.{own_of}
use Rattle.tarmo_run.proofs.Adding.{adds_cube}
use Rattle.tarmo_run.proofs.Results.{on_ok_weaker}
use Rattle.tarmo_run.proofs.adder.Adder.add.Goals as goal

pub returns-in-Cube-clause-all : goal.returns-in-Cube-clause-all
returns-in-Cube-clause-all g c =
    on_ok_weaker c.add_job.result
    (λ added. adds_cube c.args.self.now.client c.add_job.new.self.client
    (own_of c.args.service.now.lock c.args.self.now.pass)
    (own_of c.args.service.now.lock c.add_job.new.self.pass)
    c.args.numbered _ c.in-Cube.cube c.in-Cube.is c.in-Cube.cube-is added
    c.add_job.ensures.none_left)
    c.add_job.ensures.added
