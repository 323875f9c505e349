use Rattle.std.proofs.Common.{ap}
use Rattle.session.specs.Session.{SessionView}
use Rattle.worker_loop.proofs.Fitting.{empty_fits}
use Rattle.worker_loop.proofs.bench.Bench.new.Goals as goal

pub returns-clause-fits : goal.returns-clause-fits
returns-clause-fits c = λ journal. empty_fits (record { session = c.new.result; packets = c.new-2.result }) journal (ap (λ (s : SessionView). s.solver) c.new.ensures) c.new-2.ensures.items
