use Rattle.std.proofs.Common.{ap}
use Rattle.session.specs.Session.{SessionView}
use Rattle.worker_loop.proofs.Fitting.{new_fits}
use Rattle.worker_loop.proofs.loading.begin_anew_past.Goals as goal

pub returns-then-bound-job-clause-fits : goal.returns-then-bound-job-clause-fits
returns-then-bound-job-clause-fits c = λ journal fits. new_fits (record { session = c.new.result; packets = c.args.bench.now.packets }) journal (ap (λ (s : SessionView). s.solver) c.new.ensures) fits.read
