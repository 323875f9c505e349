use Rattle.std.proofs.lemmas.Result.{on_ok_weaker}
use Rattle.worker_loop.proofs.Fitting.{next_fits}
use Rattle.worker_loop.proofs.Keeping.{loads_learnt}
use Rattle.worker_loop.proofs.loading.load_next.Goals as goal

pub returns-clause-fits : goal.returns-clause-fits
returns-clause-fits c =
    on_ok_weaker c.load.result
    (λ loads journal fits found. next_fits c.args.bench.now c.load.new.self journal c.args.segment.now c.items.result.now c.items.ensures loads fits found) c.load.ensures.ok

pub returns-clause-learnt : goal.returns-clause-learnt
returns-clause-learnt c = loads_learnt c.args.bench.now.session c.load.new.self c.items.result.now c.load.result c.load.ensures.ok c.load.ensures.err
