use Rattle.worker_loop.proofs.attempts.end_of.Goals as goal

pub returns-in-Paused-clause-end : goal.returns-in-Paused-clause-end
returns-in-Paused-clause-end c = c.spent.ensures.end c.args.traces
