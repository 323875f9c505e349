use Rattle.verdict_audit.proofs.auditing.step.Goals as goal

pub take_line-requires-clause-spare : goal.take_line-requires-clause-spare
take_line-requires-clause-spare c = c.in_ok-place.ensures.spare c.args.problem.now c.args.tally.now c.requires.job c.requires.spare
