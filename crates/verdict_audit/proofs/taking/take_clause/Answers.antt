use Rattle.std.proofs.Common.{rules}
use Rattle.verdict_audit.proofs.CaseLemmas.{taken_clause}
use Rattle.verdict_audit.proofs.taking.take_clause.Goals as goal

pub returns-clause-kept : goal.returns-clause-kept
returns-clause-kept c = rw (c.in_ok-push-2.ensures.items, c.in_ok-push.ensures.items) (taken_clause c.args.taken.now.clauses.items c.args.taken.now.tags.items c.args.taken.now.jobs.items c.args.taken.now.greatest c.max-taken.result c.args.clause c.requires (search rules) (search rules))
