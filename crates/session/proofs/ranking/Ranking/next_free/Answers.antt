use Rattle.std.proofs.Common.{ap}
use Rattle.session.specs.Orders.{entered_in}
use Rattle.session.proofs.Orders.{nearest_entered}
use Rattle.session.proofs.ranking.Ranking.next_free.Goals as goal

pub returns-in-Queue-clause-some : goal.returns-in-Queue-clause-some
returns-in-Queue-clause-some c =
    let e = c.next_free-in-Queue.ensures in
    nearest_entered c.args.trail.now.entries c.args.self.now c.in-Queue.queue c.next_free-in-Queue.new.self c.next_free-in-Queue.result (ap entered_in c.in-Queue.is) e.queue e.order e.vars e.some
