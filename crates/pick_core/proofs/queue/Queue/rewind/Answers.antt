use Rattle.pick_core.proofs.Seen.{is_seen, kept_from}
use Rattle.pick_core.proofs.queue.Queue.rewind.Goals as goal

pub invariant_of-self : goal.invariant_of-self
invariant_of-self c =
    let s = is_seen c.self.inside.links.items c.self.inside.cursor c.self.inside.vars c.args.self.now c.self.invariant c.self.view_is in
    kept_from c.self.inside.links.items c.self.inside.vars c.args.self.now.order c.last-self-inside.result s.order c.last-self-inside.ensures s.size s.tight
