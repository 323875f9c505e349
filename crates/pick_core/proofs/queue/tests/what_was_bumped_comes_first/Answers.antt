use Rattle.pick_core.proofs.queue.tests.what_was_bumped_comes_first.Goals as goal

pub next_free-requires-4 : goal.next_free-requires-4
next_free-requires-4 g c = c.assign-3.ensures.assigned c.next_free-3.new.self.skipped (c.assign-2.ensures.assigned c.next_free-3.new.self.skipped c.next_free-3.ensures.skipped)
