use Rattle.pick_core.proofs.queue.tests.variables_enter_at_the_end_or_at_the_front.Goals as goal

pub next_free-requires-3 : goal.next_free-requires-3
next_free-requires-3 g c = c.assign-4.ensures.assigned c.next_free-2.new.self.skipped c.next_free-2.ensures.skipped
