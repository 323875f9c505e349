use Rattle.pick_core.proofs.scores.tests.the_best_score_comes_first.Goals as goal

pub next_free-requires-4 : goal.next_free-requires-4
next_free-requires-4 g c = c.assign-3.ensures.wait c.next_free-3.new.self (c.assign-2.ensures.wait c.next_free-3.new.self c.next_free-3.ensures.waits)
