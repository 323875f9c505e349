use Rattle.std.proofs.Common.{[], ◌∷◌, refl}
use Rattle.watch_ring.proofs.ring.tests.move_second.Goals as goal

pub move_to-requires-clause-place : goal.move_to-requires-clause-place
move_to-requires-clause-place c = record { front = 2 ∷ []; back = []; is = c.requires.list; last = refl }
