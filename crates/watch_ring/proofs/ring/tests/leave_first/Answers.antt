use Rattle.std.proofs.Common.{[], refl}
use Rattle.watch_ring.proofs.ring.tests.leave_first.Goals as goal

pub leave-requires : goal.leave-requires
leave-requires c = record { place = record { front = []; back = []; is = c.requires.list; last = refl } }
