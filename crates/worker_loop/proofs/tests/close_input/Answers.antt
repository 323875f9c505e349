use Rattle.std.proofs.Common.{refl}
use Rattle.entry_core.specs.declared.entries.Event.TheVariants as event
use Rattle.worker_loop.proofs.Rested.{rests_still}
use Rattle.worker_loop.proofs.tests.close_input.Goals as goal

pub returns : goal.returns
returns g c = rests_still c.args.board.now c.close_input.new.self 2 1 event.Closed refl refl c.in-Ok.ensures.ok c.requires
