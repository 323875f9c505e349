use Rattle.std.proofs.Common.{refl}
use Rattle.entry_core.specs.declared.entries.Event.TheVariants as event
use Rattle.worker_loop.proofs.Rested.{rests_still}
use Rattle.worker_loop.proofs.tests.add.Goals as goal

pub returns : goal.returns
returns g c = rests_still c.args.board.now c.add.new.self 2 1 (event.Added c.args.segment) refl refl c.in-Ok.ensures.ok c.requires
