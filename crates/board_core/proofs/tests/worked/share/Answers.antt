use Rattle.std.proofs.Common.{refl, subst, sym}
use Rattle.entry_core.specs.Legal.{IsShareable}
use Rattle.entry_core.specs.declared.entries.Event.TheVariants as event
use Rattle.board_core.proofs.WorkedJob.{shareable, kept_either}
use Rattle.board_core.proofs.tests.worked.share.Goals as goal

pub share-requires-clause-shareable : goal.share-requires-clause-shareable
share-requires-clause-shareable g c = subst (IsShareable c.args.board.now.journal) (sym c.requires.step) (shareable c.args.board.now.journal c.requires.job)

pub returns : goal.returns
returns g c =
    kept_either c.share.result c.args.board.now c.share.new.self 3 (event.Shared c.args.packet) refl c.share.ensures.ok c.share.ensures.err c.requires.job
