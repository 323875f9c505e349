use Rattle.tarmo_run.specs.Sides.{progress_by}
use Rattle.tarmo_run.proofs.Reached.{piece_stop, through_before_piece}
use Rattle.tarmo_run.proofs.reader.add_piece.Goals as goal

pub returns-then-is_broken-clause-through : goal.returns-then-is_broken-clause-through
returns-then-is_broken-clause-through g c = λ bytes failed unfailing up.
    through_before_piece c.args.reader.now (progress_by c.args.service.now.lock c.args.adder.now)
    bytes c.args.piece.now failed up

pub returns-in-Ok-clause-through : goal.returns-in-Ok-clause-through
returns-in-Ok-clause-through g c = λ bytes failed unfailing up.
    piece_stop c.add_fed.result c.args.reader.now c.feed.new.self
    (progress_by c.args.service.now.lock c.args.adder.now)
    (progress_by c.args.service.now.lock c.add_fed.new.adder) bytes c.args.piece.now failed
    c.in-Ok.fed.statements c.in-Ok.fed.fault unfailing up (c.in-Ok.ensures.read bytes up.read)
    (c.in-Ok.ensures.given bytes up.read) (c.in-Ok.ensures.fault bytes up.read)
    c.add_fed.ensures.stops

pub returns-in-Err-clause-through : goal.returns-in-Err-clause-through
returns-in-Err-clause-through g c = λ bytes failed unfailing up.
    through_before_piece c.args.reader.now (progress_by c.args.service.now.lock c.args.adder.now)
    bytes c.args.piece.now failed up
