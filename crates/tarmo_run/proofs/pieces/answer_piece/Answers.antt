use Rattle.tarmo_run.specs.Desk.{progress_of}
use Rattle.tarmo_run.proofs.Reached.{piece_in_part, piece_through, through_before_piece}
use Rattle.tarmo_run.proofs.pieces.answer_piece.Goals as goal

pub returns-in-Ok-clause-through : goal.returns-in-Ok-clause-through
returns-in-Ok-clause-through g c =
    piece_through c.answer_fed.result c.args.reader.now c.feed.new.self
    (progress_of c.args.desk.now) (progress_of c.answer_fed.new.desk) c.args.piece.now
    c.in-Ok.fed.statements c.in-Ok.fed.fault
    c.in-Ok.ensures.read c.in-Ok.ensures.given c.in-Ok.ensures.fault c.answer_fed.ensures.stops

pub returns-in-Ok-clause-in_part : goal.returns-in-Ok-clause-in_part
returns-in-Ok-clause-in_part g c =
    piece_in_part c.answer_fed.result c.args.reader.now (progress_of c.args.desk.now)
    (progress_of c.answer_fed.new.desk)
    c.args.piece.now c.in-Ok.fed.statements c.in-Ok.ensures.given c.answer_fed.ensures.first

pub returns-in-Err-clause-through : goal.returns-in-Err-clause-through
returns-in-Err-clause-through g c =
    λ bytes failed unfailing up. through_before_piece c.args.reader.now
    (progress_of c.args.desk.now) bytes
    c.args.piece.now failed up
