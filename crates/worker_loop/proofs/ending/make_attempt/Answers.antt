use Rattle.std.proofs.Common.{Some, None}
use Rattle.worker_loop.proofs.Ended.{has_ended}
use Rattle.worker_loop.proofs.Kept.{fits_ended}
use Rattle.worker_loop.proofs.ending.make_attempt.Goals as goal

pub returns-in-Ok-clause-ended : goal.returns-in-Ok-clause-ended
returns-in-Ok-clause-ended c = has_ended c.args.board.now c.end_attempt.new.board c.args.caller c.args.number c.args.job (Some c.in-Ok.end) c.requires.at c.end_attempt.ensures

pub returns-in-Ok-clause-fits : goal.returns-in-Ok-clause-fits
returns-in-Ok-clause-fits c =
    fits_ended c.pursue_job.new.bench c.args.board.now c.end_attempt.new.board c.args.caller c.args.number c.args.job
    (has_ended c.args.board.now c.end_attempt.new.board c.args.caller c.args.number c.args.job (Some c.in-Ok.end) c.requires.at c.end_attempt.ensures) c.in-Ok.ensures.fits

pub returns-in-Err-clause-ended : goal.returns-in-Err-clause-ended
returns-in-Err-clause-ended c = has_ended c.args.board.now c.end_attempt-in-Err.new.board c.args.caller c.args.number c.args.job None c.requires.at c.end_attempt-in-Err.ensures
