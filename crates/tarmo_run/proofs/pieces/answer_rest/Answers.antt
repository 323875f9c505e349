use Rattle.run_io.proofs.Always.{after_err}
use Rattle.tarmo_run.specs.Desk.{progress_of}
use Rattle.tarmo_run.proofs.Reached.{end_in_part, through_before_end, through_complete, through_end}
use Rattle.tarmo_run.proofs.pieces.answer_rest.Goals as goal

pub returns-in_err-ending-in-Ok-clause-in_part : goal.returns-in_err-ending-in-Ok-clause-in_part
returns-in_err-ending-in-Ok-clause-in_part g c =
    after_err c.from_residual.result _
    (λ bytes failed up. end_in_part c.args.reader (progress_of c.args.desk.now)
    (progress_of c.answer_fed.new.desk)
    c.in-Ok.fed.statements bytes failed c.in-Ok.ensures.given c.in_err-ending-in-Ok.ensures.first
    up)

pub returns-in-Some-clause-through : goal.returns-in-Some-clause-through
returns-in-Some-clause-through g c = λ bytes failed unfailing up.
    through_end c.in-Some.ending c.args.reader (progress_of c.args.desk.now)
    (progress_of c.answer_fed.new.desk)
    c.in-Ok.fed.statements c.in-Ok.fed.fault bytes failed unfailing up c.in-Ok.ensures.given
    c.in-Ok.ensures.fault
    (rw c.in-Some.is at c.in_ok-ending-in-Ok.ensures.stops)

pub returns-in-None-clause-through : goal.returns-in-None-clause-through
returns-in-None-clause-through g c = λ bytes failed unfailing up.
    let stopped = rw c.in-None.is at c.in_ok-ending-in-Ok.ensures.stops in
    through_complete c.args.reader (progress_of c.args.desk.now)
    (progress_of c.answer_fed.new.desk) c.jobs.result
    c.in-Ok.fed.statements c.in-Ok.fed.fault bytes failed unfailing up c.in-Ok.ensures.given
    c.in-Ok.ensures.fault
    stopped.0 stopped.1 c.jobs.ensures

pub returns-in-Err-clause-through : goal.returns-in-Err-clause-through
returns-in-Err-clause-through g c =
    λ bytes failed unfailing up. through_before_end c.args.reader (progress_of c.args.desk.now)
    bytes failed up
