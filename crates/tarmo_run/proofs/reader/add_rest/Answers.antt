use Rattle.tarmo_run.specs.Sides.{progress_by}
use Rattle.tarmo_run.proofs.Reached.{through_before_end, through_complete, through_end}
use Rattle.tarmo_run.proofs.reader.add_rest.Goals as goal

pub returns-in-Some-clause-through : goal.returns-in-Some-clause-through
returns-in-Some-clause-through g c = λ bytes failed unfailing up.
    through_end c.in-Some.ending c.args.reader
    (progress_by c.args.service.now.lock c.args.adder.now)
    (progress_by c.args.service.now.lock c.add_fed.new.adder)
    c.in-Ok.fed.statements c.in-Ok.fed.fault bytes failed unfailing up c.in-Ok.ensures.given
    c.in-Ok.ensures.fault (rw c.in-Some.is at c.add_fed.ensures.stops)

pub returns-in-None-clause-through : goal.returns-in-None-clause-through
returns-in-None-clause-through g c = λ bytes failed unfailing up.
    let stopped = rw c.in-None.is at c.add_fed.ensures.stops in
    through_complete c.args.reader (progress_by c.args.service.now.lock c.args.adder.now)
    (progress_by c.args.service.now.lock c.add_fed.new.adder) c.add_fed.new.adder.added
    c.in-Ok.fed.statements c.in-Ok.fed.fault bytes failed unfailing up c.in-Ok.ensures.given
    c.in-Ok.ensures.fault stopped.0 stopped.1 c.add_fed.ensures.adder.counted

pub returns-in-Err-clause-through : goal.returns-in-Err-clause-through
returns-in-Err-clause-through g c = λ bytes failed unfailing up.
    through_before_end c.args.reader (progress_by c.args.service.now.lock c.args.adder.now) bytes
    failed up
