use Rattle.service.proofs.Decided.{begun_in, begun_job, begun_there}
use Rattle.service.proofs.tests.settle_one.Goals as goal

pub end-requires-clause-at : goal.end-requires-clause-at
end-requires-clause-at c =
    let job = c.in-Ok-Job in
    begun_job c.args.board.now c.take.new.self c.args.caller job.job job.attempt
    (begun_in c.args.board.now c.take.new.self c.args.caller job.job job.attempt job.field-0 job.field-0-is job.ensures.task)

pub end-requires-clause-there : goal.end-requires-clause-there
end-requires-clause-there c =
    let job = c.in-Ok-Job in
    begun_there c.args.board.now c.take.new.self c.args.caller job.job job.attempt
    (begun_in c.args.board.now c.take.new.self c.args.caller job.job job.attempt job.field-0 job.field-0-is job.ensures.task)
