use Rattle.std.proofs.Common.{ℕ, subst}
use Rattle.std.specs.Prelude.{IfOk, IfSome}
use Rattle.worker_loop.specs.Ends.{IsEnd}
use Rattle.worker_loop.specs.Slices.{GoesOnOpen}
use Rattle.worker_loop.proofs.Holding.{on_twice}
use Rattle.worker_loop.proofs.Sliced.{pursued_on}
use Rattle.worker_loop.proofs.serving.pursue_job_on.Goals as goal

pub returns-clause-on : goal.returns-clause-on
returns-clause-on g c =
    on_twice c.args.service.now.lock c.args.pass.now c.start_attempt.new.pass c.slice_to_the_end.new.pass c.args.number c.args.job c.start_attempt.ensures.on
    (subst (λ (n : ℕ). GoesOnOpen c.args.service.now.lock c.start_attempt.new.pass c.slice_to_the_end.new.pass n c.args.job) c.in_ok-attempt.ensures.attempt.0
    (subst (λ (j : ℕ). GoesOnOpen c.args.service.now.lock c.start_attempt.new.pass c.slice_to_the_end.new.pass c.in_ok-attempt.attempt.number j) c.in_ok-attempt.ensures.attempt.1 c.slice_to_the_end.ensures.on))

pub returns-clause-end : goal.returns-clause-end
returns-clause-end g c =
    subst (λ (j : ℕ). IfOk c.slice_to_the_end.result (λ end. IfSome end (IsEnd c.args.service.now.lock.basis c.slice_to_the_end.new.pass.seen j)))
    c.in_ok-attempt.ensures.attempt.1 c.slice_to_the_end.ensures.end

pub returns-clause-pursued : goal.returns-clause-pursued
returns-clause-pursued g c =
    pursued_on c.args.service.now.lock.basis c.slice_to_the_end.new.pass.seen c.args.bench.now.session.solver c.start_attempt.new.bench.session.solver c.slice_to_the_end.new.bench.session.solver c.args.job
    c.in_ok-attempt.attempt c.slice_to_the_end.new.attempt c.slice_to_the_end.result c.in_ok-attempt.ensures.learnt c.in_ok-attempt.ensures.kept c.in_ok-attempt.ensures.nothing c.in_ok-attempt.ensures.attempt.1
    c.slice_to_the_end.ensures.learnt c.slice_to_the_end.ensures.listed c.slice_to_the_end.ensures.overtaken
