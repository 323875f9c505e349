use Rattle.worker_loop.specs.Attempts.{GoesOn, left_on}
use Rattle.worker_loop.proofs.working.work_alone.Given as goal

abbrev pub invariant-attempts : goal.invariant-attempts
invariant-attempts l = GoesOn l.initial.board l.board l.caller l.initial.bench l.bench

abbrev pub decreases-attempts : goal.decreases-attempts
decreases-attempts l = left_on l.board
