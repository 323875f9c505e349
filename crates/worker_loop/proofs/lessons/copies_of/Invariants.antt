use Rattle.std.proofs.Common.{◌≡◌, take}
use Rattle.worker_loop.specs.Asked.{clauses_at}
use Rattle.worker_loop.proofs.lessons.copies_of.Given as goal

abbrev pub invariant-loop-number : goal.invariant-loop-number
invariant-loop-number l = l.clauses.items ≡ clauses_at l.steps (take l.number-index l.numbers)
