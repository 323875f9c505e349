use Rattle.std.proofs.Common.{◌≡◌, ◌++◌, take}
use Rattle.std.specs.Prelude.{All}
use Rattle.entry_core.specs.Right.{AreLiterals}
use Rattle.worker_loop.specs.Asked.{clauses_at}
use Rattle.worker_loop.proofs.rounds.list_learnt.Given as goal

abbrev pub invariant-loop-number : goal.invariant-loop-number
invariant-loop-number l = record {
  listed : l.learnt.items ≡ l.fn.learnt.items ++ take l.number-index l.numbers;
  literals : All AreLiterals (clauses_at l.steps (take l.number-index l.numbers));
}
