use Rattle.std.proofs.Common.{◌≡◌, ◌++◌, take}
use Rattle.step_table.proofs.hints.HintTable.push_all.Given as goal

abbrev pub invariant-loop-name : goal.invariant-loop-name
invariant-loop-name l = l.self ≡ l.fn.self ++ take l.name-index l.names
