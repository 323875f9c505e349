use Rattle.std.proofs.Common.{◌≡◌, ◌+◌, drop}
use Rattle.verdict_text.specs.Line.{are_variables_from}
use Rattle.verdict_text.proofs.lines.are_of_all_variables.Given as goal

abbrev pub invariant-loop-index : goal.invariant-loop-index
invariant-loop-index l = are_variables_from (l.index + 1) (drop l.index l.lits) ≡ are_variables_from 1 l.lits
