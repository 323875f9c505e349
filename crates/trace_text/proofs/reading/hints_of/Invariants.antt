use Rattle.std.proofs.Common.{◌≡◌, ◌++◌, drop, map}
use Rattle.trace_text.specs.Text.{hint_of_number}
use Rattle.trace_text.proofs.reading.hints_of.Given as goal

abbrev pub invariant-loop-number : goal.invariant-loop-number
invariant-loop-number l = l.hints.items ++ map (hint_of_number l.inputs) (drop l.number-index l.numbers) ≡ map (hint_of_number l.inputs) l.numbers
