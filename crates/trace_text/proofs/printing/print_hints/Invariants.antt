use Rattle.std.proofs.Common.{◌≡◌, ◌++◌, drop, map}
use Rattle.std.specs.List.{flat_map}
use Rattle.trace_text.specs.Line.{hint_text}
use Rattle.trace_text.specs.Text.{number_of_hint}
use Rattle.trace_text.proofs.printing.print_hints.Given as goal

abbrev pub invariant-loop-hint : goal.invariant-loop-hint
invariant-loop-hint l = l.out.items ++ flat_map hint_text (map (number_of_hint l.inputs) (drop l.hint-index l.hints)) ≡ l.fn.out.items ++ flat_map hint_text (map (number_of_hint l.inputs) l.hints)
