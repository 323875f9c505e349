use Rattle.std.proofs.Common.{◌≡◌, ◌++◌, drop}
use Rattle.trace_text.specs.Text.{CiteEarlier, steps_text}
use Rattle.trace_text.proofs.printing.print_lines.Given as goal

abbrev pub invariant-loop-index : goal.invariant-loop-index
invariant-loop-index l = record {
  text : l.out.items ++ steps_text l.inputs l.index (drop l.index l.steps) ≡ l.fn.out.items ++ steps_text l.inputs 0 l.steps;
  earlier : CiteEarlier l.inputs l.index (drop l.index l.steps);
}
