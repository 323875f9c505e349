use Rattle.std.proofs.Common.{◌≡◌, [], length}
use Rattle.line_tokens.specs.Token.{lines_of}
use Rattle.trace_text.specs.Text.{steps_of_lines}
use Rattle.trace_text.proofs.reading.read_lines.Given as goal

abbrev pub invariant-loop-line : goal.invariant-loop-line
invariant-loop-line l = steps_of_lines l.tags l.steps.items (lines_of l.rest) ≡ steps_of_lines l.tags [] (lines_of l.bytes)

abbrev pub decreases-loop-line : goal.decreases-loop-line
decreases-loop-line l = length l.rest
