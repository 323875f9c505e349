use Rattle.std.proofs.Common.{◌≡◌, ◌≤◌, ◌+◌, length}
use Rattle.line_tokens.specs.Token.{lines_of}
use Rattle.verdict_text.specs.Text.{HasJob, blocks_of_lines, blocks_of_text}
use Rattle.verdict_text.proofs.reading.read_lines.Given as goal

abbrev pub invariant-loop-line : goal.invariant-loop-line
invariant-loop-line l = record {
  whole : blocks_of_lines l.tags l.sizes l.number (record { done = l.done.items; due = l.due }) (lines_of l.rest) ≡ blocks_of_text l.tags l.sizes l.bytes;
  job : HasJob (length l.sizes) (length l.done.items) l.due;
  number : l.number + length l.rest ≤ length l.bytes + 1;
}

abbrev pub decreases-loop-line : goal.decreases-loop-line
decreases-loop-line l = length l.rest
