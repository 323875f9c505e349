use Rattle.std.proofs.Common.{◌==◌, rules, arith, inr}
use Rattle.verdict_text.specs.Text.{blocks_of_text}
use Rattle.verdict_text.proofs.BlockLines.{line_taken, line_refused}
use Rattle.verdict_text.proofs.reading.read_lines.Goals as goal

pub returns-in_default-2 : goal.returns-in_default-2
returns-in_default-2 c = inr (line_refused c.args.tags.now c.args.sizes.now c.loop-line.number (record { done = c.loop-line.done.items; due = c.loop-line.due }) (λ b. b == 10) c.loop-line.rest.now c.in-Some.line.now c.in-Some.more.now
    (blocks_of_text c.args.tags.now c.args.sizes.now c.args.bytes.now) (search rules) (search rules) c.loop-line.invariant.whole)

pub loop-line-preserved : goal.loop-line-preserved
loop-line-preserved c = record {
  whole = line_taken c.args.tags.now c.args.sizes.now c.loop-line.number (record { done = c.loop-line.done.items; due = c.loop-line.due }) (record { done = c.take_line.new.done.items; due = c.in-Some-2.next }) (λ b. b == 10) c.loop-line.rest.now c.in-Some.line.now c.in-Some.more.now
      (blocks_of_text c.args.tags.now c.args.sizes.now c.args.bytes.now) (search rules) (search rules) c.loop-line.invariant.whole;
  job = search rules;
  number = omega (arith, c.loop-line.invariant.number, c.in-Some.ensures.1);
}
