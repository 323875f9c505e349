use Rattle.std.proofs.Common.{◌≡◌, drop}
use Rattle.std.specs.Prelude.{max}
use Rattle.trace_text.specs.Text.{tag_of_hints, tags_with}
use Rattle.trace_text.proofs.reading.greatest_tag.Given as goal

abbrev pub invariant-loop-number : goal.invariant-loop-number
invariant-loop-number l = max l.most (tag_of_hints (tags_with l.tags l.steps) (drop l.number-index l.numbers)) ≡ tag_of_hints (tags_with l.tags l.steps) l.numbers
