use Rattle.std.proofs.Common.{◌≡◌, ◌+◌, ◌++◌, drop}
use Rattle.std.specs.List.{flat_map}
use Rattle.line_tokens.specs.Token.{lit_text}
use Rattle.verdict_text.specs.Block.{model_lits}
use Rattle.verdict_text.proofs.printing.print_values.Given as goal

abbrev pub invariant-loop-index : goal.invariant-loop-index
invariant-loop-index l = l.out.items ++ flat_map lit_text (model_lits (l.index + 1) (drop l.index l.values)) ≡ l.fn.out.items ++ flat_map lit_text (model_lits 1 l.values)
