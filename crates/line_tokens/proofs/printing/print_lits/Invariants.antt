use Rattle.std.proofs.Common.{◌≡◌, ◌++◌, drop}
use Rattle.std.specs.List.{flat_map}
use Rattle.line_tokens.specs.Token.{lit_text}
use Rattle.line_tokens.proofs.printing.print_lits.Given as goal

abbrev pub invariant-loop-lit : goal.invariant-loop-lit
invariant-loop-lit l = l.out.items ++ flat_map lit_text (drop l.lit-index l.lits) ≡ l.fn.out.items ++ flat_map lit_text l.lits
