use Rattle.std.proofs.Common.{◌≡◌, ◌++◌, take}
use Rattle.std.specs.Prelude.{codes}
use Rattle.std.specs.List.{flat_map}
use Rattle.icnf_text.specs.Printed.{number_text}
use Rattle.icnf_text.proofs.printing.print_lits.Given as goal

abbrev pub invariant-loop-lit : goal.invariant-loop-lit
invariant-loop-lit l = l.text.items ≡ l.fn.text.items ++ flat_map (λ lit. number_text lit ++ codes " ") (take l.lit-index l.lits)
