use Rattle.std.proofs.Common.{◌≡◌, ◌++◌, take}
use Rattle.std.specs.Prelude.{All, codes}
use Rattle.sat_base.specs.Lit.{IsLitSet}
use Rattle.std.specs.List.{flat_map}
use Rattle.icnf_text.specs.Printed.{lits_in, statement_text}
use Rattle.icnf_text.proofs.printing.print.Given as goal

abbrev pub invariant-loop-statement : goal.invariant-loop-statement
invariant-loop-statement l = record {
  text : l.text.items ≡ codes "p inccnf\n" ++ flat_map statement_text (take l.statement-index l.list);
  sets : All (λ statement. IsLitSet (lits_in statement)) (take l.statement-index l.list);
}
