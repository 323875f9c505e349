use Rattle.std.proofs.Common.{◌∙◌, ◌++◌, List, ap, subst, take, arith}
use Rattle.std.specs.Prelude.{codes}
use Rattle.std.specs.List.{flat_map}
use Rattle.std.proofs.lemmas.Grind.{common_steps}
use Rattle.std.proofs.lemmas.List.{take_all}
use Rattle.std.proofs.lemmas.List.Elements.{All-more, recursion_from_All}
use Rattle.sat_base.specs.Lit.{IsLitSet}
use Rattle.icnf_text.specs.declared.statements.Statement.{Statement}
use Rattle.icnf_text.specs.Printed.{lits_in, statement_text}
use Rattle.icnf_text.proofs.ReadBack.{AreStatements, read_back}
use Rattle.icnf_text.proofs.printing.print.Goals as goal

pub loop-statement-preserved : goal.loop-statement-preserved
loop-statement-preserved c = record {
  text = grind (arith, common_steps);
  sets = All-more (λ (s : Statement). IsLitSet (lits_in s)) c.args.list.now c.loop-statement.statement-index c.statement-item.result c.loop-statement-test.true c.loop-statement.invariant.sets
      (subst (λ (s : Statement). IsLitSet (lits_in s)) c.statement-item.is c.in_ok-print_statement.ensures.set);
}

pub returns-clause-read_back : goal.returns-clause-read_back
returns-clause-read_back c = λ within.
    let whole = take_all c.loop-statement.statement-index c.args.list.now c.loop-statement-test.false in
    let sets : AreStatements (take c.loop-statement.statement-index c.args.list.now) = recursion_from_All (λ (s : Statement). IsLitSet (lits_in s)) _ c.loop-statement.invariant.sets in
    read_back c.args.list.now c.loop-statement.text.items (subst (λ (l : List Statement). AreStatements l) whole sets) within
    (c.loop-statement.invariant.text ∙ ap (λ (l : List Statement). codes "p inccnf\n" ++ flat_map statement_text l) whole)
