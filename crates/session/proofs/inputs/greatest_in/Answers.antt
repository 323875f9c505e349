use Rattle.std.proofs.Common.{◌∙◌, ap, arith}
use Rattle.sat_base.specs.Lit.{greatest_of}
use Rattle.session.proofs.Loaded.{greatest_all_more, greatest_all_whole}
use Rattle.session.proofs.inputs.greatest_in.Goals as goal

pub loop-clause-preserved : goal.loop-clause-preserved
loop-clause-preserved c = (
  greatest_all_more c.args.clauses.now c.loop-clause.clause-index c.clause-item.result c.loop-clause.greatest c.max-greatest.result c.greatest_variable.result c.loop-clause-test.true c.clause-item.is c.loop-clause.invariant.0
      (c.greatest_variable.ensures.value ∙ ap greatest_of c.lits.ensures.value) c.max-greatest.ensures,
  omega (arith, c.max-greatest.ensures, c.greatest_variable.ensures.few, c.loop-clause.invariant.1),
)

pub returns-clause-value : goal.returns-clause-value
returns-clause-value c = greatest_all_whole c.args.clauses.now c.loop-clause.clause-index c.loop-clause.greatest c.loop-clause-test.false c.loop-clause.invariant.0
