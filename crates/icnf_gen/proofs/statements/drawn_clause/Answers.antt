use Rattle.std.proofs.Common.{◌∙◌, [], ◌∷◌, ap}
use Rattle.sat_base.specs.Lit.{in_order}
use Rattle.sat_base.proofs.InOrder.{set_is}
use Rattle.icnf_text.specs.declared.statements.Statement.TheVariants.{Clause}
use Rattle.icnf_gen.proofs.Drawing.{three_lits}
use Rattle.icnf_gen.proofs.statements.drawn_clause.Goals as goal

pub returns-clause-statement : goal.returns-clause-statement
returns-clause-statement c = λ seed before from.
    ap Clause
    (set_is c.in_ok-clause.clause (c.lit.result ∷ c.lit-2.result ∷ c.lit-3.result ∷ []) c.lits.ensures.set c.in_ok-clause.ensures.members
    ∙ ap in_order (three_lits seed before _ _ _ _ _ _ _ from c.lit.ensures.state c.lit-2.ensures.state c.lit-3.ensures.state c.lit.ensures.lit c.lit-2.ensures.lit c.lit-3.ensures.lit))
