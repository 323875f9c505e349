use Rattle.std.proofs.Common.{◌∙◌, subst, sym}
use Rattle.std.proofs.lemmas.List.Elements.{All-more}
use Rattle.sat_base.specs.Lit.{IsLit}
use Rattle.sat_base.proofs.literal_sets.look_at.Goals as goal

pub loop-lit-preserved : goal.loop-lit-preserved
loop-lit-preserved c =
    All-more IsLit c.args.lits.now c.loop-lit.lit-index c.lit-item.result c.loop-lit-test.true c.loop-lit.invariant
    (subst IsLit (c.code.ensures.value ∙ c.lit-item.is) (subst IsLit (sym c.code.ensures.value) c.code.ensures.lit))
