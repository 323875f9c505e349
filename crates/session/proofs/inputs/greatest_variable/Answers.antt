use Rattle.std.proofs.Common.{◌∙◌, ◌-◌, length, ap, sym, arith}
use Rattle.sat_base.specs.Lit.{variable}
use Rattle.session.proofs.UpTo.{last_greatest}
use Rattle.session.proofs.inputs.greatest_variable.Goals as goal

pub returns-clause-value : goal.returns-clause-value
returns-clause-value c =
    let lit = c.index-lits-count.result in
    c.var.ensures.value ∙ ap variable c.index-lits-count.is
    ∙ sym (last_greatest c.args.lits.now (length c.args.lits.now - 1) lit c.requires.ascending
    (omega (arith, c.if-count-eq0.false)))
