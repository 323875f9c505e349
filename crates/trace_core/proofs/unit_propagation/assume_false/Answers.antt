use Rattle.std.proofs.Common.{rules, arith, length, ◌<◌, ◌∙◌, ◌++◌, ◌∷◌, [], ap, sym, refl}
use Rattle.sat_base.specs.Lit.{opposite}
use Rattle.trace_core.proofs.AssumeLemmas.{Assumed, assumed_none, assumed_more, assumed_whole, negation_within}
use Rattle.trace_core.proofs.unit_propagation.assume_false.Goals as goal

pub loop-lit-init : goal.loop-lit-init
loop-lit-init c = assumed_none c.args.marks.now c.args.set.now.items c.requires.free c.requires.empty

pub loop-lit-preserved : goal.loop-lit-preserved
loop-lit-preserved c =
    let within : opposite c.lit-item.result < length c.args.marks.now = negation_within (length c.args.marks.now) c.args.clause.now c.loop-lit.lit-index c.lit-item.result c.requires.room c.loop-lit-test.true c.lit-item.is in
    assumed_more c.args.clause.now c.loop-lit.lit-index c.loop-lit.marks _ c.loop-lit.set.items c.push.new.self.items c.lit-item.result c.code.result
    c.loop-lit-test.true c.lit-item.is (search rules) (omega arith) refl (c.in_ok-push.ensures.items ∙ ap (λ k. c.loop-lit.set.items ++ k ∷ []) (sym c.code.ensures.value)) c.loop-lit.invariant

pub returns : goal.returns
returns c =
    let whole : Assumed c.args.clause.now c.loop-lit.marks c.loop-lit.set.items = assumed_whole c.args.clause.now c.loop-lit.lit-index c.loop-lit.marks c.loop-lit.set.items c.loop-lit-test.false c.loop-lit.invariant in
    record { agree = whole.agree; set = whole.negations; uncovered = whole.uncovered }
