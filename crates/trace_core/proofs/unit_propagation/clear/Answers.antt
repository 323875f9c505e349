use Rattle.std.proofs.Common.{ℕ, ◌<◌, List, length, subst, sym, arith}
use Rattle.std.specs.Prelude.{Contains}
use Rattle.std.proofs.lemmas.List.Elements.{Contains-get_or}
use Rattle.trace_core.proofs.AssumeLemmas.{set_within}
use Rattle.trace_core.proofs.unit_propagation.clear.Goals as goal

pub bounds-marks-code : goal.bounds-marks-code
bounds-marks-code c =
    let has : Contains c.deref-lit-items.result.now c.lit-item.result =
    subst (Contains c.deref-lit-items.result.now) (sym c.lit-item.is) (Contains-get_or c.deref-lit-items.result.now c.loop-lit.lit-index c.lit-item.result c.loop-lit-test.true) in
    let within : c.lit-item.result < length c.args.marks.now =
    set_within c.args.marks.now c.args.set.now.items c.lit-item.result c.requires (subst (λ (lits : List ℕ). Contains lits c.lit-item.result) c.deref-lit-items.ensures.value has) in
    omega arith
