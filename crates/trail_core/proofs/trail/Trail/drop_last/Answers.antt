use Rattle.std.proofs.Common.{◌∙◌, ◌<◌, ap, arith, length}
use Rattle.std.proofs.lemmas.List.{get_or_read}
use Rattle.trail_core.proofs.Views.{length-entries}
use Rattle.trail_core.proofs.Laid.{laid_popped, length-trues}
use Rattle.trail_core.proofs.trail.Trail.drop_last.Goals as goal

pub invariant_of-self : goal.invariant_of-self
invariant_of-self c =
    let size = length-trues c.self.inside.values.items c.self.inside.standings.items c.self.inside.lits.items c.self.inside.count c.self.inside.depth c.self.inside.vars c.self.invariant.laid in
    let some : 0 < c.self.inside.count = omega (arith, c.requires, ap (λ t. length t.entries) c.self.view_is, length-entries c.self.inside.standings.items, size) in
    record {
      laid = laid_popped c.self.inside.values.items c.self.inside.standings.items c.self.inside.lits.items c.self.inside.count c.self.inside.depth c.self.inside.vars c.index-last.result.now c.code.result c.code-2.result c.self.invariant.laid some
          (get_or_read c.self.inside.lits.items _ c.index-last.result.now (omega (arith, some, c.self.invariant.laid.count_within)) c.index-last.ensures 0)
          c.code.ensures.value (c.code-2.ensures.value ∙ c.negated.ensures);
      looked_at = omega arith;
    }
