use Rattle.std.proofs.Common.{◌∙◌, ap, sym, subst, take}
use Rattle.trail_core.specs.Trail.{IsTrail}
use Rattle.trail_core.proofs.Laid.{trues_are, trail_kept}
use Rattle.trail_core.proofs.trail.Trail.lits.Goals as goal

pub returns-clause-value : goal.returns-clause-value
returns-clause-value c = ap (take c.self.inside.count) c.deref.ensures.value ∙ sym (trues_are c.self.inside.standings.items _ _ _ _ _ c.self.view_is)

pub returns-clause-trail : goal.returns-clause-trail
returns-clause-trail c = subst IsTrail c.self.view_is (trail_kept c.self.inside.values.items c.self.inside.standings.items c.self.inside.lits.items c.self.inside.count c.self.inside.depth c.self.inside.vars c.self.inside.looked c.self.invariant.laid c.self.invariant.looked_at)
