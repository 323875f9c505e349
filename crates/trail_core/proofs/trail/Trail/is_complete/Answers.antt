use Rattle.std.proofs.Common.{subst}
use Rattle.trail_core.specs.Trail.{IsTrail}
use Rattle.trail_core.proofs.Laid.{trail_kept}
use Rattle.trail_core.proofs.trail.Trail.is_complete.Goals as goal

pub returns-clause-trail : goal.returns-clause-trail
returns-clause-trail c = subst IsTrail c.self.view_is (trail_kept c.self.inside.values.items c.self.inside.standings.items c.self.inside.lits.items c.self.inside.count c.self.inside.depth c.self.inside.vars c.self.inside.looked c.self.invariant.laid c.self.invariant.looked_at)
