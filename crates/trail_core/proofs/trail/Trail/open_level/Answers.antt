use Rattle.std.proofs.Common.{◌+◌, ◌≤◌, ap, subst, arith}
use Rattle.std.proofs.lemmas.List.Elements.{All-weaker}
use Rattle.trail_core.specs.Trail.{Entry, IsTrail}
use Rattle.trail_core.proofs.Laid.{trail_kept}
use Rattle.trail_core.proofs.trail.Trail.open_level.Goals as goal

pub set_depth-requires-clause-below : goal.set_depth-requires-clause-below
set_depth-requires-clause-below c =
    let t = subst IsTrail c.self.view_is (trail_kept c.self.inside.values.items c.self.inside.standings.items c.self.inside.lits.items c.self.inside.count c.self.inside.depth c.self.inside.vars c.self.inside.looked c.self.invariant.laid c.self.invariant.looked_at) in
    let depth = ap (λ t. t.depth) c.self.view_is in
    All-weaker (λ (e : Entry). e.level ≤ c.args.self.now.depth) (λ (e : Entry). e.level ≤ c.self.inside.depth + 1) (λ e h. omega (arith, h, depth)) c.args.self.now.entries t.below
