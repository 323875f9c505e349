use Rattle.std.proofs.Common.{◌≤◌, ap, subst, arith, List}
use Rattle.std.specs.Prelude.{All}
use Rattle.std.proofs.lemmas.Bool.{not-true, ltb-false}
use Rattle.trail_core.specs.Trail.{Entry, IsTrail}
use Rattle.trail_core.proofs.Laid.{last_standing, trail_kept}
use Rattle.trail_core.proofs.Levels.{all_below}
use Rattle.trail_core.proofs.trail.Trail.ends_above.Goals as goal

pub returns-clause-none : goal.returns-clause-none
returns-clause-none c = λ low.
    let le : c.index.result.now.level ≤ c.args.level = ltb-false _ _ (not-true _ low) in
    let is = last_standing c.self.inside.values.items c.self.inside.standings.items c.self.inside.lits.items c.self.inside.count c.self.inside.depth c.self.inside.vars c.index-last.result.now c.var.result c.index.result.now c.self.invariant.laid (omega arith) c.index-last.ensures c.var.ensures.value c.index.ensures in
    subst (λ (xs : List Entry). All (λ e. e.level ≤ c.args.level) xs) (ap (λ t. t.entries) c.self.view_is)
    (all_below c.self.inside.values.items c.self.inside.standings.items _ c.self.inside.depth c.self.inside.vars c.args.level c.self.invariant.laid.tables
    (omega (arith, le, ap (λ s. s.level) is)))

pub returns-clause-trail : goal.returns-clause-trail
returns-clause-trail c = subst IsTrail c.self.view_is (trail_kept c.self.inside.values.items c.self.inside.standings.items c.self.inside.lits.items c.self.inside.count c.self.inside.depth c.self.inside.vars c.self.inside.looked c.self.invariant.laid c.self.invariant.looked_at)
