use Rattle.std.proofs.Common.{◌-◌, ◌≤◌, ap, sym, subst, arith, ℕ, List}
use Rattle.sat_base.specs.Lit.{variable}
use Rattle.trail_core.specs.Trail.{IsTrail}
use Rattle.trail_core.specs.Truth.{HasTruth}
use Rattle.trail_core.proofs.Views.{index_in}
use Rattle.trail_core.proofs.Laid.{trues_are, truth_read, trail_kept}
use Rattle.trail_core.proofs.trail.Trail.truth.Goals as goal

pub returns-clause-value : goal.returns-clause-value
returns-clause-value c =
    let reserved : variable c.args.lit ≤ c.self.inside.vars = subst (λ v. variable c.args.lit ≤ v) (sym (ap (λ t. t.vars) c.self.view_is)) c.requires in
    let in_tables = index_in c.self.inside.values.items c.self.inside.standings.items _ c.self.inside.depth c.self.inside.vars c.args.lit c.self.invariant.laid.tables c.code.ensures.lit.not_zero c.code.ensures.lit.within reserved in
    subst (λ (xs : List ℕ). HasTruth xs c.args.lit c.index.result.now) (sym (trues_are c.self.inside.standings.items _ _ _ _ _ c.self.view_is))
    (truth_read c.self.inside.values.items c.self.inside.standings.items c.self.inside.lits.items c.self.inside.count c.self.inside.depth c.self.inside.vars c.args.lit (c.code.result - 2) c.index.result.now c.self.invariant.laid c.code.ensures.lit.not_zero (omega (arith, c.code.ensures.value)) (omega (arith, c.code.ensures.value, in_tables)) c.index.ensures)

pub returns-clause-trail : goal.returns-clause-trail
returns-clause-trail c = subst IsTrail c.self.view_is (trail_kept c.self.inside.values.items c.self.inside.standings.items c.self.inside.lits.items c.self.inside.count c.self.inside.depth c.self.inside.vars c.self.inside.looked c.self.invariant.laid c.self.invariant.looked_at)
