use Rattle.std.proofs.Common.{◌-◌, sym, subst, arith, ℕ, List}
use Rattle.trail_core.specs.Trail.{IsTrail, lits_of}
use Rattle.trail_core.specs.UnderTrail.{IsUnassigned}
use Rattle.trail_core.specs.Truth.{HasTruth}
use Rattle.trail_core.proofs.Views.{beyond}
use Rattle.trail_core.proofs.Laid.{trues_are, truth_read, trail_kept}
use Rattle.trail_core.proofs.trail.Trail.value.Goals as goal

pub returns-then-index-places-clause-value : goal.returns-then-index-places-clause-value
returns-then-index-places-clause-value c =
    subst (λ (xs : List ℕ). IsUnassigned xs c.args.lit) (sym (trues_are c.self.inside.standings.items _ _ _ _ _ c.self.view_is))
    (beyond c.self.inside.values.items c.self.inside.standings.items _ c.self.inside.depth c.self.inside.vars c.args.lit c.self.invariant.laid.tables (omega arith))

pub returns-in-True-clause-value : goal.returns-in-True-clause-value
returns-in-True-clause-value c =
    subst (λ truth. HasTruth (lits_of c.args.self.now.entries) c.args.lit truth) c.in-True.is
    (subst (λ (xs : List ℕ). HasTruth xs c.args.lit c.index.result.now) (sym (trues_are c.self.inside.standings.items _ _ _ _ _ c.self.view_is))
    (truth_read c.self.inside.values.items c.self.inside.standings.items c.self.inside.lits.items c.self.inside.count c.self.inside.depth c.self.inside.vars c.args.lit (c.code.result - 2) c.index.result.now c.self.invariant.laid c.code.ensures.lit.not_zero (omega (arith, c.code.ensures.value)) (omega arith) c.index.ensures))

pub returns-in-False-clause-value : goal.returns-in-False-clause-value
returns-in-False-clause-value c =
    subst (λ truth. HasTruth (lits_of c.args.self.now.entries) c.args.lit truth) c.in-False.is
    (subst (λ (xs : List ℕ). HasTruth xs c.args.lit c.index.result.now) (sym (trues_are c.self.inside.standings.items _ _ _ _ _ c.self.view_is))
    (truth_read c.self.inside.values.items c.self.inside.standings.items c.self.inside.lits.items c.self.inside.count c.self.inside.depth c.self.inside.vars c.args.lit (c.code.result - 2) c.index.result.now c.self.invariant.laid c.code.ensures.lit.not_zero (omega (arith, c.code.ensures.value)) (omega arith) c.index.ensures))

pub returns-in-Unassigned-clause-value : goal.returns-in-Unassigned-clause-value
returns-in-Unassigned-clause-value c =
    subst (λ truth. HasTruth (lits_of c.args.self.now.entries) c.args.lit truth) c.in-Unassigned.is
    (subst (λ (xs : List ℕ). HasTruth xs c.args.lit c.index.result.now) (sym (trues_are c.self.inside.standings.items _ _ _ _ _ c.self.view_is))
    (truth_read c.self.inside.values.items c.self.inside.standings.items c.self.inside.lits.items c.self.inside.count c.self.inside.depth c.self.inside.vars c.args.lit (c.code.result - 2) c.index.result.now c.self.invariant.laid c.code.ensures.lit.not_zero (omega (arith, c.code.ensures.value)) (omega arith) c.index.ensures))

pub returns-then-index-places-clause-trail : goal.returns-then-index-places-clause-trail
returns-then-index-places-clause-trail c = subst IsTrail c.self.view_is (trail_kept c.self.inside.values.items c.self.inside.standings.items c.self.inside.lits.items c.self.inside.count c.self.inside.depth c.self.inside.vars c.self.inside.looked c.self.invariant.laid c.self.invariant.looked_at)

pub returns-in-True-clause-trail : goal.returns-in-True-clause-trail
returns-in-True-clause-trail c = subst IsTrail c.self.view_is (trail_kept c.self.inside.values.items c.self.inside.standings.items c.self.inside.lits.items c.self.inside.count c.self.inside.depth c.self.inside.vars c.self.inside.looked c.self.invariant.laid c.self.invariant.looked_at)

pub returns-in-False-clause-trail : goal.returns-in-False-clause-trail
returns-in-False-clause-trail c = subst IsTrail c.self.view_is (trail_kept c.self.inside.values.items c.self.inside.standings.items c.self.inside.lits.items c.self.inside.count c.self.inside.depth c.self.inside.vars c.self.inside.looked c.self.invariant.laid c.self.invariant.looked_at)

pub returns-in-Unassigned-clause-trail : goal.returns-in-Unassigned-clause-trail
returns-in-Unassigned-clause-trail c = subst IsTrail c.self.view_is (trail_kept c.self.inside.values.items c.self.inside.standings.items c.self.inside.lits.items c.self.inside.count c.self.inside.depth c.self.inside.vars c.self.inside.looked c.self.invariant.laid c.self.invariant.looked_at)
