use Rattle.std.proofs.Common.{◌≡◌, ◌∙◌, ◌*◌, ◌-◌, ap, subst, sym, arith, refl, take, List}
use Rattle.trail_core.specs.declared.truth.Truth.TheVariants.{Unassigned}
use Rattle.trail_core.specs.Trail.{Entry, IsTrail, IsFree}
use Rattle.trail_core.specs.Truth.{HasTruth}
use Rattle.trail_core.specs.Standing.{IsStandingOf}
use Rattle.trail_core.proofs.Views.{free_from, beyond, unassigned_test, assigned_test}
use Rattle.trail_core.proofs.Laid.{free_zero, truth_read, standing_read, trail_kept}
use Rattle.trail_core.proofs.trail.Trail.standing.Goals as goal

pub returns-then-var-eq0-clause-trail : goal.returns-then-var-eq0-clause-trail
returns-then-var-eq0-clause-trail c = subst IsTrail c.self.view_is (trail_kept c.self.inside.values.items c.self.inside.standings.items c.self.inside.lits.items c.self.inside.count c.self.inside.depth c.self.inside.vars c.self.inside.looked c.self.invariant.laid c.self.invariant.looked_at)

pub returns-then-index-places-clause-trail : goal.returns-then-index-places-clause-trail
returns-then-index-places-clause-trail c = subst IsTrail c.self.view_is (trail_kept c.self.inside.values.items c.self.inside.standings.items c.self.inside.lits.items c.self.inside.count c.self.inside.depth c.self.inside.vars c.self.inside.looked c.self.invariant.laid c.self.invariant.looked_at)

pub returns-then-eq-clause-trail : goal.returns-then-eq-clause-trail
returns-then-eq-clause-trail c = subst IsTrail c.self.view_is (trail_kept c.self.inside.values.items c.self.inside.standings.items c.self.inside.lits.items c.self.inside.count c.self.inside.depth c.self.inside.vars c.self.inside.looked c.self.invariant.laid c.self.invariant.looked_at)

pub returns-clause-trail : goal.returns-clause-trail
returns-clause-trail c = subst IsTrail c.self.view_is (trail_kept c.self.inside.values.items c.self.inside.standings.items c.self.inside.lits.items c.self.inside.count c.self.inside.depth c.self.inside.vars c.self.inside.looked c.self.invariant.laid c.self.invariant.looked_at)

pub returns-then-var-eq0-clause-free : goal.returns-then-var-eq0-clause-free
returns-then-var-eq0-clause-free c =
    subst (IsFree c.args.self.now.entries) (sym c.if-var-eq0.true) (free_zero c.args.self.now (subst IsTrail c.self.view_is (trail_kept c.self.inside.values.items c.self.inside.standings.items c.self.inside.lits.items c.self.inside.count c.self.inside.depth c.self.inside.vars c.self.inside.looked c.self.invariant.laid c.self.invariant.looked_at)))

pub returns-then-index-places-clause-free : goal.returns-then-index-places-clause-free
returns-then-index-places-clause-free c =
    subst (λ (xs : List Entry). IsFree xs c.args.var) (ap (λ t. t.entries) c.self.view_is)
    (free_from c.self.inside.standings.items _ c.args.var
    (beyond c.self.inside.values.items c.self.inside.standings.items _ c.self.inside.depth c.self.inside.vars (2 * c.args.var) c.self.invariant.laid.tables (omega arith)))

pub returns-then-eq-clause-free : goal.returns-then-eq-clause-free
returns-then-eq-clause-free c =
    let is : c.index.result.now ≡ Unassigned = unassigned_test c.index.result.now (sym c.eq.ensures ∙ c.if-eq.true) in
    subst (λ (xs : List Entry). IsFree xs c.args.var) (ap (λ t. t.entries) c.self.view_is)
    (free_from c.self.inside.standings.items _ c.args.var
    (subst (HasTruth (take c.self.inside.count c.self.inside.lits.items) (2 * c.args.var)) is
    (truth_read c.self.inside.values.items c.self.inside.standings.items c.self.inside.lits.items c.self.inside.count c.self.inside.depth c.self.inside.vars (2 * c.args.var) (2 * c.args.var - 2) c.index.result.now c.self.invariant.laid (omega arith) refl (omega arith) c.index.ensures)))

pub returns-clause-found : goal.returns-clause-found
returns-clause-found c =
    subst (λ (xs : List Entry). IsStandingOf xs c.args.var c.index-2.result.now) (ap (λ t. t.entries) c.self.view_is)
    (standing_read c.self.inside.values.items c.self.inside.standings.items c.self.inside.lits.items c.self.inside.count c.self.inside.depth c.self.inside.vars c.args.var c.index.result.now c.index-2.result.now c.self.invariant.laid (omega arith) (omega arith)
    (truth_read c.self.inside.values.items c.self.inside.standings.items c.self.inside.lits.items c.self.inside.count c.self.inside.depth c.self.inside.vars (2 * c.args.var) (2 * c.args.var - 2) c.index.result.now c.self.invariant.laid (omega arith) refl (omega arith) c.index.ensures)
    (assigned_test c.index.result.now (sym c.eq.ensures ∙ c.if-eq.false))
    c.index-2.ensures)
