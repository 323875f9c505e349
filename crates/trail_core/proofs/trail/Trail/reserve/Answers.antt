use Rattle.std.proofs.Common.{◌∙◌, ap, sym, subst, arith, take, replicate, vec_len, ◌++◌, ◌*◌, ◌-◌, List}
use Rattle.trail_core.specs.declared.truth.Truth.{Truth}
use Rattle.trail_core.specs.declared.truth.Truth.TheVariants.{Unassigned}
use Rattle.trail_core.specs.Layout.{IsLaidOut}
use Rattle.trail_core.specs.Trail.{Entry, TrailView}
use Rattle.trail_core.proofs.Laid.{grown_to, laid_grown, entries_grown, laid_reserved, on_err}
use Rattle.trail_core.proofs.trail.Trail.reserve.Goals as goal

pub invariant_of-self-in_err-resize-3 : goal.invariant_of-self-in_err-resize-3
invariant_of-self-in_err-resize-3 c =
    let g = grown_to c.self.inside.values.items c.self.inside.standings.items c.self.inside.lits.items c.self.inside.count c.self.inside.depth c.self.inside.vars c.resize-2.new.self.items c.resize.new.self.items c.min-places.result c.args.vars c.new.result c.filler.result _ _ c.self.invariant.laid c.min-places.ensures (omega arith) c.in_ok-resize.ensures.items c.in_ok-resize-2.ensures.items (omega (arith, c.in_ok-resize.ensures.len)) (omega (arith, c.in_ok-resize-2.ensures.len)) in
    record {
      looked_at = c.self.invariant.looked_at;
      laid = subst (λ (xs : List Truth). IsLaidOut xs c.resize-2.new.self.items c.resize.new.self.items c.self.inside.count c.self.inside.depth c.self.inside.vars) (sym c.in_err-resize-3.ensures.items)
          (laid_grown c.self.inside.values.items c.self.inside.standings.items c.self.inside.lits.items c.self.inside.count c.self.inside.depth c.self.inside.vars c.resize-2.new.self.items c.resize.new.self.items c.min-places.result c.self.invariant.laid g);
    }

pub returns-in_err-resize-3-clause-entries : goal.returns-in_err-resize-3-clause-entries
returns-in_err-resize-3-clause-entries c =
    let g = grown_to c.self.inside.values.items c.self.inside.standings.items c.self.inside.lits.items c.self.inside.count c.self.inside.depth c.self.inside.vars c.resize-2.new.self.items c.resize.new.self.items c.min-places.result c.args.vars c.new.result c.filler.result _ _ c.self.invariant.laid c.min-places.ensures (omega arith) c.in_ok-resize.ensures.items c.in_ok-resize-2.ensures.items (omega (arith, c.in_ok-resize.ensures.len)) (omega (arith, c.in_ok-resize-2.ensures.len)) in
    entries_grown c.self.inside.values.items c.self.inside.standings.items c.self.inside.lits.items c.self.inside.count c.self.inside.depth c.self.inside.vars c.resize-2.new.self.items c.resize.new.self.items c.min-places.result c.self.invariant.laid g ∙ ap (λ t. t.entries) c.self.view_is

pub returns-in_err-resize-3-clause-err : goal.returns-in_err-resize-3-clause-err
returns-in_err-resize-3-clause-err c =
    let g = grown_to c.self.inside.values.items c.self.inside.standings.items c.self.inside.lits.items c.self.inside.count c.self.inside.depth c.self.inside.vars c.resize-2.new.self.items c.resize.new.self.items c.min-places.result c.args.vars c.new.result c.filler.result _ _ c.self.invariant.laid c.min-places.ensures (omega arith) c.in_ok-resize.ensures.items c.in_ok-resize-2.ensures.items (omega (arith, c.in_ok-resize.ensures.len)) (omega (arith, c.in_ok-resize-2.ensures.len)) in
    let same : List Entry → TrailView = λ xs. record { entries = xs; depth = c.self.inside.depth; vars = c.self.inside.vars; looked = c.self.inside.looked } in
    on_err c.from_residual-in_err-resize-3.result _ (ap same (entries_grown c.self.inside.values.items c.self.inside.standings.items c.self.inside.lits.items c.self.inside.count c.self.inside.depth c.self.inside.vars c.resize-2.new.self.items c.resize.new.self.items c.min-places.result c.self.invariant.laid g) ∙ c.self.view_is)

pub invariant_of-self-2 : goal.invariant_of-self-2
invariant_of-self-2 c =
    let g = grown_to c.self.inside.values.items c.self.inside.standings.items c.self.inside.lits.items c.self.inside.count c.self.inside.depth c.self.inside.vars c.resize-2.new.self.items c.resize.new.self.items c.min-places.result c.args.vars c.new.result c.filler.result _ _ c.self.invariant.laid c.min-places.ensures (omega arith) c.in_ok-resize.ensures.items c.in_ok-resize-2.ensures.items (omega (arith, c.in_ok-resize.ensures.len)) (omega (arith, c.in_ok-resize-2.ensures.len)) in
    let laid = laid_grown c.self.inside.values.items c.self.inside.standings.items c.self.inside.lits.items c.self.inside.count c.self.inside.depth c.self.inside.vars c.resize-2.new.self.items c.resize.new.self.items c.min-places.result c.self.invariant.laid g in
    record {
      looked_at = c.self.invariant.looked_at;
      laid = laid_reserved c.self.inside.values.items c.resize-2.new.self.items c.resize.new.self.items c.self.inside.count c.self.inside.depth c.self.inside.vars c.args.vars c.resize-3.new.self.items (2 * c.min-places.result - vec_len c.self.inside.values)
          laid (omega arith) (omega (arith, g.standings_long, c.min-places.ensures)) (omega (arith, g.lits_long, c.min-places.ensures))
          (c.in_ok-resize-3.ensures.items ∙ ap (λ n. take (2 * n) c.self.inside.values.items ++ replicate (2 * c.min-places.result - vec_len c.self.inside.values) Unassigned) c.min-places.ensures)
          (omega (arith, c.min-places.ensures, c.self.invariant.laid.tables.value_places));
    }

pub returns-clause-entries : goal.returns-clause-entries
returns-clause-entries c =
    let g = grown_to c.self.inside.values.items c.self.inside.standings.items c.self.inside.lits.items c.self.inside.count c.self.inside.depth c.self.inside.vars c.resize-2.new.self.items c.resize.new.self.items c.min-places.result c.args.vars c.new.result c.filler.result _ _ c.self.invariant.laid c.min-places.ensures (omega arith) c.in_ok-resize.ensures.items c.in_ok-resize-2.ensures.items (omega (arith, c.in_ok-resize.ensures.len)) (omega (arith, c.in_ok-resize-2.ensures.len)) in
    entries_grown c.self.inside.values.items c.self.inside.standings.items c.self.inside.lits.items c.self.inside.count c.self.inside.depth c.self.inside.vars c.resize-2.new.self.items c.resize.new.self.items c.min-places.result c.self.invariant.laid g ∙ ap (λ t. t.entries) c.self.view_is
