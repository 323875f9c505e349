use Rattle.std.proofs.Common.{◌≡◌, ◌∙◌, ◌≤◌, List, ◌∷◌, ℕ, length, get_or, ap, sym, subst, arith, rules}
use Rattle.std.specs.Prelude.{slice_range}
use Rattle.sat_base.specs.Lit.{IsLitSet}
use Rattle.trace_core.specs.declared.derivation.Step.{Step}
use Rattle.step_table.specs.declared.table.Row.{Row}
use Rattle.step_table.specs.Layout.{no_row}
use Rattle.step_table.proofs.Rows.{placed, in_rows}
use Rattle.step_table.proofs.table.Steps.lits.Goals as goal

pub row_before-start-requires : goal.row_before-start-requires
row_before-start-requires c =
    let lt = in_rows c.self.inside.lits.items c.self.inside.hints c.self.inside.rows.items c.args.self.now c.args.index c.self.view_is c.requires in
    omega (arith, ap length c.deref.ensures.value)

pub index-requires : goal.index-requires
index-requires c = let lt = in_rows c.self.inside.lits.items c.self.inside.hints c.self.inside.rows.items c.args.self.now c.args.index c.self.view_is c.requires in omega arith

pub slice_bounds-result-count : goal.slice_bounds-result-count
slice_bounds-result-count c =
    let from : c.row_before-start.result ≡ get_or (no_row ∷ c.self.inside.rows.items) c.args.index no_row =
    c.row_before-start.ensures ∙ ap (λ (rows : List Row). get_or (no_row ∷ rows) c.args.index no_row) c.deref.ensures.value in
    let at = placed c.self.inside.lits.items c.self.inside.hints c.self.inside.rows.items c.args.self.now c.args.index c.row_before-start.result c.index.result.now c.self.invariant c.self.view_is c.requires from c.index.ensures in
    at.lits_ordered

pub slice_bounds-result-start : goal.slice_bounds-result-start
slice_bounds-result-start c =
    let from : c.row_before-start.result ≡ get_or (no_row ∷ c.self.inside.rows.items) c.args.index no_row =
    c.row_before-start.ensures ∙ ap (λ (rows : List Row). get_or (no_row ∷ rows) c.args.index no_row) c.deref.ensures.value in
    let at = placed c.self.inside.lits.items c.self.inside.hints c.self.inside.rows.items c.args.self.now c.args.index c.row_before-start.result c.index.result.now c.self.invariant c.self.view_is c.requires from c.index.ensures in
    let h : c.row_before-start.result.lits_end ≤ length c.deref-2.result.now = omega (arith, at.lits_ordered, at.lits_within, ap length c.deref-2.ensures.value) in
    let k : c.row_before-start.result.lits_end ≤ c.index.result.now.lits_end = at.lits_ordered in
    search rules

pub slice_bounds-result-end : goal.slice_bounds-result-end
slice_bounds-result-end c =
    let from : c.row_before-start.result ≡ get_or (no_row ∷ c.self.inside.rows.items) c.args.index no_row =
    c.row_before-start.ensures ∙ ap (λ (rows : List Row). get_or (no_row ∷ rows) c.args.index no_row) c.deref.ensures.value in
    let at = placed c.self.inside.lits.items c.self.inside.hints c.self.inside.rows.items c.args.self.now c.args.index c.row_before-start.result c.index.result.now c.self.invariant c.self.view_is c.requires from c.index.ensures in
    let h : c.index.result.now.lits_end ≤ length c.deref-2.result.now = omega (arith, at.lits_within, ap length c.deref-2.ensures.value) in
    let k : c.row_before-start.result.lits_end ≤ c.index.result.now.lits_end = at.lits_ordered in
    search rules

pub returns-clause-value : goal.returns-clause-value
returns-clause-value c =
    let from : c.row_before-start.result ≡ get_or (no_row ∷ c.self.inside.rows.items) c.args.index no_row =
    c.row_before-start.ensures ∙ ap (λ (rows : List Row). get_or (no_row ∷ rows) c.args.index no_row) c.deref.ensures.value in
    let at = placed c.self.inside.lits.items c.self.inside.hints c.self.inside.rows.items c.args.self.now c.args.index c.row_before-start.result c.index.result.now c.self.invariant c.self.view_is c.requires from c.index.ensures in
    ap (λ (xs : List ℕ). slice_range xs c.row_before-start.result.lits_end c.index.result.now.lits_end) c.deref-2.ensures.value ∙ ap (λ (s : Step). s.clause) at.step

pub returns-clause-set : goal.returns-clause-set
returns-clause-set c =
    let from : c.row_before-start.result ≡ get_or (no_row ∷ c.self.inside.rows.items) c.args.index no_row =
    c.row_before-start.ensures ∙ ap (λ (rows : List Row). get_or (no_row ∷ rows) c.args.index no_row) c.deref.ensures.value in
    let at = placed c.self.inside.lits.items c.self.inside.hints c.self.inside.rows.items c.args.self.now c.args.index c.row_before-start.result c.index.result.now c.self.invariant c.self.view_is c.requires from c.index.ensures in
    subst IsLitSet (sym (ap (λ (xs : List ℕ). slice_range xs c.row_before-start.result.lits_end c.index.result.now.lits_end) c.deref-2.ensures.value ∙ ap (λ (s : Step). s.clause) at.step)) at.set
