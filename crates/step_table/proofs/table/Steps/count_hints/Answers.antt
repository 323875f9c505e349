use Rattle.std.proofs.Common.{◌≡◌, ◌∙◌, List, ◌∷◌, length, get_or, ap, sym, arith}
use Rattle.trace_core.specs.declared.derivation.Step.{Step}
use Rattle.step_table.specs.declared.table.Row.{Row}
use Rattle.step_table.specs.Layout.{no_row}
use Rattle.step_table.proofs.Rows.{placed, in_rows, range_length}
use Rattle.step_table.proofs.table.Steps.count_hints.Goals as goal

pub row_before-start-requires : goal.row_before-start-requires
row_before-start-requires c =
    let lt = in_rows c.self.inside.lits.items c.self.inside.hints c.self.inside.rows.items c.args.self.now c.args.index c.self.view_is c.requires in
    omega (arith, ap length c.deref.ensures.value)

pub index-requires : goal.index-requires
index-requires c = let lt = in_rows c.self.inside.lits.items c.self.inside.hints c.self.inside.rows.items c.args.self.now c.args.index c.self.view_is c.requires in omega arith

pub overflow_sub-result : goal.overflow_sub-result
overflow_sub-result c =
    let from : c.row_before-start.result ≡ get_or (no_row ∷ c.self.inside.rows.items) c.args.index no_row =
    c.row_before-start.ensures ∙ ap (λ (rows : List Row). get_or (no_row ∷ rows) c.args.index no_row) c.deref.ensures.value in
    let at = placed c.self.inside.lits.items c.self.inside.hints c.self.inside.rows.items c.args.self.now c.args.index c.row_before-start.result c.index.result.now c.self.invariant c.self.view_is c.requires from c.index.ensures in
    at.hints_ordered

pub returns : goal.returns
returns c =
    let from : c.row_before-start.result ≡ get_or (no_row ∷ c.self.inside.rows.items) c.args.index no_row =
    c.row_before-start.ensures ∙ ap (λ (rows : List Row). get_or (no_row ∷ rows) c.args.index no_row) c.deref.ensures.value in
    let at = placed c.self.inside.lits.items c.self.inside.hints c.self.inside.rows.items c.args.self.now c.args.index c.row_before-start.result c.index.result.now c.self.invariant c.self.view_is c.requires from c.index.ensures in
    sym (range_length c.self.inside.hints c.row_before-start.result.hints_end c.index.result.now.hints_end at.hints_within) ∙ ap (λ (s : Step). length s.hints) at.step
