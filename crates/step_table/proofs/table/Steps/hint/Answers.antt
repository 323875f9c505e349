use Rattle.std.proofs.Common.{◌≡◌, ◌∙◌, ◌<◌, List, ◌∷◌, length, get_or, ap, sym, subst, arith}
use Rattle.sat_base.specs.declared.origins.Ref.TheVariants.{Own}
use Rattle.trace_core.specs.declared.derivation.Step.{Step}
use Rattle.step_table.specs.declared.table.Row.{Row}
use Rattle.step_table.specs.Layout.{no_row}
use Rattle.step_table.proofs.Rows.{placed, in_rows, range_at, same_at}
use Rattle.step_table.proofs.table.Steps.hint.Goals as goal

pub row_before-start-requires : goal.row_before-start-requires
row_before-start-requires c =
    let lt = in_rows c.self.inside.lits.items c.self.inside.hints c.self.inside.rows.items c.args.self.now c.args.index c.self.view_is c.requires.step in
    omega (arith, ap length c.deref.ensures.value)

pub overflow_add-start : goal.overflow_add-start
overflow_add-start c =
    let from : c.row_before-start.result ≡ get_or (no_row ∷ c.self.inside.rows.items) c.args.index no_row =
    c.row_before-start.ensures ∙ ap (λ (rows : List Row). get_or (no_row ∷ rows) c.args.index no_row) c.deref.ensures.value in
    let row : Row = get_or c.self.inside.rows.items c.args.index no_row in
    let within = in_rows c.self.inside.lits.items c.self.inside.hints c.self.inside.rows.items c.args.self.now c.args.index c.self.view_is c.requires.step in
    let at = placed c.self.inside.lits.items c.self.inside.hints c.self.inside.rows.items c.args.self.now c.args.index c.row_before-start.result row c.self.invariant c.self.view_is c.requires.step from (same_at c.self.inside.rows.items c.args.index no_row row within) in
    let place = range_at c.self.inside.hints c.row_before-start.result.hints_end row.hints_end c.args.place (Own 0) at.hints_within
    (subst (λ (s : Step). c.args.place < length s.hints) (sym at.step) c.requires.place) in
    let few = c.self.invariant.few in
    let last = at.hints_within in
    let inner = place.0 in
    omega arith

pub get-requires : goal.get-requires
get-requires c =
    let from : c.row_before-start.result ≡ get_or (no_row ∷ c.self.inside.rows.items) c.args.index no_row =
    c.row_before-start.ensures ∙ ap (λ (rows : List Row). get_or (no_row ∷ rows) c.args.index no_row) c.deref.ensures.value in
    let row : Row = get_or c.self.inside.rows.items c.args.index no_row in
    let within = in_rows c.self.inside.lits.items c.self.inside.hints c.self.inside.rows.items c.args.self.now c.args.index c.self.view_is c.requires.step in
    let at = placed c.self.inside.lits.items c.self.inside.hints c.self.inside.rows.items c.args.self.now c.args.index c.row_before-start.result row c.self.invariant c.self.view_is c.requires.step from (same_at c.self.inside.rows.items c.args.index no_row row within) in
    let place = range_at c.self.inside.hints c.row_before-start.result.hints_end row.hints_end c.args.place (Own 0) at.hints_within
    (subst (λ (s : Step). c.args.place < length s.hints) (sym at.step) c.requires.place) in
    let last = at.hints_within in
    let inner = place.0 in
    omega arith

pub returns : goal.returns
returns c =
    let from : c.row_before-start.result ≡ get_or (no_row ∷ c.self.inside.rows.items) c.args.index no_row =
    c.row_before-start.ensures ∙ ap (λ (rows : List Row). get_or (no_row ∷ rows) c.args.index no_row) c.deref.ensures.value in
    let row : Row = get_or c.self.inside.rows.items c.args.index no_row in
    let within = in_rows c.self.inside.lits.items c.self.inside.hints c.self.inside.rows.items c.args.self.now c.args.index c.self.view_is c.requires.step in
    let at = placed c.self.inside.lits.items c.self.inside.hints c.self.inside.rows.items c.args.self.now c.args.index c.row_before-start.result row c.self.invariant c.self.view_is c.requires.step from (same_at c.self.inside.rows.items c.args.index no_row row within) in
    let place = range_at c.self.inside.hints c.row_before-start.result.hints_end row.hints_end c.args.place (Own 0) at.hints_within
    (subst (λ (s : Step). c.args.place < length s.hints) (sym at.step) c.requires.place) in
    c.get.ensures ∙ sym place.1 ∙ ap (λ (s : Step). get_or s.hints c.args.place (Own 0)) at.step
