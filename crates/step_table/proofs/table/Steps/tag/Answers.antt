use Rattle.std.proofs.Common.{◌∷◌, get_or, ap, refl, arith}
use Rattle.trace_core.specs.declared.derivation.Step.{Step}
use Rattle.step_table.specs.Layout.{no_row}
use Rattle.step_table.proofs.Rows.{placed, in_rows}
use Rattle.step_table.proofs.table.Steps.tag.Goals as goal

pub index-requires : goal.index-requires
index-requires c = let lt = in_rows c.self.inside.lits.items c.self.inside.hints c.self.inside.rows.items c.args.self.now c.args.index c.self.view_is c.requires in omega arith

pub returns : goal.returns
returns c =
    let at = placed c.self.inside.lits.items c.self.inside.hints c.self.inside.rows.items c.args.self.now c.args.index (get_or (no_row ∷ c.self.inside.rows.items) c.args.index no_row) c.index.result.now c.self.invariant c.self.view_is c.requires refl c.index.ensures in
    ap (λ (s : Step). s.tag) at.step
