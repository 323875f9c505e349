use Rattle.std.proofs.Common.{◌≡◌, ◌∙◌, length, ap, sym, arith}
use Rattle.step_table.specs.Layout.{no_row}
use Rattle.step_table.proofs.Rows.{count_steps}
use Rattle.step_table.proofs.table.Steps.len.Goals as goal

pub returns : goal.returns
returns c =
    let long : c.len.result ≡ length c.self.inside.rows.items = omega (arith, c.len.ensures) in
    long ∙ sym (count_steps c.self.inside.lits.items c.self.inside.hints no_row c.self.inside.rows.items) ∙ ap length c.self.view_is
