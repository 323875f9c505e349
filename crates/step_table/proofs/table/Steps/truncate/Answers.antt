use Rattle.std.proofs.Common.{◌∙◌, List, ◌∷◌, length, get_or, ap, sym, arith}
use Rattle.std.proofs.lemmas.List.{take_all}
use Rattle.step_table.specs.declared.table.Row.{Row}
use Rattle.step_table.specs.Layout.{no_row}
use Rattle.step_table.proofs.Rows.{IsCut, cut_laid, cut_steps, count_steps}
use Rattle.step_table.proofs.table.Steps.truncate.Goals as goal

pub returns-then-len : goal.returns-then-len
returns-then-len c =
    let long = count_steps c.self.inside.lits.items c.self.inside.hints no_row c.self.inside.rows.items in
    let seen = ap length c.self.view_is in
    sym (take_all c.args.len c.args.self.now (let le = c.if-len.true in omega (arith, c.len.ensures, long, seen)))

cut : (c : goal.After-truncate-3) → IsCut c.self.inside.lits.items c.truncate.new.self.items c.self.inside.hints c.truncate-2.new.self c.self.inside.rows.items c.truncate-3.new.self.items c.args.len
cut c = record {
  last = c.row_before-last.result;
  last_is = c.row_before-last.ensures ∙ ap (λ (rows : List Row). get_or (no_row ∷ rows) c.args.len no_row) c.deref.ensures.value;
  lits_are = c.truncate.ensures.items;
  hints_are = c.truncate-2.ensures;
  rows_are = c.truncate-3.ensures.items;
  fewer = (let less = c.if-len.false in omega (arith, c.len.ensures));
}

pub invariant_of-self : goal.invariant_of-self
invariant_of-self c = cut_laid c.self.inside.lits.items c.truncate.new.self.items c.self.inside.hints c.truncate-2.new.self c.self.inside.rows.items c.truncate-3.new.self.items c.args.len (cut c) c.self.invariant

pub returns : goal.returns
returns c = cut_steps c.self.inside.lits.items c.truncate.new.self.items c.self.inside.hints c.truncate-2.new.self c.self.inside.rows.items c.truncate-3.new.self.items c.args.len c.args.self.now (cut c) c.self.invariant c.self.view_is
