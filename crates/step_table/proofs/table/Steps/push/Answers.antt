use Rattle.std.proofs.Common.{◌∙◌, ◌+◌, List, [], ◌∷◌, ◌++◌, ℕ, length, ap, refl, arith}
use Rattle.step_table.specs.declared.table.Row.{Row}
use Rattle.step_table.proofs.Rows.{IsPushed, pushed_laid, pushed_steps}
use Rattle.step_table.proofs.table.Steps.push.Goals as goal

pushed : (c : goal.After-push_reserved) → IsPushed c.self.inside.lits.items c.args.lits.now c.extend_from_slice.new.self.items c.self.inside.hints c.args.hints.now c.extend.new.self c.self.inside.rows.items c.push_reserved.new.self.items c.args.tag
pushed c =
    let row : Row = record { lits_end = c.len.result + length c.args.lits.now; hints_end = c.len-2.result + length c.args.hints.now; tag = c.args.tag } in record {
      row = row;
      lits_are = c.in_ok-extend_from_slice.ensures.items ∙ ap (λ (xs : List ℕ). xs ++ c.args.lits.now) c.reserve-2.ensures.items;
      hints_are = c.in_ok-extend.ensures.ok;
      rows_are = c.push_reserved.ensures.items ∙ ap (λ (rows : List Row). rows ++ row ∷ []) c.reserve.ensures.items;
      lits_end = omega (arith, c.len.ensures);
      hints_end = omega (arith, c.len-2.ensures);
      tag_is = refl;
      few = (let no = c.if-hints_end.false in omega (arith, c.len-2.ensures));
      set = c.requires;
    }

pub invariant_of-self-2 : goal.invariant_of-self-2
invariant_of-self-2 c = pushed_laid c.self.inside.lits.items c.args.lits.now c.extend_from_slice.new.self.items c.self.inside.hints c.args.hints.now c.extend.new.self c.self.inside.rows.items c.push_reserved.new.self.items c.args.tag (pushed c) c.self.invariant

pub returns-clause-ok : goal.returns-clause-ok
returns-clause-ok c = pushed_steps c.self.inside.lits.items c.args.lits.now c.extend_from_slice.new.self.items c.self.inside.hints c.args.hints.now c.extend.new.self c.self.inside.rows.items c.push_reserved.new.self.items c.args.tag c.args.self.now (pushed c) c.self.invariant c.self.view_is
