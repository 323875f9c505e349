use Rattle.std.proofs.Common.{◌∙◌, ℕ, List, subst, sym}
use Rattle.std.specs.Prelude.{Contains}
use Rattle.sat_base.proofs.InOrder.{set_is}
use Rattle.icnf_text.proofs.sets.cube_of.Goals as goal

pub returns-then-is_strictly_ascending : goal.returns-then-is_strictly_ascending
returns-then-is_strictly_ascending c =
    let same = c.of_ascending-cube.ensures ∙ c.in_ok-set.ensures.items in
    set_is c.of_ascending-cube.result c.args.lits.now c.lits.ensures.set (λ x. (λ has. subst (λ (xs : List ℕ). Contains xs x) same has, λ has. subst (λ (xs : List ℕ). Contains xs x) (sym same) has))

pub returns : goal.returns
returns c = set_is c.in_ok-cube.cube c.args.lits.now c.lits-2.ensures.set c.in_ok-cube.ensures.members
