use Rattle.std.proofs.Common.{◌∙◌, List, ℕ, length, refl, ap, sym}
use Rattle.analyze.proofs.Excluded.{both_members}
use Rattle.analyze.proofs.refuting.excluded_middle.Goals as goal

pub returns : goal.returns
returns c = record {
  members = both_members c.args.lit c.of_ascending-part.result (c.of_ascending-part.ensures ∙ c.in_ok-both_literals.ensures.both);
  same = c.of_ascending-clause.ensures ∙ c.in_ok-both_literals-2.ensures.both ∙ sym (c.of_ascending-part.ensures ∙ c.in_ok-both_literals.ensures.both);
  two = ap (λ (xs : List ℕ). length xs) (c.of_ascending-clause.ensures ∙ c.in_ok-both_literals-2.ensures.both);
  no_hints = c.of.ensures ∙ c.new.ensures.items;
  no_tag = refl;
}
