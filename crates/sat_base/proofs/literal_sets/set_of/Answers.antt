use Rattle.std.proofs.Common.{List, ℕ, eqb, subst}
use Rattle.std.specs.Prelude.{IsPermutation}
use Rattle.std.proofs.lemmas.List.Filters.{dedup_is}
use Rattle.sat_base.proofs.Ascending.{sorted_set, same_members}
use Rattle.sat_base.proofs.literal_sets.set_of.Goals as goal

pub returns-clause-set : goal.returns-clause-set
returns-clause-set c =
    sorted_set c.args.lits.now c.sort.new.self.items c.dedup.new.self.items c.look_at.ensures
    (subst (λ (xs : List ℕ). IsPermutation xs c.sort.new.self.items) c.in_ok-set.ensures.items c.in_ok-sort.ensures.permutation)
    c.in_ok-sort.ensures.sorted
    (dedup_is eqb c.sort.new.self.items c.dedup.new.self.items c.dedup.ensures.filtered)

pub returns-clause-members : goal.returns-clause-members
returns-clause-members c =
    same_members c.args.lits.now c.sort.new.self.items c.dedup.new.self.items
    (subst (λ (xs : List ℕ). IsPermutation xs c.sort.new.self.items) c.in_ok-set.ensures.items c.in_ok-sort.ensures.permutation)
    (dedup_is eqb c.sort.new.self.items c.dedup.new.self.items c.dedup.ensures.filtered)
