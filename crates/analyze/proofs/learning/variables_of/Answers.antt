use Rattle.std.proofs.Common.{◌∙◌, ℕ, ◌+◌, List, [], ◌∷◌, ◌++◌, take, eqb, ap, subst, sym, arith}
use Rattle.std.specs.Prelude.{Contains, ◌↔◌}
use Rattle.std.specs.List.Sorted.{IsStrictlySortedBy}
use Rattle.std.specs.Ordering.{nat_cmp}
use Rattle.std.proofs.lemmas.List.Filters.{dedup_is}
use Rattle.sat_base.specs.Lit.{variable}
use Rattle.analyze.specs.Graph.{IsVariableAbove}
use Rattle.analyze.proofs.Sorts.{ascending_set, same_members}
use Rattle.analyze.proofs.Collected.{variable_more, variable_skip, variable_whole}
use Rattle.analyze.proofs.learning.variables_of.Goals as goal
use Rattle.analyze.proofs.learning.variables_of.Goals.{then-level-gt0+in_ok-push, else-level-gt0}

pub loop-place-preserved : goal.loop-place-preserved
loop-place-preserved c =
    elim c.if-level-gt0.branch [
      | then-level-gt0+in_ok-push w ↦
          variable_more c.args.trail.now.entries c.args.analyzed.now c.loop-place.place-index
          c.loop-place.vars.items c.if-level-gt0.vars.items c.loop-place-test.true
          (omega (arith, w.if-level-gt0.true, c.level.ensures.value))
          (ap (λ v. v.items) w.vars-is ∙ w.in_ok-push.ensures.items ∙ ap (λ v. c.loop-place.vars.items ++ v ∷ []) (w.var.ensures.value ∙ ap variable w.literal.ensures.value)) c.loop-place.invariant
      | else-level-gt0 w ↦
          subst (λ (xs : List ℕ). (var : ℕ)
          → Contains xs var ↔ IsVariableAbove c.args.trail.now.entries
          (take (c.loop-place.place-index + 1) c.args.analyzed.now) var)
          (sym (ap (λ v. v.items) w.vars-is))
          (variable_skip c.args.trail.now.entries c.args.analyzed.now c.loop-place.place-index
          c.loop-place.vars.items c.loop-place-test.true
          (omega (arith, w.if-level-gt0.false, c.level.ensures.value)) c.loop-place.invariant)
    ]

pub returns-clause-ascending : goal.returns-clause-ascending
returns-clause-ascending c =
    subst (λ (xs : List ℕ). IsStrictlySortedBy nat_cmp xs) (sym c.of.ensures)
    (ascending_set c.sort.new.self.items c.dedup.new.self.items c.in_ok-sort.ensures.sorted (dedup_is eqb c.sort.new.self.items c.dedup.new.self.items c.dedup.ensures.filtered))

pub returns-clause-members : goal.returns-clause-members
returns-clause-members c =
    subst (λ (xs : List ℕ). (var : ℕ)
    → Contains xs var ↔ IsVariableAbove c.args.trail.now.entries c.args.analyzed.now var)
    (sym c.of.ensures)
    (variable_whole c.args.trail.now.entries c.args.analyzed.now c.loop-place.place-index
    c.loop-place.vars.items c.dedup.new.self.items c.loop-place-test.false
    (same_members c.loop-place.vars.items c.sort.new.self.items c.dedup.new.self.items c.in_ok-sort.ensures.permutation (dedup_is eqb c.sort.new.self.items c.dedup.new.self.items c.dedup.ensures.filtered))
    c.loop-place.invariant)
