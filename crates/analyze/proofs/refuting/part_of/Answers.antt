use Rattle.std.proofs.Common.{◌≡◌, ◌∙◌, ℕ, List, ◌∷◌, ap, map, subst}
use Rattle.std.specs.Prelude.{Contains, ◌↔◌}
use Rattle.std.proofs.lemmas.List.{take_all}
use Rattle.analyze.specs.Graph.{lit_at}
use Rattle.analyze.proofs.Collected.{ok_weaker}
use Rattle.analyze.proofs.refuting.part_of.Goals as goal

pub returns : goal.returns
returns c =
    let items : c.deref.result.now ≡ c.args.lit ∷ map (lit_at c.args.trail.now.entries) c.args.places.now =
    c.deref.ensures.value ∙ c.loop-place.invariant ∙ ap (λ xs. c.args.lit ∷ map (lit_at c.args.trail.now.entries) xs) (take_all c.loop-place.place-index c.args.places.now c.loop-place-test.false) in
    ok_weaker c.from_lits.result (λ (part : List ℕ). (other : ℕ) → Contains part other ↔ Contains c.deref.result.now other)
    (λ (part : List ℕ). (other : ℕ) → Contains part other ↔ Contains (c.args.lit ∷ map (lit_at c.args.trail.now.entries) c.args.places.now) other)
    (λ part members. subst (λ (xs : List ℕ). (other : ℕ) → Contains part other ↔ Contains xs other) items members) c.from_lits.ensures.members
