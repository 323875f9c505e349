use Rattle.std.proofs.Common.{◌≡◌, ◌∙◌, ℕ, ◌+◌, List, [], ◌∷◌, ◌++◌, take, subst, sym, ap, refl, inl, inr}
use Rattle.std.specs.Prelude.{Contains, ◌⊎◌}
use Rattle.std.proofs.lemmas.List.{take_more, take_all}
use Rattle.std.proofs.lemmas.List.Elements.{Contains-push_cases}
use Rattle.sat_base.specs.Lit.{variable}
use Rattle.analyze.specs.Cut.{AddsNothing}
use Rattle.analyze.proofs.classify.adds_little.Goals as goal

pub loop-lit-preserved : goal.loop-lit-preserved
loop-lit-preserved c = λ lit has. old_or_new lit (Contains-push_cases (take c.loop-lit.lit-index c.args.clause.now) c.lit-item.result lit (subst (λ (xs : List ℕ). Contains xs lit) grows has))
  where
    grows : take (c.loop-lit.lit-index + 1) c.args.clause.now ≡ take c.loop-lit.lit-index c.args.clause.now ++ c.lit-item.result ∷ []
    grows = take_more c.args.clause.now c.loop-lit.lit-index c.lit-item.result c.loop-lit-test.true ∙ ap (λ z. take c.loop-lit.lit-index c.args.clause.now ++ z ∷ []) (sym c.lit-item.is)

    old_or_new : (lit : ℕ)
        → Contains (take c.loop-lit.lit-index c.args.clause.now) lit ⊎ (c.lit-item.result ≡ lit)
        → AddsNothing c.args.trail.now.entries c.args.seen.now (variable lit)
    old_or_new lit (inl before) = c.loop-lit.invariant lit before
    old_or_new lit (inr same) =
        subst (λ z. AddsNothing c.args.trail.now.entries c.args.seen.now (variable z)) same
        (c.if-not-adds_nothing.ensures.nothing refl)

pub returns-clause-little : goal.returns-clause-little
returns-clause-little c = λ _ lit has. c.loop-lit.invariant lit (subst (λ (xs : List ℕ). Contains xs lit) (sym (take_all c.loop-lit.lit-index c.args.clause.now c.loop-lit-test.false)) has)
