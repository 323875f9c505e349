-- The hints of ok steps name inputs and earlier steps.
use Rattle.std.proofs.Common.{List, [], ◌∷◌, ◌++◌, length}
use Rattle.std.proofs.Common.{subst}
use Rattle.std.specs.Prelude.{IsSome}
use Rattle.std.proofs.lemmas.List.{length-append}
use Rattle.std.proofs.lemmas.List.Elements.{All-weaker}
use Rattle.sat_base.specs.declared.origins.Ref.{Ref}
use Rattle.sat_base.specs.declared.origins.Ref.TheVariants.{Input, Shared, Own}
use Rattle.trace_core.specs.Known.{Known, known}
use Rattle.trace_core.specs.Trace.{AreOkSteps, known_of}
use Rattle.trace_core.specs.declared.derivation.Step.{Step}
use Rattle.trace_core.proofs.Items.{item_at-within}
use Rattle.trace_core.proofs.Soundness.{no_shared}
use Rattle.trace_text.specs.Text.{CiteEarlier, IsHintBelow}

-- what is known is an input or an earlier step
hint_below : (inputs own : List Known) (hint : Ref) → IsSome (known inputs [] own hint) →
    IsHintBelow (length inputs) (length own) hint
hint_below inputs own (Input number) some =
    item_at-within inputs number some
hint_below inputs own (Shared packet step) some = no_shared packet step some
hint_below inputs own (Own number) some = item_at-within own number some

ok_cite : (inputs own : List Known) (steps : List Step) → AreOkSteps inputs [] own steps →
    CiteEarlier (length inputs) (length own) steps
ok_cite inputs own [] ok = tt
ok_cite inputs own (step ∷ steps) ok = (
  All-weaker (λ (hint : Ref). IsSome (known inputs [] own hint))
      (IsHintBelow (length inputs) (length own)) (hint_below inputs own) step.hints ok.0.all_known,
  subst (λ n. CiteEarlier (length inputs) n steps) (length-append own (known_of step ∷ []))
      (ok_cite inputs (own ++ known_of step ∷ []) steps ok.1),
)

pub ok_cite_earlier : (inputs : List Known) (steps : List Step) → AreOkSteps inputs [] [] steps →
    CiteEarlier (length inputs) 0 steps
ok_cite_earlier inputs steps ok = ok_cite inputs [] steps ok
