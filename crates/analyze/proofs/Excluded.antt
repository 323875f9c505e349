-- The tautology of a literal and its negation.
use Rattle.std.proofs.Common.{◌≡◌, ◌∙◌, ℕ, ◌+◌, ◌*◌, ◌%◌, List, [], ◌∷◌, map, length, refl, ap, subst, sym, inl, inr, arith, Option}
use Rattle.std.specs.Prelude.{Contains, ◌⊎◌, ◌↔◌, All, IsSome}
use Rattle.std.proofs.lemmas.Bool.{cases_eq}
use Rattle.std.proofs.lemmas.List.Elements.{All-nil}
use Rattle.sat_base.specs.Lit.{variable, opposite, IsTautology}
use Rattle.sat_base.specs.declared.origins.Ref.{Ref}
use Rattle.sat_base.proofs.Opposite.{variable-opposite, opposite-opposite}
use Rattle.sat_base.proofs.Members.{Contains-cases}
use Rattle.trace_core.specs.Known.{Known, clause_of, tag_of}
use Rattle.trace_core.specs.Trace.{greatest}
use Rattle.trace_core.specs.declared.derivation.Step.{Step}
use Rattle.trail_core.specs.Trail.{Entry}
use Rattle.analyze.specs.Graph.{IsDecision}
use Rattle.analyze.specs.Refuted.{IsPart, IsNegationOf, IsRefutedBy, IsExcludedOf}
use Rattle.trace_core.proofs.Items.{nothing_in}

-- the two literals of a variable
pub both_members : (lit : ℕ) (pair : List ℕ) → pair ≡ (2 * variable lit) ∷ (2 * variable lit + 1) ∷ [] → (other : ℕ) → Contains pair other ↔ ((other ≡ lit) ⊎ (other ≡ opposite lit))
both_members lit pair is other = subst (λ (xs : List ℕ). Contains xs other ↔ ((other ≡ lit) ⊎ (other ≡ opposite lit))) (sym is) (
  λ has. to (Contains-cases (2 * variable lit) other ((2 * variable lit + 1) ∷ []) has),
  λ is_one. back is_one,
)
  where
    sides : (other ≡ 2 * variable lit) ⊎ (other ≡ 2 * variable lit + 1) → (other ≡ lit) ⊎ (other ≡ opposite lit)
    sides (inl e) = by_parity (cases_eq (lit % 2) 0)
      where
        by_parity : (lit % 2 ≡ 0) ⊎ (lit % 2 ≡ 0 → ⊥) → (other ≡ lit) ⊎ (other ≡ opposite lit)
        by_parity (inl even) = inl (omega arith)
        by_parity (inr odd) = inr (omega arith)
    sides (inr e) = by_parity (cases_eq (lit % 2) 0)
      where
        by_parity : (lit % 2 ≡ 0) ⊎ (lit % 2 ≡ 0 → ⊥) → (other ≡ lit) ⊎ (other ≡ opposite lit)
        by_parity (inl even) = inr (omega arith)
        by_parity (inr odd) = inl (omega arith)

    second : (2 * variable lit + 1 ≡ other) ⊎ Contains [] other → (other ≡ lit) ⊎ (other ≡ opposite lit)
    second (inl same) = sides (inr (sym same))
    second (inr none) = nothing_in other none

    to : (2 * variable lit ≡ other) ⊎ Contains ((2 * variable lit + 1) ∷ []) other → (other ≡ lit) ⊎ (other ≡ opposite lit)
    to (inl same) = sides (inl (sym same))
    to (inr later) = second (Contains-cases (2 * variable lit + 1) other [] later)

    low_or_high : (other ≡ 2 * variable lit) ⊎ (other ≡ 2 * variable lit + 1) → Contains ((2 * variable lit) ∷ (2 * variable lit + 1) ∷ []) other
    low_or_high (inl e) = (0, omega arith, sym e)
    low_or_high (inr e) = (1, omega arith, sym e)

    place_in : (z : ℕ) → variable z ≡ variable lit → (z ≡ 2 * variable lit) ⊎ (z ≡ 2 * variable lit + 1)
    place_in z same = by_parity (cases_eq (z % 2) 0)
      where
        by_parity : (z % 2 ≡ 0) ⊎ (z % 2 ≡ 0 → ⊥) → (z ≡ 2 * variable lit) ⊎ (z ≡ 2 * variable lit + 1)
        by_parity (inl even) = inl (omega arith)
        by_parity (inr odd) = inr (omega arith)

    back : (other ≡ lit) ⊎ (other ≡ opposite lit) → Contains ((2 * variable lit) ∷ (2 * variable lit + 1) ∷ []) other
    back (inl same) = low_or_high (place_in other (ap variable same))
    back (inr same) = low_or_high (place_in other (ap variable same ∙ variable-opposite lit))

-- the tautology of a literal and its negation
pub excluded : (entries : List Entry) (lit : ℕ) (part : List ℕ) (step : Step) → IsExcludedOf lit part step → IsTautology step.clause × IsNegationOf part step.clause
excluded entries lit part step of = (tautology, negation)
  where
    tautology : IsTautology step.clause
    tautology = subst (λ (xs : List ℕ). IsTautology xs) (sym of.same) (record { lit = lit; has = (of.members lit).1 (inl refl); has_opposite = (of.members (opposite lit)).1 (inr refl) })

    flip : (other : ℕ) → (other ≡ lit) ⊎ (other ≡ opposite lit) → (opposite other ≡ lit) ⊎ (opposite other ≡ opposite lit)
    flip other (inl e) = inr (ap opposite e)
    flip other (inr e) = inl (ap opposite e ∙ opposite-opposite lit)

    unflip : (other : ℕ) → (opposite other ≡ lit) ⊎ (opposite other ≡ opposite lit) → (other ≡ lit) ⊎ (other ≡ opposite lit)
    unflip other (inl e) = inr (sym (opposite-opposite other) ∙ ap opposite e)
    unflip other (inr e) = inl (sym (opposite-opposite other) ∙ ap opposite e ∙ opposite-opposite lit)

    negation : IsNegationOf part step.clause
    negation other = subst (λ (xs : List ℕ). Contains xs other ↔ Contains part (opposite other)) (sym of.same) (
      λ has. (of.members (opposite other)).1 (flip other ((of.members other).0 has)),
      λ has. (of.members other).1 (unflip other ((of.members (opposite other)).0 has)),
    )

pub excluded_part : (entries : List Entry) (lit : ℕ) (part : List ℕ) (step : Step) → IsDecision entries (opposite lit) → IsExcludedOf lit part step → IsPart entries lit part
excluded_part entries lit part step decision of = record {
  stands = (of.members lit).1 (inl refl);
  others = λ other has. decide other ((of.members other).0 has);
}
  where
    decide : (other : ℕ) → (other ≡ lit) ⊎ (other ≡ opposite lit) → (other ≡ lit) ⊎ IsDecision entries other
    decide other (inl same) = inl same
    decide other (inr same) = inr (subst (IsDecision entries) (sym same) decision)

pub excluded_by : (entries : List Entry) (table : Ref → Option Known) (lit : ℕ) (part : List ℕ) (step : Step) → IsExcludedOf lit part step → IsRefutedBy table step
excluded_by entries table lit part step of = record {
  ok = record {
    all_known = subst (All (λ hint. IsSome (table hint))) (sym of.no_hints) (All-nil (λ hint. IsSome (table hint)));
    proved = inl (record { tautology = tautology; two = of.two; no_hint = ap (λ hs. length (map (λ hint. clause_of (table hint)) hs)) of.no_hints });
    exact_tag = of.no_tag ∙ sym (ap (λ hs. greatest (map (λ hint. tag_of (table hint)) hs)) of.no_hints);
  };
  covered = inl (tautology, of.no_hints);
}
  where
    tautology : IsTautology step.clause
    tautology = (excluded entries lit part step of).0
