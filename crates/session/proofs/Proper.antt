-- A hint that leads to a conflict is no tautology.
use Rattle.std.proofs.Common.{◌≡◌, ◌≢◌, ◌∙◌, ℕ, List, [], ◌∷◌, ◌++◌, map, refl, ap, sym, subst, inl}
use Rattle.std.proofs.Common.{inr, arith}
use Rattle.std.specs.Prelude.{◌⊎◌, Contains}
use Rattle.std.proofs.lemmas.Bool.{cases_eq}
use Rattle.std.proofs.lemmas.List.Elements.{Contains-append_cases}
use Rattle.sat_base.specs.Lit.{opposite, IsTautology}
use Rattle.sat_base.proofs.Members.{Contains-cases}
use Rattle.sat_base.proofs.Opposite.{opposite-opposite, opposite-differs, Contains-negations}
use Rattle.trace_core.specs.Propagation.{IsFalsified, IsUnit, ReachesConflict}

-- no literal of the set stands beside its opposite
abbrev IsConsistent : List ℕ → Type 0
IsConsistent set = (lit : ℕ) → Contains set lit → Contains set (opposite lit) → ⊥

falsified_proper : (set hint : List ℕ) → IsConsistent set → IsFalsified set hint → IsTautology hint
    → ⊥
falsified_proper set hint consistent all both = consistent (opposite both.lit)
    (all both.lit both.has) (all (opposite both.lit) both.has_opposite)

unit_proper : (set hint : List ℕ) (lit : ℕ) → IsConsistent set → IsUnit set hint lit
    → IsTautology hint → ⊥
unit_proper set hint lit consistent unit both = at (cases_eq both.lit lit)
    (cases_eq (opposite both.lit) lit)
  where
    at : (both.lit ≡ lit) ⊎ (both.lit ≢ lit) → (opposite both.lit ≡ lit)
        ⊎ (opposite both.lit ≢ lit) → ⊥
    at (inl first) (inl second) = opposite-differs both.lit (second ∙ sym first)
    at (inl first) (inr second) = unit.not_true (subst (Contains set)
        (opposite-opposite both.lit ∙ first) (unit.others_false
        (opposite both.lit) both.has_opposite second))
    at (inr first) (inl second) = unit.not_true (subst (Contains set) second
        (unit.others_false both.lit both.has first))
    at (inr first) (inr second) = consistent (opposite both.lit)
        (unit.others_false both.lit both.has first)
        (unit.others_false (opposite both.lit) both.has_opposite second)

consistent_push : (set : List ℕ) (lit : ℕ) → IsConsistent set → (Contains set (opposite lit) → ⊥)
    → IsConsistent (set ++ lit ∷ [])
consistent_push set lit consistent free other has has_opposite = at (last_or other has)
    (last_or (opposite other) has_opposite)
  where
    last_or : (x : ℕ) → Contains (set ++ lit ∷ []) x → Contains set x ⊎ (lit ≡ x)
    last_or x there = elim (Contains-append_cases set (lit ∷ []) x there) [
      | inl before ↦ inl before
      | inr last ↦ elim (Contains-cases lit x [] last) [
        | inl same ↦ inr same
        | inr (k, lt, is) ↦ absurd (omega (arith, lt))
      ]
    ]

    at : Contains set other ⊎ (lit ≡ other) → Contains set (opposite other)
        ⊎ (lit ≡ opposite other) → ⊥
    at (inl one) (inl two) = consistent other one two
    at (inl one) (inr two) = free (subst (Contains set)
        (sym (opposite-opposite other) ∙ (let e : opposite (opposite other)
        ≡ opposite lit = ap opposite (sym two) in e)) one)
    at (inr one) (inl two) = free (subst (λ x. Contains set (opposite x)) (sym one) two)
    at (inr one) (inr two) = opposite-differs other (sym two ∙ one)

pub hints_proper : (set : List ℕ) (hints : List (List ℕ)) → IsConsistent set
    → ReachesConflict set hints → (hint : List ℕ) → Contains hints hint → IsTautology hint → ⊥
hints_proper set [] consistent reaches hint has both = absurd reaches
hints_proper set (first ∷ []) consistent reaches hint has both = elim
    (Contains-cases first hint [] has) [
      | inl same ↦ falsified_proper set first consistent reaches (subst IsTautology (sym same) both)
      | inr (k, lt, is) ↦ omega (arith, lt)
    ]
hints_proper set (first ∷ next ∷ hints) consistent reaches hint has both = elim
    (Contains-cases first hint (next ∷ hints) has) [
      | inl same ↦ unit_proper set first reaches.0 consistent reaches.1
          (subst IsTautology (sym same) both)
      | inr later ↦ hints_proper (set ++ reaches.0 ∷ []) (next ∷ hints)
          (consistent_push set reaches.0 consistent reaches.1.not_false) reaches.2 hint later both
    ]

-- the opposites of a clause that is no tautology
pub negation_consistent : (clause : List ℕ) → (IsTautology clause → ⊥)
    → IsConsistent (map opposite clause)
negation_consistent clause proper lit has has_opposite =
    let first = (Contains-negations clause (map opposite clause) refl lit).0 has in
    let second = subst (Contains clause) (opposite-opposite lit)
    ((Contains-negations clause (map opposite clause) refl (opposite lit)).0 has_opposite) in
    proper (record { lit = lit; has = second; has_opposite = first })
