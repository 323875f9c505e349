-- Flags that agree with the list of places seen.
use Rattle.std.proofs.Common.{◌≡◌, ◌≢◌, ◌∙◌, ℕ, ◌+◌, ◌<◌, ◌≤◌, List, [], ◌∷◌, ◌++◌, length, get_or}
use Rattle.std.proofs.Common.{set, drop, Bool, true, false, ap, subst, sym, inl, inr, arith}
use Rattle.std.proofs.Common.{get_or-set_same, get_or-set_other, length-set}
use Rattle.std.specs.Prelude.{IsTrue, Contains, ◌⊎◌, ◌↔◌}
use Rattle.std.proofs.lemmas.Bool.{both_ways, cases_eq, cases_lt}
use Rattle.std.proofs.lemmas.List.{get_or_past, drop_more}
use Rattle.std.proofs.lemmas.List.Elements.{Contains-push, Contains-push_cases}
use Rattle.std.proofs.lemmas.List.Elements.{Contains-append_left, Contains-get_or}
use Rattle.std.proofs.lemmas.List.Quantifiers.{all_pairs_push}
use Rattle.sat_base.proofs.Members.{Contains-cases}
use Rattle.analyze.specs.Seen.{is_seen, Agree, AreClear, AreDistinct}
use Rattle.trace_core.proofs.Items.{nothing_in}

pub seen_within : (seen : List Bool) (place : ℕ) → is_seen seen place ≡ true → place < length seen
seen_within seen place marked = by_size (cases_lt place (length seen))
  where
    by_size : (place < length seen) ⊎ (length seen ≤ place) → place < length seen
    by_size (inl lt) = lt
    by_size (inr le) =
        absurd (both_ways (is_seen seen place) (get_or_past seen place false le) marked)

-- nothing is listed where nothing is seen
pub agree_clear : (seen : List Bool) (analyzed : List ℕ) → AreClear seen → analyzed ≡ []
    → Agree seen analyzed
agree_clear seen analyzed clear empty place = (
  λ marked. absurd (both_ways (is_seen seen place) (clear place) marked),
  λ has. nothing_in place (subst (λ (xs : List ℕ). Contains xs place) empty has),
)

pub agree_push : (seen : List Bool) (analyzed : List ℕ) (place : ℕ) → Agree seen analyzed
    → place < length seen → Agree (set seen place true) (analyzed ++ place ∷ [])
agree_push seen analyzed place agree within other = by_place (cases_eq other place)
  where
    by_place : (other ≡ place) ⊎ (other ≡ place → ⊥)
        → IsTrue (is_seen (set seen place true) other) ↔ Contains (analyzed ++ place ∷ []) other
    by_place (inl same) = (
      λ _. subst (Contains (analyzed ++ place ∷ [])) (sym same) (Contains-push analyzed place),
      λ _. ap (is_seen (set seen place true)) same ∙ get_or-set_same seen place true false within,
    )
    by_place (inr differs) =
        let kept : is_seen (set seen place true) other ≡ is_seen seen other =
        get_or-set_other seen place other true false differs in (
          λ marked. Contains-append_left analyzed (place ∷ []) other
              ((agree other).0 (sym kept ∙ marked)),
          λ has. kept ∙ (agree other).1 (before (Contains-push_cases analyzed place other has)),
        )
      where
        before : Contains analyzed other ⊎ (place ≡ other) → Contains analyzed other
        before (inl h) = h
        before (inr same) = absurd (differs (sym same))

-- an unmarked place is new to the list
pub distinct_push : (seen : List Bool) (analyzed : List ℕ) (place : ℕ) → Agree seen analyzed
    → AreDistinct analyzed → is_seen seen place ≡ false → AreDistinct (analyzed ++ place ∷ [])
distinct_push seen analyzed place agree distinct free =
    all_pairs_push (λ (x y : ℕ). x ≢ y) analyzed place distinct
    (λ k d lt same. both_ways (is_seen seen place) free
    ((agree place).1 (subst (Contains analyzed) same (Contains-get_or analyzed k d lt))))

-- places of the list are seen from there on only
pub forget : (seen : List Bool) (items : List ℕ) (i place : ℕ) → i < length items
    → place ≡ get_or items i place
    → ((other : ℕ) → IsTrue (is_seen seen other) → Contains (drop i items) other) → (other : ℕ)
    → IsTrue (is_seen (set seen place false) other) → Contains (drop (i + 1) items) other
forget seen items i place lt is before other marked = by_place (cases_eq other place)
  where
    rest : Contains (get_or items i place ∷ drop (i + 1) items) other → (other ≡ place → ⊥)
        → Contains (drop (i + 1) items) other
    rest has differs =
        first_or_later (Contains-cases (get_or items i place) other (drop (i + 1) items) has)
      where
        first_or_later : (get_or items i place ≡ other) ⊎ Contains (drop (i + 1) items) other
            → Contains (drop (i + 1) items) other
        first_or_later (inl same) = absurd (differs (sym same ∙ sym is))
        first_or_later (inr later) = later

    by_place : (other ≡ place) ⊎ (other ≡ place → ⊥) → Contains (drop (i + 1) items) other
    by_place (inl same) = by_size (cases_lt place (length seen))
      where
        by_size : (place < length seen) ⊎ (length seen ≤ place)
            → Contains (drop (i + 1) items) other
        by_size (inl within) =
            absurd (both_ways (is_seen (set seen place false) other)
            (ap (is_seen (set seen place false)) same
            ∙ get_or-set_same seen place false false within) marked)
        by_size (inr past) =
            absurd (both_ways (is_seen (set seen place false) other)
            (ap (is_seen (set seen place false)) same
            ∙ get_or_past (set seen place false) place false
            (omega (arith, length-set seen place false))) marked)
    by_place (inr differs) =
        rest (subst (λ (xs : List ℕ). Contains xs other) (drop_more items i place lt)
        (before other (sym (get_or-set_other seen place other false false differs) ∙ marked)))
        differs
