-- The last literal taken off the trail.
use Rattle.std.proofs.Common.{◌≡◌, ◌∙◌, ℕ, ◌+◌, ◌-◌, ◌*◌, ◌<◌, ◌≤◌, List, [], ◌∷◌, ◌++◌, length, set, cond, refl, ap, subst, sym, inl, inr, arith, get_or}
use Rattle.std.specs.Prelude.{◌⊎◌, Contains, count_by}
use Rattle.std.proofs.lemmas.Bool.{cases_eq}
use Rattle.std.proofs.lemmas.List.{length-set, length_push, get_or-set_other, get_or_push, get_or_append_left}
use Rattle.std.proofs.lemmas.List.Elements.{All-contains, Contains-push, Contains-push_cases, Contains-append_left}
use Rattle.std.proofs.lemmas.List.Sums.{sum_by-set}
use Rattle.sat_base.specs.Lit.{variable, opposite}
use Rattle.trail_core.specs.declared.truth.Truth.{Truth}
use Rattle.trail_core.specs.declared.truth.Truth.TheVariants.{True, False, Unassigned}
use Rattle.trail_core.specs.declared.standing.Standing.{Standing}
use Rattle.trail_core.specs.UnderTrail.{IsUnassigned}
use Rattle.trail_core.specs.Truth.{HasTruth, is_unassigned}
use Rattle.trail_core.specs.Standing.{place_of}
use Rattle.trail_core.specs.Layout.{truth_at, standing_at, AreTables}
use Rattle.trail_core.proofs.Views.{one_place, consistent, place_in}
use Rattle.trail_core.proofs.Push.{with_truths, length-with_truths, truth_here, truth_opposite, truth_other}

-- the truth value of a true literal, and of its opposite
true_is : (truths : List Truth) (standings : List Standing) (trues : List ℕ) (depth vars lit : ℕ) (truth : Truth) → AreTables truths standings trues depth vars → Contains trues lit → HasTruth trues lit truth → truth ≡ True
true_is truths standings trues depth vars lit True t here h = refl
true_is truths standings trues depth vars lit False t here h = absurd (consistent truths standings trues depth vars t lit here h.stands)
true_is truths standings trues depth vars lit Unassigned t here h = absurd (h.not_true (record { stands = here }))

false_is : (truths : List Truth) (standings : List Standing) (trues : List ℕ) (depth vars lit : ℕ) (truth : Truth) → AreTables truths standings trues depth vars → Contains trues lit → HasTruth trues (opposite lit) truth → truth ≡ False
false_is truths standings trues depth vars lit True t here h = absurd (consistent truths standings trues depth vars t lit here h.stands)
false_is truths standings trues depth vars lit False t here h = refl
false_is truths standings trues depth vars lit Unassigned t here h =
    let e : lit ≡ opposite (opposite lit) = omega arith in
    absurd (h.not_false (record { stands = subst (Contains trues) e here }))

-- a literal of another variable keeps its truth value
fewer_truth : (trues : List ℕ) (lit m : ℕ) (truth : Truth) → (m ≡ lit → ⊥) → (m ≡ opposite lit → ⊥) → HasTruth (trues ++ lit ∷ []) m truth → HasTruth trues m truth
fewer_truth trues lit m True n o h = record { stands = at (Contains-push_cases trues lit m h.stands) }
  where
    at : Contains trues m ⊎ (lit ≡ m) → Contains trues m
    at (inl c) = c
    at (inr e) = absurd (n (sym e))
fewer_truth trues lit m False n o h = record { stands = at (Contains-push_cases trues lit (opposite m) h.stands) }
  where
    at : Contains trues (opposite m) ⊎ (lit ≡ opposite m) → Contains trues (opposite m)
    at (inl c) = c
    at (inr e) = absurd (o (omega arith))
fewer_truth trues lit m Unassigned n o h = record {
  not_true = λ k. h.not_true (record { stands = Contains-append_left trues (lit ∷ []) m k.stands });
  not_false = λ k. h.not_false (record { stands = Contains-append_left trues (lit ∷ []) (opposite m) k.stands });
}

-- no older literal has the last one's variable
last_alone : (truths : List Truth) (standings : List Standing) (trues : List ℕ) (depth vars lit m : ℕ) → AreTables truths standings (trues ++ lit ∷ []) depth vars → Contains trues m → variable m ≡ variable lit → ⊥
last_alone truths standings trues depth vars lit m t here e =
    let all : List ℕ = trues ++ lit ∷ [] in
    let p = place_in trues m here in
    let size : length all ≡ length trues + 1 = length_push trues lit in
    let last : get_or all (length trues) 0 ≡ lit = get_or_push trues lit 0 (length trues) refl in
    let same_var : variable (get_or all p.0 0) ≡ variable (get_or all (length trues) 0) =
    ap variable (get_or_append_left trues (lit ∷ []) 0 p.0 p.1 ∙ p.2) ∙ e ∙ ap variable (sym last) in
    let same : p.0 ≡ length trues = one_place truths standings all depth vars p.0 (length trues) t (omega (arith, size, p.1)) (omega (arith, size)) same_var in
    omega (arith, same, p.1)

last_free : (truths : List Truth) (standings : List Standing) (trues : List ℕ) (depth vars lit m : ℕ) → AreTables truths standings (trues ++ lit ∷ []) depth vars → variable m ≡ variable lit → IsUnassigned trues m
last_free truths standings trues depth vars lit m t e = record {
  not_true = λ h. last_alone truths standings trues depth vars lit m t h.stands e;
  not_false = λ h. last_alone truths standings trues depth vars lit (opposite m) t h.stands (omega arith);
}

pub popped : (truths : List Truth) (standings : List Standing) (trues : List ℕ) (depth vars lit : ℕ) → AreTables truths standings (trues ++ lit ∷ []) depth vars → AreTables (with_truths truths lit Unassigned Unassigned) standings trues depth vars
popped truths standings trues depth vars lit t = record {
  value_places = size ∙ t.value_places;
  standing_places = t.standing_places;
  valued = λ m low m_in. valued_at m low (omega (arith, m_in, size)) (cases_eq m lit) (cases_eq m (opposite lit));
  within = λ k d lt. let h = t.within k d (omega (arith, lt, all_size)) in (
    subst (λ l. 2 ≤ l) (get_or_append_left trues (lit ∷ []) d k lt) h.0,
    omega (arith, h.1, size, get_or_append_left trues (lit ∷ []) d k lt),
  );
  placed = λ place lt. ap (λ l. place_of (standing_at standings (variable l))) (sym (old place lt)) ∙ t.placed place (omega (arith, lt, all_size));
  ascending = λ i j le lt.
      let h = t.ascending i j le (omega (arith, lt, all_size)) in
      omega (arith, h, ap (λ l. (standing_at standings (variable l)).level) (old i (omega arith)), ap (λ l. (standing_at standings (variable l)).level) (old j lt));
  below = λ k d lt.
      let h = t.below k d (omega (arith, lt, all_size)) in
      omega (arith, h, ap (λ l. (standing_at standings (variable l)).level) (get_or_append_left trues (lit ∷ []) d k lt));
  counted = counted ∙ sym size;
  shallow = t.shallow;
}
  where
    all : List ℕ
    all = trues ++ lit ∷ []

    size : length (with_truths truths lit Unassigned Unassigned) ≡ length truths
    size = length-with_truths truths lit Unassigned Unassigned

    all_size : length all ≡ length trues + 1
    all_size = length_push trues lit

    old : (place : ℕ) → place < length trues → get_or all place 0 ≡ get_or trues place 0
    old place lt = get_or_append_left trues (lit ∷ []) 0 place lt

    here : Contains all lit
    here = Contains-push trues lit

    bounds : (2 ≤ lit) × (lit < 2 + length truths)
    bounds = All-contains (λ (l : ℕ). (2 ≤ l) × (l < 2 + length truths)) all lit t.within here

    opposite_high : opposite lit < 2 + length truths
    opposite_high = omega (arith, bounds.0, bounds.1, t.value_places)

    valued_at : (m : ℕ) → 2 ≤ m → m < 2 + length truths → (m ≡ lit) ⊎ (m ≡ lit → ⊥) → (m ≡ opposite lit) ⊎ (m ≡ opposite lit → ⊥) → HasTruth trues m (truth_at (with_truths truths lit Unassigned Unassigned) m)
    valued_at m low high (inl e) _ =
        let is : truth_at (with_truths truths lit Unassigned Unassigned) m ≡ Unassigned = ap (truth_at (with_truths truths lit Unassigned Unassigned)) e ∙ truth_here truths lit Unassigned Unassigned bounds.0 bounds.1 in
        subst (HasTruth trues m) (sym is) (last_free truths standings trues depth vars lit m t (ap variable e))
    valued_at m low high (inr n) (inl e) =
        let is : truth_at (with_truths truths lit Unassigned Unassigned) m ≡ Unassigned = ap (truth_at (with_truths truths lit Unassigned Unassigned)) e ∙ truth_opposite truths lit Unassigned Unassigned opposite_high bounds.0 in
        subst (HasTruth trues m) (sym is) (last_free truths standings trues depth vars lit m t (omega (arith, e)))
    valued_at m low high (inr n) (inr o) =
        subst (HasTruth trues m) (sym (truth_other truths lit Unassigned Unassigned m bounds.0 low n o)) (fewer_truth trues lit m (truth_at truths m) n o (t.valued m low high))

    counted : count_by is_unassigned (with_truths truths lit Unassigned Unassigned) + 2 * length trues ≡ length truths
    counted =
        let f : Truth → ℕ = λ x. cond (is_unassigned x) 1 0 in
        let was : truth_at truths lit ≡ True = true_is truths standings all depth vars lit (truth_at truths lit) t here (t.valued lit bounds.0 bounds.1) in
        let other_was : truth_at truths (opposite lit) ≡ False = false_is truths standings all depth vars lit (truth_at truths (opposite lit)) t here (t.valued (opposite lit) (omega (arith, bounds.0)) opposite_high) in
        let first = sum_by-set f truths (lit - 2) Unassigned Unassigned (omega (arith, bounds.0, bounds.1)) in
        let kept : get_or (set truths (lit - 2) Unassigned) (opposite lit - 2) Unassigned ≡ False = get_or-set_other truths (lit - 2) (opposite lit - 2) Unassigned Unassigned (λ e. omega (arith, bounds.0, e)) ∙ other_was in
        let second = sum_by-set f (set truths (lit - 2) Unassigned) (opposite lit - 2) Unassigned Unassigned (omega (arith, bounds.0, opposite_high, length-set truths (lit - 2) Unassigned)) in
        omega (arith, t.counted, first, second, ap f was, ap f kept, all_size)
