-- One more literal on the trail.
use Rattle.std.proofs.Common.{◌≡◌, ◌∙◌, ℕ, ◌+◌, ◌-◌, ◌*◌, ◌<◌, ◌≤◌, List, [], ◌∷◌, ◌++◌, length, set, cond, refl, ap, subst, sym, inl, inr, arith, get_or}
use Rattle.std.specs.Prelude.{◌⊎◌, Contains, count_by}
use Rattle.std.proofs.lemmas.Bool.{cases_eq, cases_lt}
use Rattle.std.proofs.lemmas.List.{length-set, length_push, get_or-set_same, get_or-set_other, get_or_push, get_or_append_left, same_lists, get_or-map, map_push}
use Rattle.std.proofs.lemmas.List.Elements.{All-push, All-contains, All-get_or, Contains-get_or, Contains-push, Contains-push_cases, Contains-append_left}
use Rattle.std.proofs.lemmas.List.Sums.{sum_by-set}
use Rattle.sat_base.specs.Lit.{variable, opposite}
use Rattle.trail_core.specs.declared.truth.Truth.{Truth}
use Rattle.trail_core.specs.declared.truth.Truth.TheVariants.{True, False, Unassigned}
use Rattle.trail_core.specs.declared.standing.Standing.{Standing}
use Rattle.trail_core.specs.Trail.{Entry}
use Rattle.trail_core.specs.UnderTrail.{IsTrueLit, IsFalseLit, IsUnassigned}
use Rattle.trail_core.specs.Truth.{HasTruth, is_unassigned}
use Rattle.trail_core.specs.Standing.{place_of, reason_of}
use Rattle.trail_core.specs.Layout.{truth_at, standing_at, entry_of, AreTables}
use Rattle.trail_core.proofs.Views.{entries_of, length-entries, same_variable}

-- the truth values where this literal has one and its opposite has another
abbrev pub with_truths : List Truth → ℕ → Truth → Truth → List Truth
with_truths truths lit truth other = set (set truths (lit - 2) truth) (opposite lit - 2) other

pub length-with_truths : (truths : List Truth) (lit : ℕ) (truth other : Truth) → length (with_truths truths lit truth other) ≡ length truths
length-with_truths truths lit truth other = length-set (set truths (lit - 2) truth) (opposite lit - 2) other ∙ length-set truths (lit - 2) truth

pub truth_here : (truths : List Truth) (lit : ℕ) (truth other : Truth) → 2 ≤ lit → lit < 2 + length truths → truth_at (with_truths truths lit truth other) lit ≡ truth
truth_here truths lit truth other low high =
    get_or-set_other (set truths (lit - 2) truth) (opposite lit - 2) (lit - 2) other Unassigned (λ e. omega arith)
    ∙ get_or-set_same truths (lit - 2) truth Unassigned (omega arith)

pub truth_opposite : (truths : List Truth) (lit : ℕ) (truth other : Truth) → opposite lit < 2 + length truths → 2 ≤ lit → truth_at (with_truths truths lit truth other) (opposite lit) ≡ other
truth_opposite truths lit truth other high low =
    get_or-set_same (set truths (lit - 2) truth) (opposite lit - 2) other Unassigned (omega (arith, length-set truths (lit - 2) truth))

pub truth_other : (truths : List Truth) (lit : ℕ) (truth other : Truth) (m : ℕ) → 2 ≤ lit → 2 ≤ m → (m ≡ lit → ⊥) → (m ≡ opposite lit → ⊥) → truth_at (with_truths truths lit truth other) m ≡ truth_at truths m
truth_other truths lit truth other m low m_low n o =
    get_or-set_other (set truths (lit - 2) truth) (opposite lit - 2) (m - 2) other Unassigned (λ e. o (omega arith))
    ∙ get_or-set_other truths (lit - 2) (m - 2) truth Unassigned (λ e. n (omega arith))

-- a literal of another variable keeps its truth value
more_truth : (trues : List ℕ) (lit m : ℕ) (truth : Truth) → (m ≡ lit → ⊥) → (m ≡ opposite lit → ⊥) → HasTruth trues m truth → HasTruth (trues ++ lit ∷ []) m truth
more_truth trues lit m True n o h = record { stands = Contains-append_left trues (lit ∷ []) m h.stands }
more_truth trues lit m False n o h = record { stands = Contains-append_left trues (lit ∷ []) (opposite m) h.stands }
more_truth trues lit m Unassigned n o h = record {
  not_true = λ k. old (Contains-push_cases trues lit m k.stands);
  not_false = λ k. old_opposite (Contains-push_cases trues lit (opposite m) k.stands);
}
  where
    old : Contains trues m ⊎ (lit ≡ m) → ⊥
    old (inl c) = h.not_true (record { stands = c })
    old (inr e) = n (sym e)

    old_opposite : Contains trues (opposite m) ⊎ (lit ≡ opposite m) → ⊥
    old_opposite (inl c) = h.not_false (record { stands = c })
    old_opposite (inr e) = o (omega arith)

-- the truth value of an unassigned literal, and of its opposite
pub unassigned_is : (trues : List ℕ) (lit : ℕ) (truth : Truth) → IsUnassigned trues lit → HasTruth trues lit truth → truth ≡ Unassigned
unassigned_is trues lit True free h = absurd (free.not_true h)
unassigned_is trues lit False free h = absurd (free.not_false h)
unassigned_is trues lit Unassigned free h = refl

unassigned_opposite : (trues : List ℕ) (lit : ℕ) → IsUnassigned trues lit → IsUnassigned trues (opposite lit)
unassigned_opposite trues lit free = record {
  not_true = λ h. free.not_false (record { stands = h.stands });
  not_false = λ h. let e : opposite (opposite lit) ≡ lit = omega arith in free.not_true (record { stands = subst (Contains trues) e h.stands });
}

-- a literal that comes, and what is kept of it
pub record IsPush (truths : List Truth) (trues : List ℕ) (depth lit : ℕ) (standing : Standing) : Type 0 where
  pub low : 2 ≤ lit
  pub high : lit < 2 + length truths
  pub free : IsUnassigned trues lit
  pub place : place_of standing ≡ length trues
  pub level : standing.level ≡ depth

other_variable : (trues : List ℕ) (lit m : ℕ) → IsUnassigned trues lit → Contains trues m → variable m ≡ variable lit → ⊥
other_variable trues lit m free here e = at (same_variable m lit e)
  where
    at : (m ≡ lit) ⊎ (m ≡ opposite lit) → ⊥
    at (inl k) = free.not_true (record { stands = subst (Contains trues) k here })
    at (inr k) = free.not_false (record { stands = subst (Contains trues) k here })

-- an older literal's standing stays
old_standing : (truths : List Truth) (standings : List Standing) (trues : List ℕ) (depth vars lit : ℕ) (standing : Standing) → AreTables truths standings trues depth vars → IsPush truths trues depth lit standing → (m : ℕ) → Contains trues m → standing_at (set standings (variable lit - 1) standing) (variable m) ≡ standing_at standings (variable m)
old_standing truths standings trues depth vars lit standing t push m here =
    let P : ℕ → Type 0 = λ l. (2 ≤ l) × (l < 2 + length truths) in
    let k = All-contains P trues m t.within here in
    let differs = other_variable trues lit m push.free here in
    get_or-set_other standings (variable lit - 1) (variable m - 1) standing _ (λ e. differs (omega (arith, k.0, push.low, e)))

new_standing : (truths : List Truth) (standings : List Standing) (trues : List ℕ) (depth vars lit : ℕ) (standing : Standing) → AreTables truths standings trues depth vars → IsPush truths trues depth lit standing → standing_at (set standings (variable lit - 1) standing) (variable lit) ≡ standing
new_standing truths standings trues depth vars lit standing t push =
    get_or-set_same standings (variable lit - 1) standing _ (omega (arith, push.low, push.high, t.value_places, t.standing_places))

counted_pushed : (truths : List Truth) (standings : List Standing) (trues : List ℕ) (depth vars lit : ℕ) (standing : Standing) → AreTables truths standings trues depth vars → IsPush truths trues depth lit standing → count_by is_unassigned (with_truths truths lit True False) + 2 * length (trues ++ lit ∷ []) ≡ length truths
counted_pushed truths standings trues depth vars lit standing t push =
    let f : Truth → ℕ = λ x. cond (is_unassigned x) 1 0 in
    let high : opposite lit < 2 + length truths = omega (arith, push.low, push.high, t.value_places) in
    let here : truth_at truths lit ≡ Unassigned = unassigned_is trues lit (truth_at truths lit) push.free (t.valued lit push.low push.high) in
    let there : truth_at truths (opposite lit) ≡ Unassigned = unassigned_is trues (opposite lit) (truth_at truths (opposite lit)) (unassigned_opposite trues lit push.free) (t.valued (opposite lit) (omega (arith, push.low)) high) in
    let first = sum_by-set f truths (lit - 2) True Unassigned (omega (arith, push.low, push.high)) in
    let kept : get_or (set truths (lit - 2) True) (opposite lit - 2) Unassigned ≡ Unassigned = get_or-set_other truths (lit - 2) (opposite lit - 2) True Unassigned (λ e. omega (arith, push.low, e)) ∙ there in
    let second = sum_by-set f (set truths (lit - 2) True) (opposite lit - 2) False Unassigned (omega (arith, push.low, high, length-set truths (lit - 2) True)) in
    omega (arith, t.counted, first, second, ap f here, ap f kept, length_push trues lit)

truths_pushed : (truths : List Truth) (standings : List Standing) (trues : List ℕ) (depth vars lit : ℕ) (standing : Standing) → AreTables truths standings trues depth vars → IsPush truths trues depth lit standing → (m : ℕ) → 2 ≤ m → m < 2 + length truths → HasTruth (trues ++ lit ∷ []) m (truth_at (with_truths truths lit True False) m)
truths_pushed truths standings trues depth vars lit standing t push m low high = at (cases_eq m lit) (cases_eq m (opposite lit))
  where
    new : List ℕ
    new = trues ++ lit ∷ []

    at : (m ≡ lit) ⊎ (m ≡ lit → ⊥) → (m ≡ opposite lit) ⊎ (m ≡ opposite lit → ⊥) → HasTruth new m (truth_at (with_truths truths lit True False) m)
    at (inl e) _ =
        let is : truth_at (with_truths truths lit True False) m ≡ True = ap (truth_at (with_truths truths lit True False)) e ∙ truth_here truths lit True False push.low push.high in
        let h : IsTrueLit new m = record { stands = subst (Contains new) (sym e) (Contains-push trues lit) } in
        subst (HasTruth new m) (sym is) h
    at (inr n) (inl e) =
        let is : truth_at (with_truths truths lit True False) m ≡ False = ap (truth_at (with_truths truths lit True False)) e ∙ truth_opposite truths lit True False (omega (arith, e, high)) push.low in
        let back : lit ≡ opposite m = omega (arith, e) in
        let h : IsFalseLit new m = record { stands = subst (Contains new) back (Contains-push trues lit) } in
        subst (HasTruth new m) (sym is) h
    at (inr n) (inr o) =
        subst (HasTruth new m) (sym (truth_other truths lit True False m push.low low n o)) (more_truth trues lit m (truth_at truths m) n o (t.valued m low high))

pub pushed : (truths : List Truth) (standings : List Standing) (trues : List ℕ) (depth vars lit : ℕ) (standing : Standing) → AreTables truths standings trues depth vars → IsPush truths trues depth lit standing → AreTables (with_truths truths lit True False) (set standings (variable lit - 1) standing) (trues ++ lit ∷ []) depth vars
pushed truths standings trues depth vars lit standing t push = record {
  value_places = size ∙ t.value_places;
  standing_places = omega (arith, t.standing_places, length-set standings (variable lit - 1) standing);
  valued = λ m low high. truths_pushed truths standings trues depth vars lit standing t push m low (omega (arith, high, size));
  within = All-push (λ (l : ℕ). (2 ≤ l) × (l < 2 + length (with_truths truths lit True False))) trues lit
      (λ k d lt. let h = t.within k d lt in (h.0, omega (arith, h.1, size))) (push.low, omega (arith, push.high, size));
  placed = λ place lt. placed_at place (cases_lt place (length trues)) lt;
  ascending = λ i j le lt. ascends i j le (cases_lt i (length trues)) (cases_lt j (length trues)) lt;
  below = All-push (λ (l : ℕ). (standing_at new (variable l)).level ≤ depth) trues lit
      (λ k d lt. let h = t.below k d lt in omega (arith, h, ap (λ s. s.level) (old (get_or trues k d) (Contains-get_or trues k d lt))))
      (omega (arith, ap (λ s. s.level) here, push.level));
  counted = counted_pushed truths standings trues depth vars lit standing t push ∙ sym size;
  shallow = t.shallow;
}
  where
    new : List Standing
    new = set standings (variable lit - 1) standing

    all : List ℕ
    all = trues ++ lit ∷ []

    size : length (with_truths truths lit True False) ≡ length truths
    size = length-with_truths truths lit True False

    old : (m : ℕ) → Contains trues m → standing_at new (variable m) ≡ standing_at standings (variable m)
    old = old_standing truths standings trues depth vars lit standing t push

    here : standing_at new (variable lit) ≡ standing
    here = new_standing truths standings trues depth vars lit standing t push

    old_at : (place : ℕ) → place < length trues → standing_at new (variable (get_or all place 0)) ≡ standing_at standings (variable (get_or trues place 0))
    old_at place lt =
        ap (λ l. standing_at new (variable l)) (get_or_append_left trues (lit ∷ []) 0 place lt)
        ∙ old (get_or trues place 0) (Contains-get_or trues place 0 lt)

    last_at : (place : ℕ) → place ≡ length trues → standing_at new (variable (get_or all place 0)) ≡ standing
    last_at place e = ap (λ l. standing_at new (variable l)) (get_or_push trues lit 0 place (sym e)) ∙ here

    placed_at : (place : ℕ) → (place < length trues) ⊎ (length trues ≤ place) → place < length all → place_of (standing_at new (variable (get_or all place 0))) ≡ place
    placed_at place (inl lt) _ = ap place_of (old_at place lt) ∙ t.placed place lt
    placed_at place (inr ge) lt =
        let e : place ≡ length trues = omega (arith, ge, lt, length_push trues lit) in
        ap place_of (last_at place e) ∙ push.place ∙ sym e

    level_old : (place : ℕ) → place < length trues → (standing_at new (variable (get_or all place 0))).level ≤ depth
    level_old place lt =
        let h = All-get_or (λ (l : ℕ). (standing_at standings (variable l)).level ≤ depth) trues place 0 lt t.below in
        omega (arith, h, ap (λ s. s.level) (old_at place lt))

    level_last : (place : ℕ) → length trues ≤ place → place < length all → (standing_at new (variable (get_or all place 0))).level ≡ depth
    level_last place ge lt = ap (λ s. s.level) (last_at place (omega (arith, ge, lt, length_push trues lit))) ∙ push.level

    ascends : (i j : ℕ) → i ≤ j → (i < length trues) ⊎ (length trues ≤ i) → (j < length trues) ⊎ (length trues ≤ j) → j < length all → (standing_at new (variable (get_or all i 0))).level ≤ (standing_at new (variable (get_or all j 0))).level
    ascends i j le _ (inl j_old) lt =
        let h = t.ascending i j le j_old in
        omega (arith, h, ap (λ s. s.level) (old_at i (omega arith)), ap (λ s. s.level) (old_at j j_old))
    ascends i j le (inl i_old) (inr j_new) lt = omega (arith, level_old i i_old, level_last j j_new lt)
    ascends i j le (inr i_new) (inr j_new) lt = omega (arith, level_last i i_new (omega arith), level_last j j_new lt)

old_entries : (standings new : List Standing) (trues : List ℕ) → ((m : ℕ) → Contains trues m → standing_at new (variable m) ≡ standing_at standings (variable m)) → entries_of new trues ≡ entries_of standings trues
old_entries standings new trues same =
    same_lists (entries_of new trues) (entries_of standings trues) (length-entries new trues ∙ sym (length-entries standings trues))
    (λ k d lt. let k_in : k < length trues = omega (arith, lt, length-entries new trues) in
    get_or-map (entry_of new) trues k 0 d k_in
    ∙ ap (λ (s : Standing). entry_with (get_or trues k 0) s) (same (get_or trues k 0) (Contains-get_or trues k 0 k_in))
    ∙ sym (get_or-map (entry_of standings) trues k 0 d k_in))
  where
    entry_with : ℕ → Standing → Entry
    entry_with lit s = record { lit = lit; level = s.level; reason = reason_of s }

pub entries_pushed : (truths : List Truth) (standings : List Standing) (trues : List ℕ) (depth vars lit : ℕ) (standing : Standing) → AreTables truths standings trues depth vars → IsPush truths trues depth lit standing → entries_of (set standings (variable lit - 1) standing) (trues ++ lit ∷ []) ≡ entries_of standings trues ++ record { lit = lit; level = standing.level; reason = reason_of standing } ∷ []
entries_pushed truths standings trues depth vars lit standing t push =
    let new : List Standing = set standings (variable lit - 1) standing in
    let entry_with : Standing → Entry = λ s. record { lit = lit; level = s.level; reason = reason_of s } in
    map_push (entry_of new) trues lit
    ∙ ap (λ xs. xs ++ entry_of new lit ∷ []) (old_entries standings new trues (old_standing truths standings trues depth vars lit standing t push))
    ∙ ap (λ s. entries_of standings trues ++ entry_with s ∷ []) (new_standing truths standings trues depth vars lit standing t push)
