-- Larger tables.
use Rattle.std.proofs.Common.{◌≡◌, ◌∙◌, ℕ, zero, suc, ◌+◌, ◌-◌, ◌*◌, ◌<◌, ◌≤◌, List, ◌++◌, length, replicate, cond, refl, ap, subst, sym, inl, inr, arith, get_or}
use Rattle.std.specs.Prelude.{◌⊎◌, Contains, count_by}
use Rattle.std.proofs.lemmas.Bool.{cases_lt}
use Rattle.std.proofs.lemmas.List.{same_lists, get_or-map, length-append, length-replicate, get_or_append_left, get_or-append_right, get_or-replicate}
use Rattle.std.proofs.lemmas.List.Elements.{All-contains, Contains-get_or}
use Rattle.std.proofs.lemmas.List.Sums.{sum_by-append, sum_by-cons}
use Rattle.sat_base.specs.Lit.{variable}
use Rattle.trail_core.specs.declared.truth.Truth.{Truth}
use Rattle.trail_core.specs.declared.truth.Truth.TheVariants.{Unassigned}
use Rattle.trail_core.specs.declared.standing.Standing.{Standing}
use Rattle.trail_core.specs.Trail.{Entry}
use Rattle.trail_core.specs.Truth.{HasTruth, is_unassigned}
use Rattle.trail_core.specs.Standing.{place_of, reason_of}
use Rattle.trail_core.specs.Layout.{places, truth_at, standing_at, entry_of, AreTables}
use Rattle.trail_core.proofs.Views.{entries_of, length-entries, beyond}

-- the standings of the variables that have a place stay
pub record KeepsStandings (standings new : List Standing) (n : ℕ) : Type 0 where
  pub each : (i : ℕ) (d : Standing) → i < n → get_or new i d ≡ get_or standings i d
  pub long : n ≤ length new

pub same_standing : (truths : List Truth) (standings : List Standing) (trues : List ℕ) (depth vars : ℕ) (new : List Standing) → AreTables truths standings trues depth vars → KeepsStandings standings new (places vars) → (lit : ℕ) → Contains trues lit → standing_at new (variable lit) ≡ standing_at standings (variable lit)
same_standing truths standings trues depth vars new t keeps lit here =
    let h = All-contains (λ (l : ℕ). (2 ≤ l) × (l < 2 + length truths)) trues lit t.within here in
    keeps.each (variable lit - 1) _ (omega (arith, h.0, h.1, t.value_places))

pub wider : (truths : List Truth) (standings : List Standing) (trues : List ℕ) (depth vars : ℕ) (new : List Standing) → AreTables truths standings trues depth vars → KeepsStandings standings new (places vars) → AreTables truths new trues depth vars
wider truths standings trues depth vars new t keeps = record {
  value_places = t.value_places;
  standing_places = keeps.long;
  valued = t.valued;
  within = t.within;
  placed = λ place lt. ap place_of (same (get_or trues place 0) (Contains-get_or trues place 0 lt)) ∙ t.placed place lt;
  ascending = λ i j le lt.
      let h = t.ascending i j le lt in
      omega (arith, h, ap (λ s. s.level) (same (get_or trues i 0) (Contains-get_or trues i 0 (omega arith))), ap (λ s. s.level) (same (get_or trues j 0) (Contains-get_or trues j 0 lt)));
  below = λ k d lt. let h = t.below k d lt in omega (arith, h, ap (λ s. s.level) (same (get_or trues k d) (Contains-get_or trues k d lt)));
  counted = t.counted;
  shallow = t.shallow;
}
  where
    same : (lit : ℕ) → Contains trues lit → standing_at new (variable lit) ≡ standing_at standings (variable lit)
    same = same_standing truths standings trues depth vars new t keeps

pub wider_entries : (truths : List Truth) (standings : List Standing) (trues : List ℕ) (depth vars : ℕ) (new : List Standing) → AreTables truths standings trues depth vars → KeepsStandings standings new (places vars) → entries_of new trues ≡ entries_of standings trues
wider_entries truths standings trues depth vars new t keeps =
    same_lists (entries_of new trues) (entries_of standings trues) (length-entries new trues ∙ sym (length-entries standings trues))
    (λ k d lt. let k_in : k < length trues = omega (arith, lt, length-entries new trues) in
    get_or-map (entry_of new) trues k 0 d k_in
    ∙ ap (λ (s : Standing). entry_with (get_or trues k 0) s) (same_standing truths standings trues depth vars new t keeps (get_or trues k 0) (Contains-get_or trues k 0 k_in))
    ∙ sym (get_or-map (entry_of standings) trues k 0 d k_in))
  where
    entry_with : ℕ → Standing → Entry
    entry_with lit s = record { lit = lit; level = s.level; reason = reason_of s }

count-replicate : (n : ℕ) → count_by is_unassigned (replicate n Unassigned) ≡ n
count-replicate zero = refl
count-replicate (suc n) =
    let h = count-replicate n in
    omega (arith, h, sum_by-cons (λ (x : Truth). cond (is_unassigned x) 1 0) Unassigned (replicate n Unassigned))

-- more variables, all unassigned
pub more_vars : (truths : List Truth) (standings : List Standing) (trues : List ℕ) (depth vars new extra : ℕ) → AreTables truths standings trues depth vars → vars ≤ new → places new ≤ length standings → 2 * places vars + extra ≡ 2 * places new → AreTables (truths ++ replicate extra Unassigned) standings trues depth new
more_vars truths standings trues depth vars new extra t le standing_places extra_is = record {
  value_places = omega (arith, size, extra_is, t.value_places);
  standing_places = standing_places;
  valued = λ lit low high. at lit low (omega (arith, high, size)) (cases_lt lit (2 + length truths));
  within = λ k d lt. let h = t.within k d lt in (h.0, omega (arith, h.1, size));
  placed = t.placed;
  ascending = t.ascending;
  below = t.below;
  counted = omega (arith, t.counted, size, sum_by-append (λ (x : Truth). cond (is_unassigned x) 1 0) truths (replicate extra Unassigned), count-replicate extra);
  shallow = omega (arith, t.shallow, le);
}
  where
    all : List Truth
    all = truths ++ replicate extra Unassigned

    size : length all ≡ length truths + extra
    size = omega (arith, length-append truths (replicate extra Unassigned), length-replicate extra Unassigned)

    at : (lit : ℕ) → 2 ≤ lit → lit < 2 + length truths + extra → (lit < 2 + length truths) ⊎ (2 + length truths ≤ lit) → HasTruth trues lit (truth_at all lit)
    at lit low high (inl old) =
        subst (HasTruth trues lit) (sym (get_or_append_left truths (replicate extra Unassigned) Unassigned (lit - 2) (omega arith))) (t.valued lit low old)
    at lit low high (inr far) =
        let is : truth_at all lit ≡ Unassigned =
        get_or-append_right truths (replicate extra Unassigned) (length truths) (lit - 2) Unassigned refl (omega arith)
        ∙ get_or-replicate extra (lit - 2 - length truths) Unassigned Unassigned (omega arith) in
        subst (HasTruth trues lit) (sym is) (beyond truths standings trues depth vars lit t far)
