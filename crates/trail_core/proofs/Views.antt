-- What the tables of a trail say of its entries.
use Rattle.std.proofs.Common.{◌≡◌, ◌∙◌, ℕ, ◌+◌, ◌*◌, ◌<◌, ◌≤◌, List, [], ◌∷◌, map, length, refl, ap, subst, sym, inl, inr, arith, get_or}
use Rattle.std.specs.Prelude.{◌⊎◌, true, false, Contains}
use denote.Enum.Bare.{sameb}
use Rattle.trail_core.specs.contracts.truth.Truth.{the_type}
use Rattle.std.proofs.lemmas.Bool.{cases_eq}
use Rattle.std.proofs.lemmas.List.{length-map, get_or-map, get_or_default}
use Rattle.std.proofs.lemmas.List.Elements.{All-map, All-weaker, All-contains, Contains-get_or}
use Rattle.sat_base.specs.Lit.{variable, opposite}
use Rattle.trail_core.specs.declared.truth.Truth.{Truth}
use Rattle.trail_core.specs.declared.truth.Truth.TheVariants.{True, False, Unassigned}
use Rattle.trail_core.specs.declared.standing.Standing.{Standing}
use Rattle.trail_core.specs.Trail.{Entry, no_entry, entry_at, lits_of, StandsAt, IsFree, IsTrail}
use Rattle.trail_core.specs.UnderTrail.{IsUnassigned}
use Rattle.trail_core.specs.Truth.{HasTruth}
use Rattle.trail_core.specs.Standing.{place_of, reason_of, IsStandingOf}
use Rattle.trail_core.specs.Layout.{standing_at, entry_of, AreTables}

-- literals of one variable are equal or opposite
pub same_variable : (a b : ℕ) → variable a ≡ variable b → (a ≡ b) ⊎ (a ≡ opposite b)
same_variable a b e = at (cases_eq a b)
  where
    at : (a ≡ b) ⊎ (a ≡ b → ⊥) → (a ≡ b) ⊎ (a ≡ opposite b)
    at (inl h) = inl h
    at (inr n) = inr (omega arith)

abbrev pub entries_of : List Standing → List ℕ → List Entry
entries_of standings trues = map (entry_of standings) trues

pub lits_of-entries : (standings : List Standing) (trues : List ℕ) → lits_of (entries_of standings trues) ≡ trues
lits_of-entries standings [] = refl
lits_of-entries standings (lit ∷ trues) = ap (λ xs. lit ∷ xs) (lits_of-entries standings trues)

pub length-entries : (standings : List Standing) (trues : List ℕ) → length (entries_of standings trues) ≡ length trues
length-entries standings trues = length-map trues (entry_of standings)

pub entry_at-entries : (standings : List Standing) (trues : List ℕ) (place : ℕ) → place < length trues → entry_at (entries_of standings trues) place ≡ entry_of standings (get_or trues place 0)
entry_at-entries standings trues place lt = get_or-map (entry_of standings) trues place 0 no_entry lt

pub lit_at-entries : (standings : List Standing) (trues : List ℕ) (place : ℕ) → place < length trues → (entry_at (entries_of standings trues) place).lit ≡ get_or trues place 0
lit_at-entries standings trues place lt = ap (λ entry. entry.lit) (entry_at-entries standings trues place lt)

-- the places of one variable are one
pub one_place : (truths : List Truth) (standings : List Standing) (trues : List ℕ) (depth vars i j : ℕ) → AreTables truths standings trues depth vars → i < length trues → j < length trues → variable (get_or trues i 0) ≡ variable (get_or trues j 0) → i ≡ j
one_place truths standings trues depth vars i j t i_in j_in e =
    sym (t.placed i i_in) ∙ ap (λ var. place_of (standing_at standings var)) e ∙ t.placed j j_in

pub place_in : (trues : List ℕ) (lit : ℕ) → Contains trues lit → (i : ℕ) × (i < length trues) × (get_or trues i 0 ≡ lit)
place_in trues lit (i, lt, is) = (i, lt, get_or_default trues i 0 lit lt ∙ is)

pub consistent : (truths : List Truth) (standings : List Standing) (trues : List ℕ) (depth vars : ℕ) → AreTables truths standings trues depth vars → (lit : ℕ) → Contains trues lit → Contains trues (opposite lit) → ⊥
consistent truths standings trues depth vars t lit here there =
    let p = place_in trues lit here in
    let q = place_in trues (opposite lit) there in
    let same_var : variable (get_or trues p.0 0) ≡ variable (get_or trues q.0 0) = ap variable p.2 ∙ omega arith ∙ ap variable (sym q.2) in
    let same : p.0 ≡ q.0 = one_place truths standings trues depth vars p.0 q.0 t p.1 q.1 same_var in
    let e : lit ≡ opposite lit = sym p.2 ∙ ap (λ n. get_or trues n 0) same ∙ q.2 in
    omega arith

variable_at : (standings : List Standing) (trues : List ℕ) (var place : ℕ) → StandsAt (entries_of standings trues) var place → (place < length trues) × (variable (get_or trues place 0) ≡ var)
variable_at standings trues var place h =
    let lt : place < length trues = omega (arith, h.within, length-entries standings trues) in
    (lt, ap variable (sym (lit_at-entries standings trues place lt)) ∙ h.is)

pub stands_at : (standings : List Standing) (trues : List ℕ) (var place : ℕ) → place < length trues → variable (get_or trues place 0) ≡ var → StandsAt (entries_of standings trues) var place
stands_at standings trues var place lt is = record {
  within = omega (arith, lt, length-entries standings trues);
  is = ap variable (lit_at-entries standings trues place lt) ∙ is;
}

level_at : (standings : List Standing) (trues : List ℕ) (place : ℕ) → place < length trues → (entry_at (entries_of standings trues) place).level ≡ (standing_at standings (variable (get_or trues place 0))).level
level_at standings trues place lt = ap (λ entry. entry.level) (entry_at-entries standings trues place lt)

-- the tables keep what holds of every trail
pub trail_from : (truths : List Truth) (standings : List Standing) (trues : List ℕ) (depth vars looked : ℕ) → AreTables truths standings trues depth vars → looked ≤ length trues → IsTrail (record { entries = entries_of standings trues; depth = depth; vars = vars; looked = looked })
trail_from truths standings trues depth vars looked t at = record {
  once = λ var i j p q.
      let a = variable_at standings trues var i p in
      let b = variable_at standings trues var j q in
      one_place truths standings trues depth vars i j t a.0 b.0 (a.1 ∙ sym b.1);
  consistent = λ lit here there.
      consistent truths standings trues depth vars t lit
      (subst (λ (xs : List ℕ). Contains xs lit) (lits_of-entries standings trues) here)
      (subst (λ (xs : List ℕ). Contains xs (opposite lit)) (lits_of-entries standings trues) there);
  ascending = λ i j le lt.
      let j_in : j < length trues = omega (arith, lt, length-entries standings trues) in
      omega (arith, t.ascending i j le j_in, level_at standings trues i (omega arith), level_at standings trues j j_in);
  below = All-map (λ (entry : Entry). entry.level ≤ depth) (entry_of standings) trues t.below;
  reserved = All-map (λ (entry : Entry). (1 ≤ variable entry.lit) × (variable entry.lit ≤ vars)) (entry_of standings) trues
      (All-weaker (λ (lit : ℕ). (2 ≤ lit) × (lit < 2 + length truths)) (λ (lit : ℕ). (1 ≤ variable lit) × (variable lit ≤ vars))
      (λ lit h. (omega arith, omega (arith, h.1, t.value_places))) trues t.within);
  few = omega (arith, t.counted, t.value_places, length-entries standings trues);
  shallow = t.shallow;
  looked_at = omega (arith, at, length-entries standings trues);
}

-- a literal is one of the tables'
pub index_in : (truths : List Truth) (standings : List Standing) (trues : List ℕ) (depth vars lit : ℕ) → AreTables truths standings trues depth vars → 2 ≤ lit → lit < 16777216 → variable lit ≤ vars → lit < 2 + length truths
index_in truths standings trues depth vars lit t low high within = omega (arith, t.value_places)

-- a literal beyond the tables is unassigned
pub beyond : (truths : List Truth) (standings : List Standing) (trues : List ℕ) (depth vars lit : ℕ) → AreTables truths standings trues depth vars → 2 + length truths ≤ lit → IsUnassigned trues lit
beyond truths standings trues depth vars lit t far =
    let P : ℕ → Type 0 = λ l. (2 ≤ l) × (l < 2 + length truths) in
    record {
      not_true = λ h. let k = All-contains P trues lit t.within h.stands in omega (arith, k.1);
      not_false = λ h. let k = All-contains P trues (opposite lit) t.within h.stands in omega (arith, k.1, t.value_places);
    }

-- the standing of an assigned variable
assigned : (truths : List Truth) (standings : List Standing) (trues : List ℕ) (depth vars var lit : ℕ) → AreTables truths standings trues depth vars → Contains trues lit → variable lit ≡ var → IsStandingOf (entries_of standings trues) var (standing_at standings var)
assigned truths standings trues depth vars var lit t stands is =
    let p = place_in trues lit stands in
    let var_is : variable (get_or trues p.0 0) ≡ var = ap variable p.2 ∙ is in
    let place_is : p.0 ≡ place_of (standing_at standings var) = sym (t.placed p.0 p.1) ∙ ap (λ v. place_of (standing_at standings v)) var_is in
    let entry_is : entry_at (entries_of standings trues) p.0 ≡ entry_of standings (get_or trues p.0 0) = entry_at-entries standings trues p.0 p.1 in
    record {
      stands = subst (StandsAt (entries_of standings trues) var) place_is (stands_at standings trues var p.0 p.1 var_is);
      level = ap (λ n. (entry_at (entries_of standings trues) n).level) (sym place_is) ∙ ap (λ entry. entry.level) entry_is ∙ ap (λ v. (standing_at standings v).level) var_is;
      reason = ap (λ n. (entry_at (entries_of standings trues) n).reason) (sym place_is) ∙ ap (λ entry. entry.reason) entry_is ∙ ap (λ v. reason_of (standing_at standings v)) var_is;
    }

pub standing_found : (truths : List Truth) (standings : List Standing) (trues : List ℕ) (depth vars var : ℕ) (truth : Truth) → AreTables truths standings trues depth vars → HasTruth trues (2 * var) truth → (truth ≡ Unassigned → ⊥) → IsStandingOf (entries_of standings trues) var (standing_at standings var)
standing_found truths standings trues depth vars var True t h some = assigned truths standings trues depth vars var (2 * var) t h.stands (omega arith)
standing_found truths standings trues depth vars var False t h some = assigned truths standings trues depth vars var (opposite (2 * var)) t h.stands (omega arith)
standing_found truths standings trues depth vars var Unassigned t h some = absurd (some refl)

pub free_from : (standings : List Standing) (trues : List ℕ) (var : ℕ) → IsUnassigned trues (2 * var) → IsFree (entries_of standings trues) var
free_from standings trues var free = record {
  none = λ place h.
      let a = variable_at standings trues var place h in
      let here : Contains trues (get_or trues place 0) = Contains-get_or trues place 0 a.0 in
      at (get_or trues place 0) here (same_variable (get_or trues place 0) (2 * var) (a.1 ∙ omega arith));
}
  where
    at : (lit : ℕ) → Contains trues lit → (lit ≡ 2 * var) ⊎ (lit ≡ opposite (2 * var)) → ⊥
    at lit here (inl e) = free.not_true (record { stands = subst (Contains trues) e here })
    at lit here (inr e) = free.not_false (record { stands = subst (Contains trues) e here })

-- what the test of a truth value says
pub unassigned_test : (truth : Truth) → sameb the_type truth Unassigned ≡ true → truth ≡ Unassigned
unassigned_test True h = cc
unassigned_test False h = cc
unassigned_test Unassigned h = refl

pub assigned_test : (truth : Truth) → sameb the_type truth Unassigned ≡ false → truth ≡ Unassigned → ⊥
assigned_test True h e = cc
assigned_test False h e = cc
assigned_test Unassigned h e = cc
