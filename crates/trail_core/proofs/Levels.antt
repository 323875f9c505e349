-- Levels along the trail.
use Rattle.std.proofs.Common.{◌≡◌, ◌∙◌, ℕ, ◌+◌, ◌-◌, ◌<◌, ◌≤◌, List, [], ◌∷◌, ◌++◌, length, take, drop, refl, ap, subst, sym, arith, get_or, cond}
use Rattle.std.specs.Prelude.{All, nat_le, Bool, true, false}
use Rattle.std.specs.List.{filter}
use Rattle.std.proofs.lemmas.Bool.{le-leb, lt-leb}
use Rattle.std.proofs.lemmas.List.{append-nil, take-append-drop, get_or-drop, length-drop, get_or-map, length-map}
use Rattle.std.proofs.lemmas.List.Elements.{All-from_get_or, filter-append, All-head, All-tail, All-map}
use Rattle.trail_core.specs.declared.truth.Truth.{Truth}
use Rattle.trail_core.specs.declared.standing.Standing.{Standing}
use Rattle.sat_base.specs.Lit.{variable}
use Rattle.trail_core.specs.Trail.{Entry, no_entry, entry_at, up_to}
use Rattle.trail_core.specs.Layout.{standing_at, entry_of, AreTables}
use Rattle.trail_core.proofs.Views.{entries_of}

-- a filter that all pass, and one that none passes
pub filter_all : (p : Entry → Bool) (entries : List Entry) → All (λ e. p e ≡ true) entries → filter p entries ≡ entries
filter_all p [] all = refl
filter_all p (e ∷ entries) all =
    let P : Entry → Type 0 = λ x. p x ≡ true in
    ap (λ b. cond b (e ∷ filter p entries) (filter p entries)) (All-head P e entries all)
    ∙ ap (λ xs. e ∷ xs) (filter_all p entries (All-tail P e entries all))

pub filter_none : (p : Entry → Bool) (entries : List Entry) → All (λ e. p e ≡ false) entries → filter p entries ≡ []
filter_none p [] all = refl
filter_none p (e ∷ entries) all =
    let P : Entry → Type 0 = λ x. p x ≡ false in
    ap (λ b. cond b (e ∷ filter p entries) (filter p entries)) (All-head P e entries all)
    ∙ filter_none p entries (All-tail P e entries all)

-- where no entry is above the level, all are up to it
pub up_to_all : (level : ℕ) (entries : List Entry) → All (λ e. e.level ≤ level) entries → up_to level entries ≡ entries
up_to_all level entries all = filter_all (λ e. nat_le e.level level) entries (λ k d lt. le-leb _ _ (all k d lt))

-- the entries up to a level are a front, where the others are above it
pub up_to_front : (level : ℕ) (entries : List Entry) (n : ℕ) → n ≤ length entries → All (λ e. e.level ≤ level) (take n entries) → ((k : ℕ) → n ≤ k → k < length entries → level < (entry_at entries k).level) → up_to level entries ≡ take n entries
up_to_front level entries n within below above =
    let p : Entry → Bool = λ e. nat_le e.level level in
    let rest : All (λ e. p e ≡ false) (drop n entries) = All-from_get_or (λ (e : Entry). p e ≡ false) (drop n entries) no_entry
    (λ k lt. lt-leb _ _ (subst (λ (e : Entry). level < e.level) (sym (get_or-drop n entries k no_entry)) (above (n + k) (omega arith) (omega (arith, lt, length-drop n entries))))) in
    ap (filter p) (sym (take-append-drop n entries))
    ∙ filter-append p (take n entries) (drop n entries)
    ∙ ap (λ xs. xs ++ filter p (drop n entries)) (filter_all p (take n entries) (λ k d lt. le-leb _ _ (below k d lt)))
    ∙ ap (λ xs. take n entries ++ xs) (filter_none p (drop n entries) rest)
    ∙ append-nil (take n entries)

-- the tables at another depth
pub at_depth : (truths : List Truth) (standings : List Standing) (trues : List ℕ) (depth vars new : ℕ) → AreTables truths standings trues depth vars → All (λ e. e.level ≤ new) (entries_of standings trues) → new ≤ vars → AreTables truths standings trues new vars
at_depth truths standings trues depth vars new t below shallow = record {
  value_places = t.value_places;
  standing_places = t.standing_places;
  valued = t.valued;
  within = t.within;
  placed = t.placed;
  ascending = t.ascending;
  below = from_entries trues below;
  counted = t.counted;
  shallow = shallow;
}
  where
    from_entries : (xs : List ℕ) → All (λ (e : Entry). e.level ≤ new) (entries_of standings xs) → All (λ (lit : ℕ). (standing_at standings (variable lit)).level ≤ new) xs
    from_entries xs all k d lt =
        subst (λ (e : Entry). e.level ≤ new) (get_or-map (entry_of standings) xs k d no_entry lt) (all k no_entry (omega (arith, lt, length-map xs (entry_of standings))))

-- no level is above that of the last literal
pub all_below : (truths : List Truth) (standings : List Standing) (trues : List ℕ) (depth vars level : ℕ) → AreTables truths standings trues depth vars → (standing_at standings (variable (get_or trues (length trues - 1) 0))).level ≤ level → All (λ e. e.level ≤ level) (entries_of standings trues)
all_below truths standings trues depth vars level t last =
    All-map (λ (e : Entry). e.level ≤ level) (entry_of standings) trues
    (All-from_get_or (λ (lit : ℕ). (standing_at standings (variable lit)).level ≤ level) trues 0
    (λ k lt. let h = t.ascending k (length trues - 1) (omega arith) (omega arith) in omega (arith, h, last)))
