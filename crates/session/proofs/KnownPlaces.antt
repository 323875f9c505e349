-- The first places are known.
use Rattle.std.proofs.Common.{◌≡◌, ◌≢◌, ◌∙◌, ℕ, zero, suc, ◌+◌, ◌-◌, ◌<◌, ◌≤◌, List, [], ◌∷◌, ◌++◌}
use Rattle.std.proofs.Common.{length, map, set, take, Option, None, Some, true, false, refl}
use Rattle.std.proofs.Common.{ap, sym, subst, inl, inr, arith, get_or}
use Rattle.std.specs.Prelude.{◌⊎◌, IsSome, is_some, min, option_map, replicate}
use Rattle.std.proofs.lemmas.Bool.{cases_lt, cases_eq}
use Rattle.std.proofs.lemmas.List.{get_or-set_same, get_or-set_other, get_or-take, get_or_past}
use Rattle.std.proofs.lemmas.List.{get_or_default}
use Rattle.std.proofs.lemmas.List.{length-take}
use Rattle.trace_core.specs.declared.derivation.Step.{Step}
use Rattle.session.specs.Solver.{packet_at}
use Rattle.session.specs.Places.{AreThere, IsFrontOf}
use Rattle.session.proofs.Taken.{packet_from_one}

-- an item that isn't there, or none at all
none_there : {X : Type 0} (found : Option X) → is_some found ≡ false → found ≡ None
none_there None is = refl
none_there (Some x) is = absurd (cc)

pub no_front : {X : Type 0} (items : List (Option X)) → items ≡ [] → IsFrontOf items 0
no_front items none = subst (λ xs. IsFrontOf xs 0) (sym none) (record {
  there = λ index lt. absurd (omega (arith, lt));
  behind = refl;
})

-- More places, none of which is known.
none_among : {X : Type 0} (count index : ℕ) → get_or (replicate {A = Option X} count None) index None ≡ None
none_among zero index = refl
none_among (suc count) zero = refl
none_among (suc count) (suc index) = none_among count index

same_with_more : {X : Type 0} (items : List (Option X)) (count index : ℕ)
    → get_or (items ++ replicate count None) index None ≡ get_or items index None
same_with_more [] count index = none_among count index
same_with_more (item ∷ items) count zero = refl
same_with_more (item ∷ items) count (suc index) = same_with_more items count index

pub front_with_more : {X : Type 0} (items grown : List (Option X)) (count front : ℕ)
    → grown ≡ items ++ replicate count None → IsFrontOf items front → IsFrontOf grown front
front_with_more items grown count front is kept = subst (λ xs. IsFrontOf xs front) (sym is) (record {
  there = λ index lt. subst IsSome (sym (same_with_more items count index)) (kept.there index lt);
  behind = same_with_more items count front ∙ kept.behind;
})

-- The first so many places alone.
pub front_cut : {X : Type 0} (items cut : List (Option X)) (front keep low : ℕ) → cut ≡ take keep items
    → low ≡ min front keep → IsFrontOf items front → IsFrontOf cut low
front_cut items cut front keep low is low_is kept = subst (λ xs. IsFrontOf xs low) (sym is) (record {
  there = λ index lt. subst IsSome (sym (get_or-take keep items index None (omega (arith, lt, low_is))))
      (kept.there index (omega (arith, lt, low_is)));
  behind = at (cases_lt front keep);
})
  where
    at : (front < keep) ⊎ (keep ≤ front) → get_or (take keep items) low None ≡ None
    at (inl less) =
        let same : low ≡ front = omega (arith, low_is, less) in
        ap (λ n. get_or (take keep items) n None) same ∙ get_or-take keep items front None less ∙ kept.behind
    at (inr more) = get_or_past (take keep items) low None
        (let short = length-take keep items in omega (arith, low_is, more, short))

-- One place more is known.
pub there_marked : {X : Type 0} (items : List (Option X)) (front index : ℕ) (x : X)
    → index < length items → AreThere items front → AreThere (set items index (Some x)) front
there_marked items front index x within there other lt = at (cases_eq other index)
  where
    at : (other ≡ index) ⊎ (other ≢ index) → IsSome (get_or (set items index (Some x)) other None)
    at (inl same) = subst (λ n. IsSome (get_or (set items index (Some x)) n None)) (sym same)
        (subst IsSome (sym (get_or-set_same items index (Some x) None within)) refl)
    at (inr apart) = subst IsSome (sym (get_or-set_other items index other (Some x) None apart))
        (there other lt)

-- The front goes on.
pub one_more_there : {X : Type 0} (items : List (Option X)) (front : ℕ) (item : Option X)
    → front < length items → item ≡ get_or items front item → is_some item ≡ true
    → AreThere items front → AreThere items (front + 1)
one_more_there items front item within is some there index lt = at (cases_eq index front)
  where
    at : (index ≡ front) ⊎ (index ≢ front) → IsSome (get_or items index None)
    at (inl same) = subst (λ n. IsSome (get_or items n None)) (sym same)
        (subst IsSome (is ∙ get_or_default items front item None within) some)
    at (inr apart) = there index (grind (arith, lt, apart))

pub ends_there : {X : Type 0} (items : List (Option X)) (front : ℕ) (item : Option X)
    → front < length items → item ≡ get_or items front item → is_some item ≡ false
    → get_or items front None ≡ None
ends_there items front item within is none =
    get_or_default items front None item within ∙ sym is ∙ none_there item none

-- The packets of the known places.
mapped_there : {A : Type 0} (f : A → List Step) (found : Option A) → IsSome found
    → IsSome (option_map f found)
mapped_there f None some = some
mapped_there f (Some x) some = refl

pub known_first : {A : Type 0} (f : A → List Step) (items : List (Option A)) (front : ℕ)
    → AreThere items front → (place : ℕ) → 1 ≤ place → place ≤ front
    → IsSome (packet_at (map (option_map f) items) place)
known_first f items front there place low high =
    subst IsSome (sym (packet_from_one f items place low))
    (mapped_there f (get_or items (place - 1) None) (there (place - 1) (omega (arith, low, high))))

pub next_unknown : {A : Type 0} (f : A → List Step) (items : List (Option A)) (front : ℕ)
    → get_or items front None ≡ None → packet_at (map (option_map f) items) (front + 1) ≡ None
next_unknown f items front behind =
    packet_from_one f items (front + 1) (omega arith)
    ∙ ap (λ n. option_map f (get_or items n None)) (let e : front + 1 - 1 ≡ front = omega arith in e)
    ∙ ap (option_map f) behind
