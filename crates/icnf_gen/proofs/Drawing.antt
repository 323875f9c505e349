-- What is drawn one after the other.
use Rattle.std.proofs.Common.{◌≡◌, ◌∙◌, ℕ, zero, suc, ◌+◌, List, [], ◌∷◌, ◌++◌, map, ap, sym, append_assoc, arith}
use Rattle.std.specs.List.{flat_map, range_with_len}
use Rattle.std.proofs.lemmas.List.{flat_map_more}
use Rattle.std.proofs.lemmas.List.FromFn.{map-range_with_len_more}
use Rattle.icnf_text.specs.declared.statements.Statement.{Statement}
use Rattle.icnf_gen.specs.Draws.{next_state, state_after, number_of, lit_of_number, drawn_lit}
use Rattle.icnf_gen.specs.Drawn.{drawn_clauses, drawn_cubes, stretch}

-- the state behind one draw more
pub next_draw : (seed before draw state next : ℕ) → before + 1 ≡ draw → state ≡ state_after seed before → next ≡ next_state state → next ≡ state_after seed draw
next_draw seed before draw state next more from step =
    let unary : suc before ≡ draw = omega (arith, more) in
    step ∙ ap next_state from ∙ ap (state_after seed) unary

-- the literal of a draw
pub lit_of_draw : (seed draw state lit : ℕ) → state ≡ state_after seed draw → lit ≡ lit_of_number (number_of state) → lit ≡ drawn_lit seed draw
lit_of_draw seed draw state lit from is = is ∙ ap (λ s. lit_of_number (number_of s)) from

-- one item more of those that a function gives
pub item_more : {X : Type 0} (f : ℕ → X) → (old now later : List X) (start count place : ℕ) (item : X) → start + count ≡ place → now ≡ old ++ map f (range_with_len start count) → item ≡ f place → later ≡ now ++ item ∷ [] → later ≡ old ++ map f (range_with_len start (count + 1))
item_more f old now later start count place item at so is pushed =
    pushed
    ∙ ap (λ xs. xs ++ item ∷ []) so
    ∙ append_assoc old (map f (range_with_len start count)) (item ∷ [])
    ∙ ap (λ x. old ++ (map f (range_with_len start count) ++ x ∷ [])) is
    ∙ ap (λ xs. old ++ xs) (sym (map-range_with_len_more f start count place at))

-- a range that is one longer
range_more : (start count place : ℕ) → start + count ≡ place → range_with_len start (count + 1) ≡ range_with_len start count ++ place ∷ []
range_more start zero place at = let e : start ≡ place = omega (arith, at) in ap (λ k. k ∷ []) e
range_more start (suc count) place at =
    let one_more : suc count + 1 ≡ suc (count + 1) = omega arith in
    ap (range_with_len start) one_more ∙ ap (λ ks. start ∷ ks) (range_more (start + 1) count place (omega (arith, at)))

-- one list more of those that a function gives
pub list_more : {X : Type 0} (f : ℕ → List X) → (old now later : List X) (start count place : ℕ) → start + count ≡ place → now ≡ old ++ flat_map f (range_with_len start count) → later ≡ now ++ f place → later ≡ old ++ flat_map f (range_with_len start (count + 1))
list_more f old now later start count place at so added =
    added
    ∙ ap (λ xs. xs ++ f place) so
    ∙ flat_map_more f old (range_with_len start count) place
    ∙ ap (λ ks. old ++ flat_map f ks) (sym (range_more start count place at))

pub two_lits : (seed before first second third state one two : ℕ) → state ≡ state_after seed before → one ≡ next_state state → two ≡ next_state one
    → first ≡ lit_of_number (number_of one) → second ≡ lit_of_number (number_of two) → third ≡ 202
    → first ∷ second ∷ third ∷ [] ≡ drawn_lit seed (before + 1) ∷ drawn_lit seed (before + 2) ∷ 202 ∷ []
two_lits seed before first second third state one two from step step' a b c =
    let behind_one = next_draw seed before (before + 1) state one (omega arith) from step in
    let behind_two = next_draw seed (before + 1) (before + 2) one two (omega arith) behind_one step' in
    ap (λ x. x ∷ second ∷ third ∷ []) (lit_of_draw seed (before + 1) one first behind_one a)
    ∙ ap (λ x. drawn_lit seed (before + 1) ∷ x ∷ third ∷ []) (lit_of_draw seed (before + 2) two second behind_two b)
    ∙ ap (λ x. drawn_lit seed (before + 1) ∷ drawn_lit seed (before + 2) ∷ x ∷ []) c

pub three_lits : (seed before first second third state one two three : ℕ) → state ≡ state_after seed before → one ≡ next_state state → two ≡ next_state one → three ≡ next_state two
    → first ≡ lit_of_number (number_of one) → second ≡ lit_of_number (number_of two) → third ≡ lit_of_number (number_of three)
    → first ∷ second ∷ third ∷ [] ≡ drawn_lit seed (before + 1) ∷ drawn_lit seed (before + 2) ∷ drawn_lit seed (before + 3) ∷ []
three_lits seed before first second third state one two three from step step' step'' a b c =
    let behind_one = next_draw seed before (before + 1) state one (omega arith) from step in
    let behind_two = next_draw seed (before + 1) (before + 2) one two (omega arith) behind_one step' in
    let behind_three = next_draw seed (before + 2) (before + 3) two three (omega arith) behind_two step'' in
    ap (λ x. x ∷ second ∷ third ∷ []) (lit_of_draw seed (before + 1) one first behind_one a)
    ∙ ap (λ x. drawn_lit seed (before + 1) ∷ x ∷ third ∷ []) (lit_of_draw seed (before + 2) two second behind_two b)
    ∙ ap (λ x. drawn_lit seed (before + 1) ∷ drawn_lit seed (before + 2) ∷ x ∷ []) (lit_of_draw seed (before + 3) three third behind_three c)

-- clauses, and cubes behind them
pub in_stretch : (seed before first now later : ℕ) (old middle new : List Statement) → first ≡ state_after seed before
    → ((seed before : ℕ) → first ≡ state_after seed before → (now ≡ state_after seed (before + 48)) × (middle ≡ old ++ drawn_clauses seed before))
    → ((seed before : ℕ) → now ≡ state_after seed before → (later ≡ state_after seed (before + 8)) × (new ≡ middle ++ drawn_cubes seed before))
    → (later ≡ state_after seed (before + 56)) × (new ≡ old ++ stretch seed before)
in_stretch seed before first now later old middle new from clauses cubes =
    let one = clauses seed before from in
    let two = cubes seed (before + 48) one.0 in
    let draws : before + 48 + 8 ≡ before + 56 = omega arith in (
      two.0 ∙ ap (state_after seed) draws,
      two.1 ∙ ap (λ items. items ++ drawn_cubes seed (before + 48)) one.1 ∙ append_assoc old (drawn_clauses seed before) (drawn_cubes seed (before + 48)),
    )
