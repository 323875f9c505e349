-- Two places of a block exchanged.
use Rattle.std.proofs.Common.{◌≡◌, ◌∙◌, ℕ, ◌+◌, ◌-◌, ◌<◌, ◌≤◌, List, length, refl, ap, subst, sym, inl, inr, arith, get_or, set}
use Rattle.std.specs.Prelude.{◌⊎◌, slice_range, swap}
use Rattle.std.proofs.lemmas.Bool.{cases_lt, cases_eq}
use Rattle.std.proofs.lemmas.List.{same_lists, length-set, get_or-set_same, get_or-set_other}
use Rattle.std.proofs.lemmas.List.Edits.{swapped_from_swap, length-swap, length-between, get_or-between}
use Rattle.clause_arena.specs.Arena.{ArenaClause, HasNoRepeat, clause_at, with_places_swapped}
use Rattle.clause_arena.specs.Named.{Named, named_at}
use Rattle.clause_arena.specs.Layout.{laid_clause, laid_clauses, IsLaidOut}
use Rattle.clause_arena.proofs.Tabulated.{get_or-tabulated}
use Rattle.clause_arena.proofs.Laid.{known, length-laid_clauses}

-- what stands at k stood at m before the places i and j were exchanged
abbrev CameFrom : ℕ → ℕ → ℕ → ℕ → Type 0
CameFrom i j k m = ((k ≡ i) × (m ≡ j)) ⊎ (((k ≡ i → ⊥) × (k ≡ j) × (m ≡ i)) ⊎ ((k ≡ i → ⊥) × (k ≡ j → ⊥) × (m ≡ k)))

came_from : (i j k : ℕ) → (m : ℕ) × CameFrom i j k m
came_from i j k = at (cases_eq k i) (cases_eq k j)
  where
    at : (k ≡ i) ⊎ (k ≡ i → ⊥) → (k ≡ j) ⊎ (k ≡ j → ⊥) → (m : ℕ) × CameFrom i j k m
    at (inl e) _ = (j, inl (e, refl))
    at (inr n) (inl e) = (i, inr (inl (n, e, refl)))
    at (inr n) (inr o) = (k, inr (inr (n, o, refl)))

one_place : (i j k l m n : ℕ) → CameFrom i j k m → CameFrom i j l n → m ≡ n → k ≡ l
one_place i j k l m n (inl a) (inl b) e = omega arith
one_place i j k l m n (inl a) (inr (inl b)) e = omega arith
one_place i j k l m n (inl a) (inr (inr b)) e = absurd (b.1 (omega arith))
one_place i j k l m n (inr (inl a)) (inl b) e = omega arith
one_place i j k l m n (inr (inl a)) (inr (inl b)) e = omega arith
one_place i j k l m n (inr (inl a)) (inr (inr b)) e = absurd (b.0 (omega arith))
one_place i j k l m n (inr (inr a)) (inl b) e = absurd (a.1 (omega arith))
one_place i j k l m n (inr (inr a)) (inr (inl b)) e = absurd (a.0 (omega arith))
one_place i j k l m n (inr (inr a)) (inr (inr b)) e = omega arith

place_within : (i j k m n : ℕ) → i < n → j < n → k < n → CameFrom i j k m → m < n
place_within i j k m n p q r (inl a) = omega arith
place_within i j k m n p q r (inr (inl a)) = omega arith
place_within i j k m n p q r (inr (inr a)) = omega arith

read_from : (xs : List ℕ) (i j k m d : ℕ) → i < length xs → j < length xs → CameFrom i j k m → get_or (swap xs i j) k d ≡ get_or xs m d
read_from xs i j k m d p q (inl a) =
    ap (λ n. get_or (swap xs i j) n d) a.0 ∙ (swapped_from_swap xs (swap xs i j) i j d p q refl).0 ∙ ap (λ n. get_or xs n d) (sym a.1)
read_from xs i j k m d p q (inr (inl a)) =
    ap (λ n. get_or (swap xs i j) n d) a.1 ∙ (swapped_from_swap xs (swap xs i j) i j d p q refl).1 ∙ ap (λ n. get_or xs n d) (sym a.2)
read_from xs i j k m d p q (inr (inr a)) =
    (swapped_from_swap xs (swap xs i j) i j d p q refl).2 k a.0 a.1 ∙ ap (λ n. get_or xs n d) (sym a.2)

pub no_repeat-swap : (xs : List ℕ) (i j : ℕ) → i < length xs → j < length xs → HasNoRepeat xs → HasNoRepeat (swap xs i j)
no_repeat-swap xs i j p q distinct = record {
  each = λ k l k_in l_in same.
      let a = came_from i j k in
      let b = came_from i j l in
      let size = length-swap xs i j in
      let same_before : get_or xs a.0 0 ≡ get_or xs b.0 0 = sym (read_from xs i j k a.0 0 p q a.1) ∙ same ∙ read_from xs i j l b.0 0 p q b.1 in
      one_place i j k l a.0 b.0 a.1 b.1
      (distinct.each a.0 b.0 (place_within i j k a.0 (length xs) p q (omega arith) a.1) (place_within i j l b.0 (length xs) p q (omega arith) b.1) same_before);
}

-- the part that has the two places
cut_here : (xs : List ℕ) (from to i j : ℕ) → from ≤ to → to ≤ length xs → i < to - from → j < to - from → slice_range (swap xs (from + i) (from + j)) from to ≡ swap (slice_range xs from to) i j
cut_here xs from to i j le within p q =
    let ys : List ℕ = swap xs (from + i) (from + j) in
    let part : List ℕ = slice_range xs from to in
    let size : length ys ≡ length xs = length-swap xs (from + i) (from + j) in
    let part_size : length part ≡ to - from = length-between xs from to within in
    let new_size : length (slice_range ys from to) ≡ to - from = length-between ys from to (omega arith) in
    same_lists (slice_range ys from to) (swap part i j) (new_size ∙ sym (length-swap part i j ∙ part_size))
    (λ k d lt.
    let a = came_from i j k in
    let inside : k < to - from = omega arith in
    let m_in : a.0 < to - from = place_within i j k a.0 (to - from) p q inside a.1 in
    get_or-between ys from to k d (omega arith)
    ∙ read_from xs (from + i) (from + j) (from + k) (from + a.0) d (omega arith) (omega arith) (shifted from i j k a.0 a.1)
    ∙ sym (get_or-between xs from to a.0 d (omega arith))
    ∙ sym (read_from part i j k a.0 d (omega arith) (omega arith) a.1))
  where
    shifted : (from i j k m : ℕ) → CameFrom i j k m → CameFrom (from + i) (from + j) (from + k) (from + m)
    shifted from i j k m (inl a) = inl (omega arith, omega arith)
    shifted from i j k m (inr (inl a)) = inr (inl (λ e. a.0 (omega arith), omega arith, omega arith))
    shifted from i j k m (inr (inr a)) = inr (inr (λ e. a.0 (omega arith), λ e. a.1 (omega arith), omega arith))

-- a part that has neither place
cut_other : (xs : List ℕ) (from to p q : ℕ) → to ≤ length xs → p < length xs → q < length xs → (p < from) ⊎ (to ≤ p) → (q < from) ⊎ (to ≤ q) → slice_range (swap xs p q) from to ≡ slice_range xs from to
cut_other xs from to p q within p_in q_in p_out q_out =
    let size : length (swap xs p q) ≡ length xs = length-swap xs p q in
    let old_size : length (slice_range xs from to) ≡ to - from = length-between xs from to within in
    let new_size : length (slice_range (swap xs p q) from to) ≡ to - from = length-between (swap xs p q) from to (omega arith) in
    same_lists (slice_range (swap xs p q) from to) (slice_range xs from to) (new_size ∙ sym old_size)
    (λ k d lt.
    let inside : k < to - from = omega arith in
    get_or-between (swap xs p q) from to k d (omega arith)
    ∙ (swapped_from_swap xs (swap xs p q) p q d p_in q_in refl).2 (from + k) (apart from to p (from + k) (omega arith) (omega arith) p_out) (apart from to q (from + k) (omega arith) (omega arith) q_out)
    ∙ sym (get_or-between xs from to k d (omega arith)))
  where
    apart : (from to p m : ℕ) → from ≤ m → m < to → (p < from) ⊎ (to ≤ p) → m ≡ p → ⊥
    apart from to p m le lt (inl h) e = omega arith
    apart from to p m le lt (inr h) e = omega arith

-- the places of one clause, in the block
pub record AreIn (lits bounds : List ℕ) (id i j : ℕ) : Type 0 where
  pub known : id + 1 < length bounds
  pub i_in : i < get_or bounds (id + 1) 0 - get_or bounds id 0
  pub j_in : j < get_or bounds (id + 1) 0 - get_or bounds id 0

abbrev pub block_swapped : List ℕ → List ℕ → ℕ → ℕ → ℕ → List ℕ
block_swapped lits bounds id i j = swap lits (get_or bounds id 0 + i) (get_or bounds id 0 + j)

swapped_here : (lits bounds : List ℕ) (names : List Named) (id i j : ℕ) → IsLaidOut lits bounds names → AreIn lits bounds id i j → slice_range (block_swapped lits bounds id i j) (get_or bounds id 0) (get_or bounds (id + 1) 0) ≡ swap (slice_range lits (get_or bounds id 0) (get_or bounds (id + 1) 0)) i j
swapped_here lits bounds names id i j laid at =
    cut_here lits (get_or bounds id 0) (get_or bounds (id + 1) 0) i j
    (laid.ascending id (id + 1) (omega arith) at.known) (laid.within (id + 1) at.known) at.i_in at.j_in

swapped_other : (lits bounds : List ℕ) (names : List Named) (id i j other : ℕ) → IsLaidOut lits bounds names → AreIn lits bounds id i j → other + 1 < length bounds → (other ≡ id → ⊥) → slice_range (block_swapped lits bounds id i j) (get_or bounds other 0) (get_or bounds (other + 1) 0) ≡ slice_range lits (get_or bounds other 0) (get_or bounds (other + 1) 0)
swapped_other lits bounds names id i j other laid at lt differs = by_order (cases_lt other id)
  where
    end_in : get_or bounds (id + 1) 0 ≤ length lits
    end_in = laid.within (id + 1) at.known

    by_order : (other < id) ⊎ (id ≤ other) → slice_range (block_swapped lits bounds id i j) (get_or bounds other 0) (get_or bounds (other + 1) 0) ≡ slice_range lits (get_or bounds other 0) (get_or bounds (other + 1) 0)
    by_order (inl before) =
        let h = laid.ascending (other + 1) id (omega arith) (omega (arith, at.known)) in
        cut_other lits (get_or bounds other 0) (get_or bounds (other + 1) 0) (get_or bounds id 0 + i) (get_or bounds id 0 + j)
        (laid.within (other + 1) lt) (omega (arith, at.i_in, end_in)) (omega (arith, at.j_in, end_in)) (inr (omega arith)) (inr (omega arith))
    by_order (inr after) =
        let h = laid.ascending (id + 1) other (omega arith) (omega (arith, lt)) in
        cut_other lits (get_or bounds other 0) (get_or bounds (other + 1) 0) (get_or bounds id 0 + i) (get_or bounds id 0 + j)
        (laid.within (other + 1) lt) (omega (arith, at.i_in, end_in)) (omega (arith, at.j_in, end_in)) (inl (omega (arith, at.i_in))) (inl (omega (arith, at.j_in)))

pub swapped_laid : (lits bounds : List ℕ) (names : List Named) (id i j : ℕ) → IsLaidOut lits bounds names → AreIn lits bounds id i j → IsLaidOut (block_swapped lits bounds id i j) bounds names
swapped_laid lits bounds names id i j laid at = record {
  ascending = laid.ascending;
  within = λ n lt. let h = laid.within n lt in omega (arith, length-swap lits (get_or bounds id 0 + i) (get_or bounds id 0 + j));
  named = laid.named;
  distinct = λ n lt. by_case n lt (cases_eq n id);
}
  where
    size : length (slice_range lits (get_or bounds id 0) (get_or bounds (id + 1) 0)) ≡ get_or bounds (id + 1) 0 - get_or bounds id 0
    size = length-between lits (get_or bounds id 0) (get_or bounds (id + 1) 0) (laid.within (id + 1) at.known)

    here : HasNoRepeat (slice_range (block_swapped lits bounds id i j) (get_or bounds id 0) (get_or bounds (id + 1) 0))
    here = subst HasNoRepeat (sym (swapped_here lits bounds names id i j laid at))
        (no_repeat-swap _ i j (omega (arith, size, at.i_in)) (omega (arith, size, at.j_in)) (laid.distinct id at.known))

    by_case : (n : ℕ) → n + 1 < length bounds → (n ≡ id) ⊎ (n ≡ id → ⊥) → HasNoRepeat (slice_range (block_swapped lits bounds id i j) (get_or bounds n 0) (get_or bounds (n + 1) 0))
    by_case n lt (inl e) = subst (λ m. HasNoRepeat (slice_range (block_swapped lits bounds id i j) (get_or bounds m 0) (get_or bounds (m + 1) 0))) (sym e) here
    by_case n lt (inr o) = subst HasNoRepeat (sym (swapped_other lits bounds names id i j n laid at lt o)) (laid.distinct n lt)

pub swapped_clauses : (lits bounds : List ℕ) (names : List Named) (clauses : List ArenaClause) (id i j : ℕ) → IsLaidOut lits bounds names → laid_clauses lits bounds names ≡ clauses → id < length clauses → AreIn lits bounds id i j → laid_clauses (block_swapped lits bounds id i j) bounds names ≡ with_places_swapped clauses id i j
swapped_clauses lits bounds names clauses id i j laid is lt at =
    same_lists (laid_clauses (block_swapped lits bounds id i j) bounds names) (with_places_swapped clauses id i j)
    (length-laid_clauses (block_swapped lits bounds id i j) bounds names ∙ sym (length-set clauses id changed ∙ size))
    (λ k d k_in. get_or-tabulated new (length bounds - 1) k d (omega (arith, k_in, new_size)) ∙ at_place k d (omega (arith, k_in, new_size)) (cases_eq k id))
  where
    new : ℕ → ArenaClause
    new = laid_clause (block_swapped lits bounds id i j) bounds names

    old : ℕ → ArenaClause
    old = laid_clause lits bounds names

    new_size : length (laid_clauses (block_swapped lits bounds id i j) bounds names) ≡ length bounds - 1
    new_size = length-laid_clauses (block_swapped lits bounds id i j) bounds names

    size : length clauses ≡ length bounds - 1
    size = sym (ap length is) ∙ length-laid_clauses lits bounds names

    changed : ArenaClause
    changed = record (clause_at clauses id) { lits = swap (clause_at clauses id).lits i j }

    of : List ℕ → Named → ArenaClause
    of xs name = record { lits = xs; tag = name.tag; origin = name.origin }

    at_place : (k : ℕ) (d : ArenaClause) → k < length bounds - 1 → (k ≡ id) ⊎ (k ≡ id → ⊥) → new k ≡ get_or (set clauses id changed) k d
    at_place k d k_in (inl e) =
        ap new e
        ∙ ap (λ xs. of xs (named_at names id)) (swapped_here lits bounds names id i j laid at)
        ∙ ap (λ (clause : ArenaClause). record clause { lits = swap clause.lits i j }) (sym (known lits bounds names clauses id is lt).is)
        ∙ sym (ap (λ n. get_or (set clauses id changed) n d) e ∙ get_or-set_same clauses id changed d lt)
    at_place k d k_in (inr o) =
        ap (λ xs. of xs (named_at names k)) (swapped_other lits bounds names id i j k laid at (omega arith) o)
        ∙ sym (get_or-set_other clauses id k changed d o ∙ sym (ap (λ (xs : List ArenaClause). get_or xs k d) is) ∙ get_or-tabulated old (length bounds - 1) k d k_in)

-- the places that a caller names, over bounds that were read
pub places_of : (lits bounds : List ℕ) (names : List Named) (clauses : List ArenaClause) (id i j : ℕ) → IsLaidOut lits bounds names → laid_clauses lits bounds names ≡ clauses → id < length clauses → i < length (clause_at clauses id).lits → j < length (clause_at clauses id).lits → AreIn lits bounds id i j
places_of lits bounds names clauses id i j laid is lt p q =
    let k = known lits bounds names clauses id is lt in
    let size = length-between lits (get_or bounds id 0) (get_or bounds (id + 1) 0) (laid.within (id + 1) k.within) in
    let e : length (clause_at clauses id).lits ≡ get_or bounds (id + 1) 0 - get_or bounds id 0 = ap (λ (clause : ArenaClause). length clause.lits) k.is ∙ size in
    record { known = k.within; i_in = omega (arith, e, p); j_in = omega (arith, e, q) }

pub in_block : (lits bounds : List ℕ) (names : List Named) (id i j : ℕ) → IsLaidOut lits bounds names → AreIn lits bounds id i j → (get_or bounds id 0 + i < length lits) × (get_or bounds id 0 + j < length lits)
in_block lits bounds names id i j laid at =
    let h = laid.within (id + 1) at.known in (omega (arith, at.i_in, h), omega (arith, at.j_in, h))
