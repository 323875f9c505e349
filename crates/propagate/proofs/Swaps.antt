-- Clauses of which one has its literals in other places.
use Rattle.std.proofs.Common.{◌≡◌, ◌≢◌, ◌∙◌, ℕ, ◌<◌, List, length, refl, ap, subst, sym, inl, inr, arith, get_or, swap}
use Rattle.std.specs.Prelude.{◌⊎◌, Contains}
use Rattle.std.proofs.lemmas.Bool.{cases_eq}
use Rattle.std.proofs.lemmas.List.{length-set, get_or-set_same, get_or-set_other}
use Rattle.std.proofs.lemmas.List.Edits.{length-swap, swapped_from_swap}
use Rattle.std.proofs.lemmas.List.Elements.{All-from_get_or, Contains-get_or}
use Rattle.clause_arena.specs.Arena.{ArenaClause, clause_at, no_clause, with_places_swapped}
use Rattle.propagate.specs.Store.{IsSameClause, HasSameClauses}
use Rattle.propagate.specs.Choice.{IsRearranged}
use Rattle.propagate.proofs.Same.{clause_itself, clause_twice}

-- what a swap leaves where
pub record IsSwap (old new : List ℕ) (i j : ℕ) : Type 0 where
  pub size : length new ≡ length old
  pub first : get_or new i 0 ≡ get_or old j 0
  pub second : get_or new j 0 ≡ get_or old i 0
  pub rest : (k : ℕ) → k ≢ i → k ≢ j → get_or new k 0 ≡ get_or old k 0

pub swap_tells : (xs : List ℕ) (i j : ℕ) → i < length xs → j < length xs → IsSwap xs (swap xs i j) i j
swap_tells xs i j i_in j_in =
    let h = swapped_from_swap xs (swap xs i j) i j 0 i_in j_in refl in
    record { size = length-swap xs i j; first = h.0; second = h.1; rest = h.2 }

moved_in : (old new : List ℕ) (i j : ℕ) → IsSwap old new i j → i < length old → j < length old → (k : ℕ) → k < length old → Contains new (get_or old k 0)
moved_in old new i j s i_in j_in k lt = at (cases_eq k i) (cases_eq k j)
  where
    there : (n : ℕ) → n < length old → get_or new n 0 ≡ get_or old k 0 → Contains new (get_or old k 0)
    there n n_in is = subst (Contains new) is (Contains-get_or new n 0 (omega (arith, n_in, s.size)))

    at : (k ≡ i) ⊎ (k ≢ i) → (k ≡ j) ⊎ (k ≢ j) → Contains new (get_or old k 0)
    at (inl e) _ = there j j_in (s.second ∙ ap (λ n. get_or old n 0) (sym e))
    at (inr n) (inl e) = there i i_in (s.first ∙ ap (λ n. get_or old n 0) (sym e))
    at (inr n) (inr m) = there k lt (s.rest k n m)

swap_back : (old new : List ℕ) (i j : ℕ) → IsSwap old new i j → IsSwap new old i j
swap_back old new i j s = record {
  size = sym s.size;
  first = sym s.second;
  second = sym s.first;
  rest = λ k n m. sym (s.rest k n m);
}

pub here_swapped : (clauses : List ArenaClause) (id i j : ℕ) → id < length clauses → clause_at (with_places_swapped clauses id i j) id ≡ record (clause_at clauses id) { lits = swap (clause_at clauses id).lits i j }
here_swapped clauses id i j known = get_or-set_same clauses id _ no_clause known

pub lits_swapped : (clauses : List ArenaClause) (id i j : ℕ) → id < length clauses → i < length (clause_at clauses id).lits → j < length (clause_at clauses id).lits → IsSwap (clause_at clauses id).lits (clause_at (with_places_swapped clauses id i j) id).lits i j
lits_swapped clauses id i j known i_in j_in =
    subst (λ (c : ArenaClause). IsSwap (clause_at clauses id).lits c.lits i j) (sym (here_swapped clauses id i j known))
    (swap_tells (clause_at clauses id).lits i j i_in j_in)

pub rearranged_swap : (clauses : List ArenaClause) (id i j : ℕ) → id < length clauses → i < length (clause_at clauses id).lits → j < length (clause_at clauses id).lits → IsRearranged clauses (with_places_swapped clauses id i j) id
rearranged_swap clauses id i j known i_in j_in =
    let old : ArenaClause = clause_at clauses id in
    let s = swap_tells old.lits i j i_in j_in in
    let new : List ℕ = swap old.lits i j in
    record {
      count = length-set clauses id _;
      here = subst (IsSameClause old) (sym (here_swapped clauses id i j known)) (record {
        kept = All-from_get_or (Contains new) old.lits 0 (moved_in old.lits new i j s i_in j_in);
        no_more = All-from_get_or (Contains old.lits) new 0 (moved_in new old.lits i j (swap_back old.lits new i j s) (omega (arith, i_in, s.size)) (omega (arith, j_in, s.size)));
        size = s.size;
        tag = refl;
        origin = refl;
      });
      others = λ other n. get_or-set_other clauses id other _ no_clause n;
    }

pub rearranged_none : (clauses : List ArenaClause) (id : ℕ) → IsRearranged clauses clauses id
rearranged_none clauses id = record {
  count = refl;
  here = clause_itself (clause_at clauses id);
  others = λ other n. refl;
}

pub rearranged_twice : (a b c : List ArenaClause) (id : ℕ) → IsRearranged a b id → IsRearranged b c id → IsRearranged a c id
rearranged_twice a b c id p q = record {
  count = q.count ∙ p.count;
  here = clause_twice _ _ _ p.here q.here;
  others = λ other n. q.others other n ∙ p.others other n;
}

pub same_rearranged : (a b : List ArenaClause) (id : ℕ) → IsRearranged a b id → HasSameClauses a b
same_rearranged a b id p = record {
  count = p.count;
  each = λ other lt. at other (cases_eq other id);
}
  where
    at : (other : ℕ) → (other ≡ id) ⊎ (other ≢ id) → IsSameClause (clause_at a other) (clause_at b other)
    at other (inl e) = subst (λ n. IsSameClause (clause_at a n) (clause_at b n)) (sym e) p.here
    at other (inr n) = subst (IsSameClause (clause_at a other)) (sym (p.others other n)) (clause_itself (clause_at a other))
