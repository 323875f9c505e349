-- The first so many clauses, which lie between one bound more.
use Rattle.std.proofs.Common.{◌≡◌, ◌∙◌, ℕ, ◌+◌, ◌-◌, ◌<◌, ◌≤◌, List, length, take, ap, subst, sym, arith, get_or}
use Rattle.std.specs.Prelude.{slice_range}
use Rattle.std.proofs.lemmas.List.{length-take-le, get_or-take, take_all}
use Rattle.clause_arena.specs.Arena.{ArenaClause, HasNoRepeat}
use Rattle.clause_arena.specs.Named.{Named, named_at}
use Rattle.clause_arena.specs.Layout.{tabulated, laid_clause, laid_clauses, IsLaidOut}
use Rattle.clause_arena.proofs.Tabulated.{tabulated-same, take-tabulated}
use Rattle.clause_arena.proofs.Laid.{length-laid_clauses, IsSame}

front_cut : (lits bounds : List ℕ) (n id : ℕ) → id < n → slice_range lits (get_or (take (n + 1) bounds) id 0) (get_or (take (n + 1) bounds) (id + 1) 0) ≡ slice_range lits (get_or bounds id 0) (get_or bounds (id + 1) 0)
front_cut lits bounds n id lt =
    ap (λ k. slice_range lits k (get_or (take (n + 1) bounds) (id + 1) 0)) (get_or-take (n + 1) bounds id 0 (omega arith))
    ∙ ap (λ k. slice_range lits (get_or bounds id 0) k) (get_or-take (n + 1) bounds (id + 1) 0 (omega arith))

front_laid : (lits bounds : List ℕ) (names : List Named) (n : ℕ) → IsLaidOut lits bounds names → n < length bounds → IsLaidOut lits (take (n + 1) bounds) names
front_laid lits bounds names n laid lt =
    let size : length (take (n + 1) bounds) ≡ n + 1 = length-take-le (n + 1) bounds (omega arith) in
    record {
      ascending = λ i j le j_in.
          let h = laid.ascending i j le (omega arith) in
          omega (arith, get_or-take (n + 1) bounds i 0 (omega arith), get_or-take (n + 1) bounds j 0 (omega arith));
      within = λ i i_in.
          let h = laid.within i (omega arith) in omega (arith, get_or-take (n + 1) bounds i 0 (omega arith));
      named = omega (arith, laid.named);
      distinct = λ id id_in. subst HasNoRepeat (sym (front_cut lits bounds n id (omega arith))) (laid.distinct id (omega arith));
    }

front_clauses : (lits bounds : List ℕ) (names : List Named) (n : ℕ) → n < length bounds → laid_clauses lits (take (n + 1) bounds) names ≡ take n (laid_clauses lits bounds names)
front_clauses lits bounds names n lt =
    let size : length (take (n + 1) bounds) - 1 ≡ n = omega (arith, length-take-le (n + 1) bounds (omega arith)) in
    let of : ℕ → List ℕ → ArenaClause = λ id xs. record { lits = xs; tag = (named_at names id).tag; origin = (named_at names id).origin } in
    ap (tabulated (laid_clause lits (take (n + 1) bounds) names)) size
    ∙ tabulated-same (laid_clause lits (take (n + 1) bounds) names) (laid_clause lits bounds names) n (λ id id_in. ap (of id) (front_cut lits bounds n id id_in))
    ∙ sym (take-tabulated (laid_clause lits bounds names) n (length bounds - 1) (omega arith))

-- an arena whose last bounds were taken back
pub cut_back : (lits bounds bounds' : List ℕ) (names : List Named) (clauses : List ArenaClause) (n : ℕ) → IsLaidOut lits bounds names → laid_clauses lits bounds names ≡ clauses → n < length bounds → bounds' ≡ take (n + 1) bounds → IsSame lits bounds' names (take n clauses)
cut_back lits bounds bounds' names clauses n laid is lt cut =
    subst (λ (bs : List ℕ). IsSame lits bs names (take n clauses)) (sym cut)
    (record { laid = front_laid lits bounds names n laid lt; is = front_clauses lits bounds names n lt ∙ ap (take n) is })

-- an arena that has no more clauses than that
pub cut_nothing : (lits bounds : List ℕ) (names : List Named) (clauses : List ArenaClause) (n : ℕ) → laid_clauses lits bounds names ≡ clauses → length bounds ≤ n → laid_clauses lits bounds names ≡ take n clauses
cut_nothing lits bounds names clauses n is le =
    is ∙ sym (take_all n clauses (omega (arith, ap length is, length-laid_clauses lits bounds names)))
