-- Clauses that lie between bounds in one block of literals.
use Rattle.std.proofs.Common.{◌≡◌, ◌∙◌, ℕ, zero, suc, ◌+◌, ◌-◌, ◌<◌, ◌≤◌, List, [], ◌∷◌, ◌++◌, length, take, drop, refl, ap, subst, sym, inl, inr, arith, get_or}
use Rattle.std.specs.Prelude.{◌⊎◌, IsTrue, slice_range, Result, Ok, Err, OnErr}
use Rattle.sat_base.specs.Lit.{ascends_above, is_ascending}
use Rattle.std.proofs.lemmas.Bool.{cases_lt, cases_order, and_parts, ltb-true}
use Rattle.std.proofs.lemmas.List.{get_or_push, get_or_append_left, drop-take, take-take, take_at, take_all, drop_at, length-take-le, length-append, length_push, get_or-take, get_or_read}
use Rattle.clause_arena.specs.Arena.{ArenaClause, clause_at, no_clause, HasNoRepeat}
use Rattle.clause_arena.specs.Named.{Named, named_at}
use Rattle.clause_arena.specs.Layout.{tabulated, begun, laid_clause, laid_clauses, IsLaidOut}
use Rattle.clause_arena.proofs.Tabulated.{length-tabulated, get_or-tabulated, tabulated-same}

pub length-laid_clauses : (lits bounds : List ℕ) (names : List Named) → length (laid_clauses lits bounds names) ≡ length bounds - 1
length-laid_clauses lits bounds names = length-tabulated (laid_clause lits bounds names) (length bounds - 1)

-- what a number of a clause says of the bounds
pub record IsKnown (lits bounds : List ℕ) (names : List Named) (clauses : List ArenaClause) (id : ℕ) : Type 0 where
  pub within : id + 1 < length bounds
  pub is : clause_at clauses id ≡ laid_clause lits bounds names id

pub known : (lits bounds : List ℕ) (names : List Named) (clauses : List ArenaClause) (id : ℕ) → laid_clauses lits bounds names ≡ clauses → id < length clauses → IsKnown lits bounds names clauses id
known lits bounds names clauses id is lt =
    let f : ℕ → ArenaClause = laid_clause lits bounds names in
    let size : length clauses ≡ length bounds - 1 = sym (ap length is) ∙ length-laid_clauses lits bounds names in
    let below : id < length bounds - 1 = omega arith in
    record {
      within = omega arith;
      is = subst (λ (xs : List ArenaClause). get_or xs id no_clause ≡ f id) is (get_or-tabulated f (length bounds - 1) id no_clause below);
    }

-- the literals between two bounds that were read
pub record IsCut (lits : List ℕ) (clauses : List ArenaClause) (id start end : ℕ) : Type 0 where
  pub ordered : start ≤ end
  pub within : end ≤ length lits
  pub is : slice_range lits start end ≡ (clause_at clauses id).lits
  pub distinct : HasNoRepeat (slice_range lits start end)

pub cut_of : (lits bounds : List ℕ) (names : List Named) (clauses : List ArenaClause) (id start end : ℕ) → IsLaidOut lits bounds names → laid_clauses lits bounds names ≡ clauses → id < length clauses → start ≡ get_or bounds id start → end ≡ get_or bounds (id + 1) end → IsCut lits clauses id start end
cut_of lits bounds names clauses id start end laid is lt from to =
    let k = known lits bounds names clauses id is lt in
    let s : start ≡ get_or bounds id 0 = get_or_read bounds id start (omega (arith, k.within)) from 0 in
    let e : end ≡ get_or bounds (id + 1) 0 = get_or_read bounds (id + 1) end k.within to 0 in
    let up : get_or bounds id 0 ≤ get_or bounds (id + 1) 0 = laid.ascending id (id + 1) (omega arith) k.within in
    let in_block : get_or bounds (id + 1) 0 ≤ length lits = laid.within (id + 1) k.within in
    let same : slice_range lits start end ≡ slice_range lits (get_or bounds id 0) (get_or bounds (id + 1) 0) =
    ap (λ n. slice_range lits n end) s ∙ ap (λ n. slice_range lits (get_or bounds id 0) n) e in
    record {
      ordered = omega arith;
      within = omega arith;
      is = same ∙ sym (ap (λ clause. clause.lits) k.is);
      distinct = subst HasNoRepeat (sym same) (laid.distinct id k.within);
    }

-- a part of a block is a part of each front of the block that reaches as far
pub cut_front : (xs : List ℕ) (from to n : ℕ) → from ≤ to → to ≤ n → slice_range xs from to ≡ drop from (take to (take n xs))
cut_front xs from to n le within =
    sym (drop-take from (to - from) xs)
    ∙ ap (λ k. drop from (take k xs)) (omega arith)
    ∙ ap (drop from) (sym (take-take to n xs within))

pub cut_same : (xs ys : List ℕ) (from to n : ℕ) → from ≤ to → to ≤ n → take n xs ≡ take n ys → slice_range xs from to ≡ slice_range ys from to
cut_same xs ys from to n le within same =
    cut_front xs from to n le within ∙ ap (λ zs. drop from (take to zs)) same ∙ sym (cut_front ys from to n le within)

-- the bound behind the last clause
abbrev pub last_of : List ℕ → ℕ
last_of bounds = get_or bounds (length bounds - 1) 0

-- the block and the names, up to the last clause, are as they were
pub record IsKept (lits bounds : List ℕ) (names : List Named) (lits' : List ℕ) (names' : List Named) : Type 0 where
  pub front : take (last_of bounds) lits' ≡ take (last_of bounds) lits
  pub long : last_of bounds ≤ length lits'
  pub front_names : take (length bounds - 1) names' ≡ take (length bounds - 1) names
  pub long_names : length bounds ≤ length names' + 1

below_last : (lits bounds : List ℕ) (names : List Named) (i : ℕ) → IsLaidOut lits bounds names → i < length bounds → get_or bounds i 0 ≤ last_of bounds
below_last lits bounds names i laid lt = laid.ascending i (length bounds - 1) (omega arith) (omega arith)

kept_cut : (lits bounds : List ℕ) (names : List Named) (lits' : List ℕ) (names' : List Named) → IsLaidOut lits bounds names → IsKept lits bounds names lits' names' → (id : ℕ) → id + 1 < length bounds → slice_range lits' (get_or bounds id 0) (get_or bounds (id + 1) 0) ≡ slice_range lits (get_or bounds id 0) (get_or bounds (id + 1) 0)
kept_cut lits bounds names lits' names' laid kept id lt =
    cut_same lits' lits (get_or bounds id 0) (get_or bounds (id + 1) 0) (last_of bounds)
    (laid.ascending id (id + 1) (omega arith) lt) (below_last lits bounds names (id + 1) laid lt) kept.front

pub kept_laid : (lits bounds : List ℕ) (names : List Named) (lits' : List ℕ) (names' : List Named) → IsLaidOut lits bounds names → IsKept lits bounds names lits' names' → IsLaidOut lits' bounds names'
kept_laid lits bounds names lits' names' laid kept = record {
  ascending = laid.ascending;
  within = λ i lt. let h = below_last lits bounds names i laid lt in omega (arith, h, kept.long);
  named = kept.long_names;
  distinct = λ id lt. subst HasNoRepeat (sym (kept_cut lits bounds names lits' names' laid kept id lt)) (laid.distinct id lt);
}

same_name : (n : ℕ) (names names' : List Named) (id : ℕ) → take n names' ≡ take n names → id < n → named_at names' id ≡ named_at names id
same_name n names names' id same lt =
    sym (get_or-take n names' id _ lt) ∙ ap (λ (xs : List Named). named_at xs id) same ∙ get_or-take n names id _ lt

pub kept_clause : (lits bounds : List ℕ) (names : List Named) (lits' : List ℕ) (names' : List Named) → IsLaidOut lits bounds names → IsKept lits bounds names lits' names' → (id : ℕ) → id < length bounds - 1 → laid_clause lits' bounds names' id ≡ laid_clause lits bounds names id
kept_clause lits bounds names lits' names' laid kept id lt =
    let f : List ℕ → Named → ArenaClause = λ xs name. record { lits = xs; tag = name.tag; origin = name.origin } in
    ap (λ xs. f xs (named_at names' id)) (kept_cut lits bounds names lits' names' laid kept id (omega arith))
    ∙ ap (f (slice_range lits (get_or bounds id 0) (get_or bounds (id + 1) 0))) (same_name (length bounds - 1) names names' id kept.front_names lt)

pub kept_clauses : (lits bounds : List ℕ) (names : List Named) (lits' : List ℕ) (names' : List Named) → IsLaidOut lits bounds names → IsKept lits bounds names lits' names' → laid_clauses lits' bounds names' ≡ laid_clauses lits bounds names
kept_clauses lits bounds names lits' names' laid kept =
    tabulated-same (laid_clause lits' bounds names') (laid_clause lits bounds names) (length bounds - 1)
    (kept_clause lits bounds names lits' names' laid kept)

-- the first bound adds no clause
pub begun_clauses : (lits bounds : List ℕ) (names : List Named) → laid_clauses lits (begun bounds) names ≡ laid_clauses lits bounds names
begun_clauses lits [] names = refl
begun_clauses lits (b ∷ bs) names = refl

pub begun_laid : (lits bounds : List ℕ) (names : List Named) → IsLaidOut lits bounds names → IsLaidOut lits (begun bounds) names
begun_laid lits (b ∷ bs) names laid = laid
begun_laid lits [] names laid = record {
  ascending = λ i j le lt. let z : j ≡ 0 = omega arith in let y : i ≡ 0 = omega arith in subst (λ n. get_or (0 ∷ []) n 0 ≤ get_or (0 ∷ []) j 0) (sym y) (subst (λ n. 0 ≤ get_or (0 ∷ []) n 0) (sym z) (omega arith));
  within = λ i lt. let y : i ≡ 0 = omega arith in subst (λ n. get_or (0 ∷ []) n 0 ≤ length lits) (sym y) (omega arith);
  named = omega arith;
  distinct = λ id lt. absurd (omega arith);
}

pub begun_some : (bounds : List ℕ) → 0 < length (begun bounds)
begun_some [] = omega arith
begun_some (b ∷ bs) = omega arith

-- an arena that gets a clause behind its others, whose bounds are these once there is a first one
pub record IsOpened (lits : List ℕ) (names : List Named) (clauses : List ArenaClause) (bounds : List ℕ) (start id : ℕ) : Type 0 where
  pub laid : IsLaidOut lits bounds names
  pub is : laid_clauses lits bounds names ≡ clauses
  pub some : 0 < length bounds
  pub start_is : start ≡ last_of bounds
  pub id_is : id ≡ length bounds - 1

pub opened : (lits old bounds : List ℕ) (names : List Named) (clauses : List ArenaClause) (start n : ℕ) → IsLaidOut lits old names → laid_clauses lits old names ≡ clauses → bounds ≡ begun old → n ≡ length bounds → start ≡ get_or bounds (n - 1) start → IsOpened lits names clauses bounds start (n - 1)
opened lits old bounds names clauses start n laid is begins n_is read =
    let some : 0 < length bounds = subst (λ (bs : List ℕ). 0 < length bs) (sym begins) (begun_some old) in
    record {
      laid = subst (λ (bs : List ℕ). IsLaidOut lits bs names) (sym begins) (begun_laid lits old names laid);
      is = ap (λ (bs : List ℕ). laid_clauses lits bs names) begins ∙ begun_clauses lits old names ∙ is;
      some = some;
      start_is = get_or_read bounds (n - 1) start (omega arith) read 0 ∙ ap (λ k. get_or bounds (k - 1) 0) n_is;
      id_is = ap (λ k. k - 1) n_is;
    }

-- what a call leaves that was refused or goes on: whatever stands behind the last clause
pub record IsSame (lits bounds : List ℕ) (names : List Named) (clauses : List ArenaClause) : Type 0 where
  pub laid : IsLaidOut lits bounds names
  pub is : laid_clauses lits bounds names ≡ clauses

pub unchanged : (lits : List ℕ) (names : List Named) (clauses : List ArenaClause) (bounds : List ℕ) (start id : ℕ) (lits' tail : List ℕ) (names' more : List Named) → IsOpened lits names clauses bounds start id → lits' ≡ take start lits ++ tail → names' ≡ take id names ++ more → IsSame lits' bounds names' clauses
unchanged lits names clauses bounds start id lits' tail names' more u lits_are names_are =
    let front : length (take start lits) ≡ start = length-take-le start lits (omega (arith, u.start_is, u.laid.within (length bounds - 1) (omega (arith, u.some)))) in
    let front_names : length (take id names) ≡ id = length-take-le id names (omega (arith, u.id_is, u.laid.named)) in
    let kept : IsKept lits bounds names lits' names' = record {
      front = subst (λ n. take n lits' ≡ take n lits) u.start_is (ap (take start) lits_are ∙ take_at (take start lits) tail start front);
      long = omega (arith, u.start_is, ap length lits_are, length-append (take start lits) tail);
      front_names = subst (λ n. take n names' ≡ take n names) u.id_is (ap (take id) names_are ∙ take_at (take id names) more id front_names);
      long_names = omega (arith, u.id_is, u.some, ap length names_are, length-append (take id names) more);
    } in
    record { laid = kept_laid lits bounds names lits' names' u.laid kept; is = kept_clauses lits bounds names lits' names' u.laid kept ∙ u.is }

-- The clause behind the last bound becomes one by a bound of its own.
pub record IsBehind (lits : List ℕ) (names : List Named) (bounds : List ℕ) (start id end : ℕ) (clause : List ℕ) (name : Named) : Type 0 where
  pub cut : slice_range lits start end ≡ clause
  pub ordered : start ≤ end
  pub end_is : end ≤ length lits
  pub named : named_at names id ≡ name
  pub names_long : id + 1 ≤ length names
  pub distinct : HasNoRepeat clause

old_bound : (bounds : List ℕ) (end i : ℕ) → i < length bounds → get_or (bounds ++ end ∷ []) i 0 ≡ get_or bounds i 0
old_bound bounds end i lt = get_or_append_left bounds (end ∷ []) 0 i lt

last_bound : (bounds : List ℕ) (end i : ℕ) → i ≡ length bounds → get_or (bounds ++ end ∷ []) i 0 ≡ end
last_bound bounds end i e = get_or_push bounds end 0 i (sym e)

added_ascending : (bounds : List ℕ) (end : ℕ) → ((i j : ℕ) → i ≤ j → j < length bounds → get_or bounds i 0 ≤ get_or bounds j 0) → last_of bounds ≤ end → 0 < length bounds → (i j : ℕ) → i ≤ j → j < length (bounds ++ end ∷ []) → get_or (bounds ++ end ∷ []) i 0 ≤ get_or (bounds ++ end ∷ []) j 0
added_ascending bounds end up below some i j le lt = at (cases_lt j (length bounds)) (cases_lt i (length bounds))
  where
    at : (j < length bounds) ⊎ (length bounds ≤ j) → (i < length bounds) ⊎ (length bounds ≤ i) → get_or (bounds ++ end ∷ []) i 0 ≤ get_or (bounds ++ end ∷ []) j 0
    at (inl j_old) _ = let h = up i j le j_old in omega (arith, old_bound bounds end i (omega arith), old_bound bounds end j j_old)
    at (inr j_new) (inl i_old) =
        let h = up i (length bounds - 1) (omega arith) (omega arith) in
        omega (arith, old_bound bounds end i i_old, last_bound bounds end j (omega (arith, length_push bounds end)))
    at (inr j_new) (inr i_new) =
        omega (arith, last_bound bounds end i (omega (arith, length_push bounds end)), last_bound bounds end j (omega (arith, length_push bounds end)))

pub added : (lits : List ℕ) (names : List Named) (clauses : List ArenaClause) (bounds bounds' : List ℕ) (start id end : ℕ) (clause : List ℕ) (name : Named) → IsOpened lits names clauses bounds start id → IsBehind lits names bounds start id end clause name → bounds' ≡ bounds ++ end ∷ [] → IsSame lits bounds' names (clauses ++ record { lits = clause; tag = name.tag; origin = name.origin } ∷ [])
added lits names clauses bounds bounds' start id end clause name u new pushed =
    subst (λ (bs : List ℕ). IsSame lits bs names (clauses ++ one ∷ [])) (sym pushed) (record { laid = laid; is = all })
  where
    one : ArenaClause
    one = record { lits = clause; tag = name.tag; origin = name.origin }

    more : List ℕ
    more = bounds ++ end ∷ []

    size : length more ≡ length bounds + 1
    size = length_push bounds end

    n : ℕ
    n = length bounds - 1

    of : List ℕ → Named → ArenaClause
    of xs m = record { lits = xs; tag = m.tag; origin = m.origin }

    cut_old : (id : ℕ) → id + 1 < length bounds → slice_range lits (get_or more id 0) (get_or more (id + 1) 0) ≡ slice_range lits (get_or bounds id 0) (get_or bounds (id + 1) 0)
    cut_old id lt =
        ap (λ k. slice_range lits k (get_or more (id + 1) 0)) (old_bound bounds end id (omega arith))
        ∙ ap (λ k. slice_range lits (get_or bounds id 0) k) (old_bound bounds end (id + 1) lt)

    cut_new : (m : ℕ) → m ≡ n → slice_range lits (get_or more m 0) (get_or more (m + 1) 0) ≡ clause
    cut_new m e =
        ap (λ k. slice_range lits k (get_or more (m + 1) 0)) (old_bound bounds end m (omega (arith, u.some)) ∙ ap (λ k. get_or bounds k 0) e ∙ sym u.start_is)
        ∙ ap (λ k. slice_range lits start k) (last_bound bounds end (m + 1) (omega (arith, u.some)))
        ∙ new.cut

    distinct_at : (m : ℕ) → (m + 1 < length bounds) ⊎ (length bounds ≤ m + 1) → m + 1 < length more → HasNoRepeat (slice_range lits (get_or more m 0) (get_or more (m + 1) 0))
    distinct_at m (inl old) lt = subst HasNoRepeat (sym (cut_old m old)) (u.laid.distinct m old)
    distinct_at m (inr last) lt = subst HasNoRepeat (sym (cut_new m (omega (arith, size, u.some)))) new.distinct

    within_at : (i : ℕ) → (i < length bounds) ⊎ (length bounds ≤ i) → i < length more → get_or more i 0 ≤ length lits
    within_at i (inl old) lt = let h = u.laid.within i old in omega (arith, old_bound bounds end i old)
    within_at i (inr last) lt = omega (arith, last_bound bounds end i (omega (arith, size)), new.end_is)

    laid : IsLaidOut lits more names
    laid = record {
      ascending = added_ascending bounds end u.laid.ascending (omega (arith, new.ordered, u.start_is)) u.some;
      within = λ i lt. within_at i (cases_lt i (length bounds)) lt;
      named = omega (arith, size, new.names_long, u.id_is, u.some);
      distinct = λ m lt. distinct_at m (cases_lt (m + 1) (length bounds)) lt;
    }

    f : ℕ → ArenaClause
    f = laid_clause lits more names

    old_clauses : tabulated f n ≡ clauses
    old_clauses =
        tabulated-same f (laid_clause lits bounds names) n (λ i lt. ap (λ xs. of xs (named_at names i)) (cut_old i (omega arith))) ∙ u.is

    all : laid_clauses lits more names ≡ clauses ++ one ∷ []
    all =
        ap (tabulated f) (let e : length more - 1 ≡ suc n = omega (arith, size, u.some) in e)
        ∙ ap (λ xs. xs ++ f n ∷ []) old_clauses
        ∙ ap (λ c. clauses ++ c ∷ []) (ap (λ xs. of xs (named_at names n)) (cut_new n refl) ∙ ap (of clause) (ap (named_at names) (sym u.id_is) ∙ new.named))

-- a whole addition: the block without what stood behind the last clause, then the new clause; and so the names
pub finished : (lits : List ℕ) (names : List Named) (clauses : List ArenaClause) (bounds : List ℕ) (start id end : ℕ) (clause : List ℕ) (name : Named) (lits' : List ℕ) (names' : List Named) (bounds' : List ℕ) → IsOpened lits names clauses bounds start id → lits' ≡ take start lits ++ clause → names' ≡ take id names ++ name ∷ [] → end ≡ start + length clause → HasNoRepeat clause → bounds' ≡ bounds ++ end ∷ [] → IsSame lits' bounds' names' (clauses ++ record { lits = clause; tag = name.tag; origin = name.origin } ∷ [])
finished lits names clauses bounds start id end clause name lits' names' bounds' u lits_are names_are end_is distinct pushed =
    let front : length (take start lits) ≡ start = length-take-le start lits (omega (arith, u.start_is, u.laid.within (length bounds - 1) (omega (arith, u.some)))) in
    let front_names : length (take id names) ≡ id = length-take-le id names (omega (arith, u.id_is, u.laid.named)) in
    let same = unchanged lits names clauses bounds start id lits' clause names' (name ∷ []) u lits_are names_are in
    let behind : drop start lits' ≡ clause = ap (drop start) lits_are ∙ drop_at (take start lits) clause start front in
    added lits' names' clauses bounds bounds' start id end clause name
    (record { laid = same.laid; is = same.is; some = u.some; start_is = u.start_is; id_is = u.id_is })
    (record {
      cut = ap (take (end - start)) behind ∙ take_all (end - start) clause (omega arith);
      ordered = omega arith;
      end_is = omega (arith, ap length lits_are, length-append (take start lits) clause, front);
      named = ap (λ (xs : List Named). named_at xs id) names_are ∙ get_or_push (take id names) name _ id front_names;
      names_long = omega (arith, ap length names_are, length_push (take id names) name, front_names);
      distinct = distinct;
    })
    pushed

-- literals in ascending order are apart
above : (bound : ℕ) (lits : List ℕ) (j : ℕ) → IsTrue (ascends_above bound lits) → j < length lits → bound < get_or lits j 0
above bound [] j up lt = absurd (omega arith)
above bound (lit ∷ lits) zero up lt = ltb-true bound lit (and_parts _ _ up).0
above bound (lit ∷ lits) (suc j) up lt =
    let h = ltb-true bound lit (and_parts _ _ up).0 in
    let k : lit < get_or lits j 0 = above lit lits j (and_parts _ _ up).1 (omega arith) in
    omega arith

increasing : (bound : ℕ) (lits : List ℕ) (i j : ℕ) → IsTrue (ascends_above bound lits) → i < j → j < length lits → get_or lits i 0 < get_or lits j 0
increasing bound [] i j up le lt = absurd (omega arith)
increasing bound (lit ∷ lits) i zero up le lt = absurd (omega arith)
increasing bound (lit ∷ lits) zero (suc j) up le lt = above lit lits j (and_parts _ _ up).1 (omega arith)
increasing bound (lit ∷ lits) (suc i) (suc j) up le lt = increasing lit lits i j (and_parts _ _ up).1 (omega arith) (omega arith)

pub no_repeat_ascending : (lits : List ℕ) → IsTrue (is_ascending lits) → HasNoRepeat lits
no_repeat_ascending lits up = record {
  each = λ i j i_in j_in same. at i j i_in j_in same (cases_order i j);
}
  where
    at : (i j : ℕ) → i < length lits → j < length lits → get_or lits i 0 ≡ get_or lits j 0 → (i ≡ j) ⊎ ((i < j) ⊎ (j < i)) → i ≡ j
    at i j i_in j_in same (inl e) = e
    at i j i_in j_in same (inr (inl l)) = let h = increasing 0 lits i j up l j_in in absurd (omega arith)
    at i j i_in j_in same (inr (inr g)) = let h = increasing 0 lits j i up g i_in in absurd (omega arith)

pub on_err : {T E : Type 0} (r : Result T E) (P : Type 0) → P → OnErr r P
on_err (Ok x) P p = tt
on_err (Err e) P p = p
