-- Clauses that move down within their block.
use Rattle.std.proofs.Common.{◌≡◌, ◌∙◌, ℕ, zero, suc, ◌+◌, ◌-◌, ◌<◌, ◌≤◌, Bool, true, false, List, [], ◌∷◌, ◌++◌, length, take, drop, set, refl, ap, subst, sym, arith, get_or}
use Rattle.std.specs.Prelude.{slice_range}
use Rattle.std.proofs.Math.Seq.{paste}
use Rattle.std.proofs.lemmas.List.{take_more_set, take-set, take-append-drop, append_assoc, drop-take, take_all, drop_at, drop-drop, length-take-le, length-set, get_or-set_same, get_or-set_other, get_or-take, length-drop}
use Rattle.std.proofs.lemmas.List.Edits.{take-paste, drop-paste, length-paste}
use Rattle.clause_arena.specs.Arena.{ArenaClause, clause_at, no_clause, HasNoRepeat}
use Rattle.clause_arena.specs.Named.{Named, named_at}
use Rattle.clause_arena.specs.Layout.{laid_clause, laid_clauses, IsLaidOut}
use Rattle.clause_arena.specs.Kept.{kept_of}
use Rattle.clause_arena.specs.Compaction.{IsUnderway, CanMove}
use Rattle.clause_arena.proofs.Tabulated.{get_or-tabulated}
use Rattle.clause_arena.proofs.Front.{cut_back}
use Rattle.clause_arena.proofs.Laid.{IsSame, last_of, unchanged, added, length-laid_clauses}

-- one more clause that is kept, and one that is thrown away
pub kept_next : (keep : List Bool) (clauses : List ArenaClause) (id : ℕ) → id < length keep → id < length clauses → get_or keep id false ≡ true → kept_of (take (suc id) keep) clauses ≡ kept_of (take id keep) clauses ++ clause_at clauses id ∷ []
kept_next [] clauses id lt in_clauses stays = absurd (omega (arith, lt))
kept_next (b ∷ keep) [] id lt in_clauses stays = absurd (omega (arith, in_clauses))
kept_next (true ∷ keep) (c ∷ clauses) zero lt in_clauses stays = refl
kept_next (false ∷ keep) (c ∷ clauses) zero lt in_clauses stays = absurd (cc)
kept_next (true ∷ keep) (c ∷ clauses) (suc id) lt in_clauses stays =
    ap (λ (xs : List ArenaClause). c ∷ xs) (kept_next keep clauses id (omega (arith, lt)) (omega (arith, in_clauses)) stays)
kept_next (false ∷ keep) (c ∷ clauses) (suc id) lt in_clauses stays =
    kept_next keep clauses id (omega (arith, lt)) (omega (arith, in_clauses)) stays

pub kept_not : (keep : List Bool) (clauses : List ArenaClause) (id : ℕ) → id < length keep → get_or keep id false ≡ false → kept_of (take (suc id) keep) clauses ≡ kept_of (take id keep) clauses
kept_not [] clauses id lt thrown = absurd (omega (arith, lt))
kept_not (b ∷ keep) [] zero lt thrown = refl
kept_not (b ∷ keep) [] (suc id) lt thrown = refl
kept_not (true ∷ keep) (c ∷ clauses) zero lt thrown = absurd (cc)
kept_not (false ∷ keep) (c ∷ clauses) zero lt thrown = refl
kept_not (true ∷ keep) (c ∷ clauses) (suc id) lt thrown =
    ap (λ (xs : List ArenaClause). c ∷ xs) (kept_not keep clauses id (omega (arith, lt)) thrown)
kept_not (false ∷ keep) (c ∷ clauses) (suc id) lt thrown = kept_not keep clauses id (omega (arith, lt)) thrown

-- before the first clause
pub begins : (lits bounds : List ℕ) (names : List Named) (keep : List Bool) (start : ℕ) → IsLaidOut lits bounds names → 0 < length bounds → start ≡ get_or bounds 0 0 → IsUnderway lits bounds names keep 0 0 start lits bounds names
begins lits bounds names keep start laid some start_is =
    let none = cut_back lits bounds (take 1 bounds) names (laid_clauses lits bounds names) 0 laid refl some refl in
    record {
      laid = none.laid;
      is = none.is;
      below = omega arith;
      behind = omega (arith, start_is);
      start_is = start_is;
      same_lits = refl;
      same_bounds = λ i lt. refl;
      same_names = λ i le. refl;
      size_lits = refl;
      size_bounds = refl;
      size_names = refl;
    }

-- behind the last one
pub ends : (lits bounds : List ℕ) (names : List Named) (keep : List Bool) (id kept start : ℕ) (lits' bounds' : List ℕ) (names' : List Named) → IsUnderway lits bounds names keep id kept start lits' bounds' names' → length keep ≤ id → IsSame lits' (take (kept + 1) bounds') names' (kept_of keep (laid_clauses lits bounds names))
ends lits bounds names keep id kept start lits' bounds' names' u le = record {
  laid = u.laid;
  is = u.is ∙ ap (λ (ks : List Bool). kept_of ks (laid_clauses lits bounds names)) (take_all id keep le);
}

pub can_move : (lits bounds : List ℕ) (names : List Named) (keep : List Bool) (id kept start : ℕ) (lits' bounds' : List ℕ) (names' : List Named) → IsLaidOut lits bounds names → id + 1 < length bounds → IsUnderway lits bounds names keep id kept start lits' bounds' names' → CanMove lits' bounds' names' id kept start
can_move lits bounds names keep id kept start lits' bounds' names' laid lt u =
    let up = laid.ascending id (id + 1) (omega arith) lt in
    let within = laid.within (id + 1) lt in
    let same = u.same_bounds (id + 1) (omega arith) in
    record {
      below = u.below;
      known = omega (arith, lt, u.size_bounds);
      named = omega (arith, lt, laid.named, u.size_names);
      behind = u.behind;
      ordered = omega (arith, up, same, u.start_is);
      within = omega (arith, within, same, u.size_lits);
    }

-- lists that are equal from one place on are so from each later one on
drops_more : (n m : ℕ) (xs ys : List ℕ) → n ≤ m → drop n xs ≡ drop n ys → drop m xs ≡ drop m ys
drops_more n m xs ys le same =
    let e : n + (m - n) ≡ m = omega (arith, le) in
    sym (ap (λ k. drop k xs) e)
    ∙ sym (drop-drop (m - n) n xs)
    ∙ ap (drop (m - n)) same
    ∙ drop-drop (m - n) n ys
    ∙ ap (λ k. drop k ys) e

-- a clause that is thrown away
pub skipped : (lits bounds : List ℕ) (names : List Named) (keep : List Bool) (id kept start end : ℕ) (lits' bounds' : List ℕ) (names' : List Named) → CanMove lits' bounds' names' id kept start → IsUnderway lits bounds names keep id kept start lits' bounds' names' → id < length keep → get_or keep id false ≡ false → end ≡ get_or bounds' (id + 1) 0 → IsUnderway lits bounds names keep (id + 1) kept end lits' bounds' names'
skipped lits bounds names keep id kept start end lits' bounds' names' can u lt thrown end_is = record {
  laid = u.laid;
  is = u.is ∙ sym (ap (λ n. kept_of (take n keep) (laid_clauses lits bounds names)) (let e : id + 1 ≡ suc id = omega arith in e) ∙ kept_not keep (laid_clauses lits bounds names) id lt thrown);
  below = omega (arith, u.below);
  behind = omega (arith, can.behind, can.ordered, end_is);
  start_is = end_is ∙ u.same_bounds (id + 1) (omega arith);
  same_lits = drops_more start end lits' lits (omega (arith, can.ordered, end_is)) u.same_lits;
  same_bounds = λ i after. u.same_bounds i (omega (arith, after));
  same_names = λ i after. u.same_names i (omega (arith, after));
  size_lits = u.size_lits;
  size_bounds = u.size_bounds;
  size_names = u.size_names;
}

-- the clause that lies behind the kept ones once it moved down
abbrev part : List ℕ → ℕ → ℕ → List ℕ
part lits start end = take (end - start) (drop start lits)

part_laid : (lits bounds : List ℕ) (names : List Named) (keep : List Bool) (id kept start end : ℕ) (lits' bounds' : List ℕ) (names' : List Named) → IsUnderway lits bounds names keep id kept start lits' bounds' names' → end ≡ get_or bounds' (id + 1) 0 → part lits' start end ≡ slice_range lits (get_or bounds id 0) (get_or bounds (id + 1) 0)
part_laid lits bounds names keep id kept start end lits' bounds' names' u end_is =
    ap (take (end - start)) u.same_lits
    ∙ ap (λ k. part lits k end) u.start_is
    ∙ ap (λ k. part lits (get_or bounds id 0) k) (end_is ∙ u.same_bounds (id + 1) (omega arith))

part_clause : (lits bounds : List ℕ) (names : List Named) (keep : List Bool) (id kept start end : ℕ) (lits' bounds' : List ℕ) (names' : List Named) → IsUnderway lits bounds names keep id kept start lits' bounds' names' → id + 1 < length bounds → end ≡ get_or bounds' (id + 1) 0 → ◌≡◌ {A = ArenaClause} (record { lits = part lits' start end; tag = (named_at names' id).tag; origin = (named_at names' id).origin }) (clause_at (laid_clauses lits bounds names) id)
part_clause lits bounds names keep id kept start end lits' bounds' names' u lt end_is =
    let of : List ℕ → Named → ArenaClause = λ xs name. record { lits = xs; tag = name.tag; origin = name.origin } in
    ap (λ xs. of xs (named_at names' id)) (part_laid lits bounds names keep id kept start end lits' bounds' names' u end_is)
    ∙ ap (of (slice_range lits (get_or bounds id 0) (get_or bounds (id + 1) 0))) (u.same_names id (omega arith))
    ∙ sym (get_or-tabulated (laid_clause lits bounds names) (length bounds - 1) id no_clause (omega (arith, lt)))

-- the block after the move: the front, the clause, and all from where it ended on
record IsPasted (lits lits' : List ℕ) (front start end : ℕ) : Type 0 where
  pub is : lits' ≡ take front lits ++ (part lits start end ++ drop (front + (end - start)) lits)
  pub cut : take (end - start) (drop front lits') ≡ part lits start end
  pub size : length lits' ≡ length lits
  pub rest : drop end lits' ≡ drop end lits

pasted : (lits lits' : List ℕ) (front start end : ℕ) → front ≤ start → start ≤ end → end ≤ length lits → lits' ≡ paste lits front (drop start lits) (end - start) → IsPasted lits lits' front start end
pasted lits lits' front start end down ordered within is =
    subst (λ (xs : List ℕ). IsPasted lits xs front start end) (sym is) (record {
      is = sym (take-append-drop (front + n) ys) ∙ ap (λ (xs : List ℕ). xs ++ drop (front + n) ys) head ∙ ap (λ (xs : List ℕ). (take front lits ++ part lits start end) ++ xs) tail ∙ append_assoc (take front lits) (part lits start end) (drop (front + n) lits);
      cut = sym (drop-take front n ys) ∙ ap (drop front) head ∙ drop_at (take front lits) (part lits start end) front (length-take-le front lits (omega (arith, down, ordered, within)));
      size = length-paste lits front (drop start lits) n (omega (arith, down, ordered, within)) long;
      rest = drops_more (front + n) end ys lits (omega (arith, down, ordered)) tail;
    })
  where
    n : ℕ
    n = end - start

    ys : List ℕ
    ys = paste lits front (drop start lits) (end - start)

    long : end - start ≤ length (drop start lits)
    long = omega (arith, within, ordered, length-drop start lits)

    head : take (front + (end - start)) (paste lits front (drop start lits) (end - start)) ≡ take front lits ++ part lits start end
    head = take-paste lits front (drop start lits) (end - start) (omega (arith, down, ordered, within)) long

    tail : drop (front + (end - start)) (paste lits front (drop start lits) (end - start)) ≡ drop (front + (end - start)) lits
    tail = drop-paste lits front (drop start lits) (end - start) (omega (arith, down, ordered, within)) long

-- a clause that is kept
pub moved : (lits bounds : List ℕ) (names : List Named) (keep : List Bool) (id kept start end front : ℕ) (lits' bounds' : List ℕ) (names' : List Named) (lits'' bounds'' : List ℕ) (names'' : List Named) → IsLaidOut lits bounds names → CanMove lits' bounds' names' id kept start → IsUnderway lits bounds names keep id kept start lits' bounds' names' → id < length keep → get_or keep id false ≡ true → end ≡ get_or bounds' (id + 1) 0 → front ≡ get_or bounds' kept 0 → lits'' ≡ paste lits' front (drop start lits') (end - start) → bounds'' ≡ set bounds' (kept + 1) (front + (end - start)) → names'' ≡ set names' kept (named_at names' id) → IsUnderway lits bounds names keep (id + 1) (kept + 1) end lits'' bounds'' names''
moved lits bounds names keep id kept start end front lits' bounds' names' lits'' bounds'' names'' laid can u lt stays end_is front_is lits_are bounds_are names_are = record {
  laid = all.laid;
  is = all.is ∙ ap (λ (c : ArenaClause). before ++ c ∷ []) (part_clause lits bounds names keep id kept start end lits' bounds' names' u in_bounds end_is)
      ∙ sym (ap (λ n. kept_of (take n keep) clauses) (let e : id + 1 ≡ suc id = omega arith in e) ∙ kept_next keep clauses id lt (omega (arith, in_bounds, length-laid_clauses lits bounds names)) stays);
  below = omega (arith, u.below);
  behind = omega (arith, bound_at, front_is, can.behind, can.ordered, end_is);
  start_is = end_is ∙ u.same_bounds (id + 1) (omega arith);
  same_lits = p.rest ∙ drops_more start end lits' lits (omega (arith, can.ordered, end_is)) u.same_lits;
  same_bounds = λ i after. ap (λ (bs : List ℕ). get_or bs i 0) bounds_are ∙ get_or-set_other bounds' (kept + 1) i (front + (end - start)) 0 (λ e. absurd (omega (arith, e, after, u.below))) ∙ u.same_bounds i (omega (arith, after));
  same_names = λ i after. ap (λ (ns : List Named). named_at ns i) names_are ∙ get_or-set_other names' kept i (named_at names' id) _ (λ e. absurd (omega (arith, e, after, u.below))) ∙ u.same_names i (omega (arith, after));
  size_lits = p.size ∙ u.size_lits;
  size_bounds = bounds_size ∙ u.size_bounds;
  size_names = names_size ∙ u.size_names;
}
  where
    clauses : List ArenaClause
    clauses = laid_clauses lits bounds names

    before : List ArenaClause
    before = kept_of (take id keep) (laid_clauses lits bounds names)

    in_bounds : id + 1 < length bounds
    in_bounds = omega (arith, can.known, u.size_bounds)

    bounds_size : length bounds'' ≡ length bounds'
    bounds_size = ap (λ (bs : List ℕ). length bs) bounds_are ∙ length-set bounds' (kept + 1) (front + (end - start))

    names_size : length names'' ≡ length names'
    names_size = ap (λ (ns : List Named). length ns) names_are ∙ length-set names' kept (named_at names' id)

    bound_at : get_or bounds'' (kept + 1) 0 ≡ front + (end - start)
    bound_at = ap (λ (bs : List ℕ). get_or bs (kept + 1) 0) bounds_are ∙ get_or-set_same bounds' (kept + 1) (front + (end - start)) 0 (omega (arith, can.known, can.below))

    p : IsPasted lits' lits'' front start end
    p = pasted lits' lits'' front start end (omega (arith, front_is, can.behind)) (omega (arith, can.ordered, end_is)) (omega (arith, can.within, end_is)) lits_are

    fronts : List ℕ
    fronts = take (kept + 1) bounds'

    fronts_size : length (take (kept + 1) bounds') ≡ kept + 1
    fronts_size = length-take-le (kept + 1) bounds' (omega (arith, can.known, can.below))

    last : front ≡ last_of (take (kept + 1) bounds')
    last = front_is ∙ sym (get_or-take (kept + 1) bounds' kept 0 (omega arith)) ∙ ap (λ k. get_or (take (kept + 1) bounds') k 0) (let e : kept ≡ length (take (kept + 1) bounds') - 1 = omega (arith, fronts_size) in e)

    same : IsSame lits'' (take (kept + 1) bounds') names'' (kept_of (take id keep) (laid_clauses lits bounds names))
    same = unchanged lits' names' before fronts front kept lits'' (part lits' start end ++ drop (front + (end - start)) lits') names'' (drop kept names'')
        (record { laid = u.laid; is = u.is; some = omega (arith, fronts_size); start_is = last; id_is = omega (arith, fronts_size) })
        p.is
        (sym (take-append-drop kept names'') ∙ ap (λ (xs : List Named). xs ++ drop kept names'') (ap (take kept) names_are ∙ take-set names' kept (named_at names' id)))

    all : IsSame lits'' (take (kept + 1 + 1) bounds'') names'' (before ++ record { lits = part lits' start end; tag = (named_at names' id).tag; origin = (named_at names' id).origin } ∷ [])
    all = added lits'' names'' before fronts (take (kept + 1 + 1) bounds'') front kept (front + (end - start)) (part lits' start end) (named_at names' id)
        (record { laid = same.laid; is = same.is; some = omega (arith, fronts_size); start_is = last; id_is = omega (arith, fronts_size) })
        (record {
          cut = ap (λ k. take k (drop front lits'')) (let e : front + (end - start) - front ≡ end - start = omega arith in e) ∙ p.cut;
          ordered = omega arith;
          end_is = omega (arith, p.size, can.within, end_is, can.behind, front_is, can.ordered);
          named = ap (λ (ns : List Named). named_at ns kept) names_are ∙ get_or-set_same names' kept (named_at names' id) _ (omega (arith, can.named, can.below));
          names_long = omega (arith, names_size, can.named, can.below);
          distinct = subst HasNoRepeat (sym (part_laid lits bounds names keep id kept start end lits' bounds' names' u end_is)) (laid.distinct id in_bounds);
        })
        (ap (take (kept + 1 + 1)) bounds_are ∙ take_more_set bounds' (kept + 1) (front + (end - start)) (omega (arith, can.known, can.below)))
