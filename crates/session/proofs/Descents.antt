-- A search that decides.
use Rattle.std.proofs.Common.{◌≡◌, ◌≢◌, ◌∙◌, ℕ, zero, suc, ◌+◌, ◌-◌, ◌<◌, ◌≤◌, List, [], ◌∷◌, ◌++◌}
use Rattle.std.proofs.Common.{length, map, true, false, None, refl, ap, sym, subst, inl, inr, arith}
use Rattle.std.proofs.Common.{get_or, eqb, Vec, Global}
use Rattle.std.specs.Prelude.{◌⊎◌, Contains}
use Rattle.std.specs.List.{AllByRecursion, IsDistinct, list_any}
use Rattle.std.proofs.lemmas.Map.Steps.{length-le_from_distinct_below}
use Rattle.std.proofs.lemmas.Bool.{cases_lt, cases_eq, ne_eqb, eqb-true}
use Rattle.std.proofs.lemmas.List.{length_push, length-map, get_or-map, get_or_push}
use Rattle.std.proofs.lemmas.List.{get_or_append_left}
use Rattle.sat_base.specs.Lit.{IsLit, variable}
use Rattle.trail_core.specs.Trail.{Entry, TrailView, IsTrail, entry_at, no_entry, lits_of}
use Rattle.trail_core.specs.UnderTrail.{IsUnassigned, IsFounded, IsComplete}
use Rattle.clause_arena.specs.Arena.{lits_of_each}
use Rattle.analyze.specs.Table.{KnowsUnits}
use Rattle.session.specs.declared.search.Search.{Search}
use Rattle.session.specs.OnTrail.{IsOnTrail}
use Rattle.session.specs.Searching.{IsSearching, IsRoomy, AreAllNamed, table_of}
use Rattle.session.proofs.Fronts.{level_at}
use Rattle.session.proofs.OnTrails.{decided_on_trail}
use Rattle.session.specs.declared.search.Cursor.{Cursor}
use Rattle.session.specs.Watched.{IsSettled}
use Rattle.session.proofs.Orders.{order_more}
use Rattle.session.proofs.Watching.{watched_as, watched_decided}
use Rattle.session.proofs.Learnings.{named_push}
use Rattle.session.proofs.Choices.{same_variable}
use Rattle.session.proofs.Asserted.{true_at, place_of_true}
use Rattle.sat_base.proofs.Members.{any_member, Contains-from_map, Contains-cases}

-- the unit clauses of level 0 are known
pub all_units : (s : Search) → IsSearching s → AreAllNamed s
    → KnowsUnits (table_of s) s.trail.entries s.units.items s.tags.items
all_units s kept all place lt at_zero = kept.named.known place (all.each place lt at_zero)

-- a decision on a new level
pub search_decided : (s : Search) (trail : TrailView) (cursors : Vec Cursor Global) (lit : ℕ)
    → IsSearching s → IsTrail trail
    → IsComplete s.trail.entries s.trail.depth (lits_of_each s.store.clauses) → AreAllNamed s
    → trail.entries ≡ s.trail.entries ++ record {
      lit = lit;
      level = s.trail.depth + 1;
      reason = None;
    } ∷ [] → trail.depth ≡ s.trail.depth + 1 → trail.vars ≡ s.trail.vars
    → trail.looked ≡ s.trail.looked → cursors.items ≡ s.cursors.items ++ s.cursor ∷ []
    → IsSettled s.store s.trail
    → IsSearching (record s { trail = trail; cursors = cursors })
search_decided s trail cursors lit kept is complete all entries_are depth_is vars_are looked_is opened settled = record {
  stock = kept.stock;
  room = subst (λ vars. IsRoomy s.greatest vars s.store s.scratch s.units.items s.tags.items)
      (sym vars_are) kept.room;
  counted = kept.counted;
  on = subst (λ (es : List Entry). IsOnTrail (lits_of_each s.store.clauses) es trail.depth)
      (sym entries_are)
      (subst (IsOnTrail (lits_of_each s.store.clauses) (s.trail.entries ++ entry ∷ []))
      (sym depth_is)
      (decided_on_trail (lits_of_each s.store.clauses) s.trail.entries s.trail.depth lit kept.trail.below complete kept.on));
  named = named_push (table_of s) s.trail.entries trail.entries s.units.items s.tags.items s.named entry entries_are kept.named;
  trail = is;
  watched = watched_as refl refl entries_are depth_is looked_is
      (watched_decided s.store.clauses s.store.fresh s.trail.entries s.trail.depth s.trail.looked entry settled.all_looked settled.nothing_new refl kept.watched);
  levels = omega (arith, ap length opened, length_push s.cursors.items s.cursor, kept.levels, depth_is);
  order = order_more s.greatest s.trail trail (entry ∷ []) s.order entries_are
      (omega (arith, vars_are)) kept.order;
  all_named = λ deep place lt bottom. all_at place lt bottom
      (cases_lt place (length s.trail.entries));
}
  where
    entry : Entry
    entry = record { lit = lit; level = s.trail.depth + 1; reason = None }

    size : length trail.entries ≡ length s.trail.entries + 1
    size = ap length entries_are ∙ length_push s.trail.entries entry

    all_at : (place : ℕ) → place < length trail.entries → level_at trail.entries place ≡ 0
        → (place < length s.trail.entries) ⊎ (length s.trail.entries ≤ place) → place < s.named
    all_at place lt bottom (inl old) =
        all.each place old (ap (λ (e : Entry). e.level)
        (sym (get_or_append_left s.trail.entries (entry ∷ []) no_entry place old))
        ∙ ap (λ (es : List Entry). level_at es place) (sym entries_are) ∙ bottom)
    all_at place lt bottom (inr new) =
        let last : place ≡ length s.trail.entries = omega (arith, lt, new, size) in
        let here : level_at trail.entries place ≡ entry.level = ap
        (λ (es : List Entry). level_at es place) entries_are
        ∙ ap (λ (e : Entry). e.level) (get_or_push s.trail.entries entry no_entry place
        (sym last)) in
        absurd (omega (arith, here, bottom))

-- a level has a place that is at least its number less one
level_place : (clauses : List (List ℕ)) (trail : TrailView) → IsTrail trail
    → IsFounded clauses trail.entries trail.depth → (level : ℕ) → 0 < level → level ≤ trail.depth
    → (place : ℕ) × (place < length trail.entries) × (level_at trail.entries place ≡ level)
    × (level ≤ place + 1)
level_place clauses trail is founded zero pos le = absurd (omega (arith, pos))
level_place clauses trail is founded (suc zero) pos le = let b = founded.begun 1 pos le in
    (b.0, b.1, b.2, omega arith)
level_place clauses trail is founded (suc (suc level)) pos le =
    let b = founded.begun (suc (suc level)) pos le in
    let (p, p_lt, p_is, p_low) = level_place clauses trail is founded (suc level) (omega arith)
    (omega (arith, le)) in
    (b.0, b.1, b.2, later p p_lt p_is p_low b.0 b.1 b.2 (cases_lt p b.0))
  where
    later : (p : ℕ) → p < length trail.entries → level_at trail.entries p ≡ suc level
        → suc level ≤ p + 1 → (q : ℕ) → q < length trail.entries
        → level_at trail.entries q ≡ suc (suc level) → (p < q) ⊎ (q ≤ p) → suc (suc level) ≤ q + 1
    later p p_lt p_is p_low q q_lt q_is (inl before) = omega (arith, p_low, before)
    later p p_lt p_is p_low q q_lt q_is
        (inr behind) = let up = is.ascending q p behind p_lt in absurd
        (omega (arith, up, p_is, q_is))

deep_enough : (clauses : List (List ℕ)) (trail : TrailView) → IsTrail trail
    → IsFounded clauses trail.entries trail.depth → trail.depth ≤ length trail.entries
deep_enough clauses trail is founded = at (cases_eq trail.depth 0)
  where
    at : (trail.depth ≡ 0) ⊎ (trail.depth ≡ 0 → ⊥) → trail.depth ≤ length trail.entries
    at (inl none) = omega (arith, none)
    at (inr deep) = let (p, p_lt, p_is, p_low) = level_place clauses trail is founded trail.depth
        (omega (arith, deep)) (omega arith) in omega (arith, p_lt, p_low)

-- numbers of different variables are apart
abbrev number : ℕ → ℕ
number lit = variable lit - 1

none_alike : (lit : ℕ) (lits : List ℕ) → 1 ≤ variable lit
    → ((j : ℕ) → j < length lits → 1 ≤ variable (get_or lits j 0))
    → ((j : ℕ) → j < length lits → variable lit ≢ variable (get_or lits j 0))
    → AllByRecursion (λ m. eqb (number lit) m ≡ false) (map number lits)
none_alike lit [] pos each differs = tt
none_alike lit (x ∷ lits) pos each differs = (
  ne_eqb (number lit) (number x) (λ e. differs 0 (omega arith)
      (let low = each 0 (omega arith) in omega (arith, e, pos, low))),
  none_alike lit lits pos (λ j lt. each (suc j) (omega (arith, lt)))
      (λ j lt. differs (suc j) (omega (arith, lt))),
)

apart_numbers : (lits : List ℕ) → ((j : ℕ) → j < length lits → 1 ≤ variable (get_or lits j 0))
    → ((i j : ℕ) → i < j → j < length lits → variable (get_or lits i 0) ≢ variable
    (get_or lits j 0)) → IsDistinct eqb (map number lits)
unfolding IsDistinct
apart_numbers [] each differs = tt
apart_numbers (x ∷ lits) each differs = (
  none_alike x lits (each 0 (omega arith)) (λ j lt. each (suc j) (omega (arith, lt)))
      (λ j lt. differs 0 (suc j) (omega arith) (omega (arith, lt))),
  apart_numbers lits (λ j lt. each (suc j) (omega (arith, lt)))
      (λ i j lt within. differs (suc i) (suc j) (omega (arith, lt)) (omega (arith, within))),
)

lits_get : (entries : List Entry) (j : ℕ) → j < length entries
    → get_or (lits_of entries) j 0 ≡ (entry_at entries j).lit
lits_get entries j lt = get_or-map (λ (e : Entry). e.lit) entries j no_entry 0 lt

-- where a variable is free, there are fewer levels than variables
pub room_for_level : (clauses : List (List ℕ)) (trail : TrailView) (lit : ℕ) → IsTrail trail
    → IsFounded clauses trail.entries trail.depth → IsLit lit → variable lit ≤ trail.vars
    → IsUnassigned (lits_of trail.entries) lit → trail.depth < trail.vars
room_for_level clauses trail lit is founded lit_is within free =
    let count = length-le_from_distinct_below (map number all) trail.vars
    (apart_numbers all positive differs) below in
    omega (arith, count, length-map all number, size, deep_enough clauses trail is founded)
  where
    lits : List ℕ
    lits = lits_of trail.entries

    all : List ℕ
    all = lit ∷ lits

    size : length lits ≡ length trail.entries
    size = length-map trail.entries (λ (e : Entry). e.lit)

    positive : (j : ℕ) → j < length all → 1 ≤ variable (get_or all j 0)
    positive zero lt = omega (arith, lit_is.not_zero)
    positive (suc j) lt =
        let j_in : j < length trail.entries = omega (arith, lt, size) in
        subst (λ x. 1 ≤ variable x) (sym (lits_get trail.entries j j_in))
        (is.reserved j no_entry j_in).0

    not_free : (j : ℕ) → j < length trail.entries
        → variable lit ≢ variable (entry_at trail.entries j).lit
    not_free j lt same = (same_variable lits lit (entry_at trail.entries j).lit same free).not_true
        (record { stands = true_at trail.entries j lt })

    differs : (i j : ℕ) → i < j → j < length all
        → variable (get_or all i 0) ≢ variable (get_or all j 0)
    differs i zero lt within_j = absurd (omega (arith, lt))
    differs zero (suc j) lt within_j =
        let j_in : j < length trail.entries = omega (arith, within_j, size) in
        subst (λ x. variable lit ≢ variable x) (sym (lits_get trail.entries j j_in))
        (not_free j j_in)
    differs (suc i) (suc j) lt within_j = λ same.
        let j_in : j < length trail.entries = omega (arith, within_j, size) in
        let i_in : i < length trail.entries = omega (arith, lt, j_in) in
        let vars_are : variable (entry_at trail.entries i).lit
        ≡ variable (entry_at trail.entries j).lit = ap variable
        (sym (lits_get trail.entries i i_in)) ∙ same
        ∙ ap variable (lits_get trail.entries j j_in) in
        let one : i ≡ j = is.once (variable (entry_at trail.entries j).lit) i j
        (record { within = i_in; is = vars_are }) (record { within = j_in; is = refl }) in
        absurd (omega (arith, one, lt))

    below : (n : ℕ) → list_any (eqb n) (map number all) ≡ true → n < trail.vars
    below n hit =
        let m = any_member (eqb n) (map number all) hit in
        let from = Contains-from_map number all m.0 m.1 in
        let low : number from.0 < trail.vars = small from.0
        (Contains-cases lit from.0 lits from.1) in
        omega (arith, eqb-true n m.0 m.2, from.2, low)
      where
        small : (x : ℕ) → (lit ≡ x) ⊎ Contains lits x → number x < trail.vars
        small x (inl same) = let e = ap variable same in omega (arith, e, within, lit_is.not_zero)
        small x (inr has) =
            let (place, lt, here) = place_of_true trail.entries x has in
            let r = is.reserved place no_entry lt in
            let e = ap variable here in
            omega (arith, e, r.0, r.1)

pub entry_levels : (entries entries' : List Entry) (lit depth level : ℕ) → entries' ≡ entries
    → depth ≡ level → entries' ++ record { lit = lit; level = depth; reason = None } ∷ [] ≡ entries
    ++ record { lit = lit; level = level; reason = None } ∷ []
entry_levels entries entries' lit depth level same is =
    ap (λ (es : List Entry). es ++ record { lit = lit; level = depth; reason = None } ∷ []) same
    ∙ ap (λ n. entries ++ record { lit = lit; level = n; reason = None } ∷ []) is
