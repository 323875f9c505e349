-- A search that learns a clause.
use Rattle.std.proofs.Common.{◌≡◌, ◌∙◌, ℕ, ◌+◌, ◌<◌, ◌≤◌, List, [], ◌∷◌, ◌++◌, length, map, take}
use Rattle.std.proofs.Common.{Bool, true, false, Option, None, Some, refl, ap, sym, subst, inl, inr}
use Rattle.std.proofs.Common.{arith, Vec, Global, min}
use Rattle.std.specs.Prelude.{◌⊎◌, Contains, IsTrue, nat_le, cond}
use Rattle.std.proofs.lemmas.Bool.{cases_lt, cases_eq, le-leb, leb-true}
use Rattle.std.proofs.lemmas.List.{length_push, length-map, map_push, length-take-le, get_or_push}
use Rattle.std.proofs.lemmas.List.{get_or_append_left}
use Rattle.std.proofs.lemmas.List.Elements.{All-nil, All-cons, All-get_or, All-contains}
use Rattle.std.proofs.lemmas.List.Elements.{Contains-append_right}
use Rattle.sat_base.specs.Lit.{IsLitSet, IsTautology, is_ascending, variable, opposite}
use Rattle.sat_base.specs.Lit.{greatest_of, greatest_of_all}
use Rattle.sat_base.specs.declared.origins.Ref.{Ref}
use Rattle.sat_base.specs.declared.origins.Ref.TheVariants.{Own}
use Rattle.sat_base.proofs.Members.{All-from_members, Contains-here, Contains-cases}
use Rattle.sat_base.proofs.Members.{Contains-from_map}
use Rattle.sat_base.proofs.Opposite.{opposite-opposite}
use Rattle.trace_core.specs.Known.{Known, clause_of, item_at}
use Rattle.trace_core.specs.Trace.{known_of}
use Rattle.trace_core.specs.declared.derivation.Step.{Step}
use Rattle.clause_arena.specs.Arena.{ArenaClause, clause_at, no_clause, lits_of_each}
use Rattle.trail_core.specs.Trail.{Entry, TrailView, IsTrail, entry_at, no_entry, lits_of, up_to}
use Rattle.trail_core.specs.UnderTrail.{IsFalseLit, IsFalseClause, IsUnassigned, IsForced}
use Rattle.trail_core.specs.UnderTrail.{IsOpenClause, HasOthersFalse}
use Rattle.propagate.specs.Store.{StoreView, AreWithin, AreAllWithin}
use Rattle.propagate.proofs.Whole.{length-lits_of_each, lits_at-each}
use Rattle.analyze.specs.Table.{IsNameOf, KnowsArena, KnowsUnits, unit_of, tag_of_unit}
use Rattle.analyze.specs.Learnt.{IsAsserting, IsNew, IsLearntBy}
use Rattle.session.specs.declared.search.Search.{Search}
use Rattle.session.specs.Solver.{inputs_of, held_of, named_by, IsStep, known_clause, clauses_of}
use Rattle.session.specs.Stock.{IsStocked}
use Rattle.sat_base.proofs.InOrder.{in_order-itself}
use Rattle.session.specs.OnTrail.{IsOnTrail}
use Rattle.session.specs.Units.{IsNamed}
use Rattle.session.specs.Searching.{IsSearching, IsRoomy, IsCounted, IsHeldStep, packets_of}
use Rattle.session.specs.Searching.{solver_of, table_of}
use Rattle.session.specs.declared.conflicts.Lesson.{Lesson}
use Rattle.session.specs.Lessons.{IsLesson}
use Rattle.session.specs.Solving.{IsProperOver, LearnsOne}
use Rattle.session.proofs.Lists.{All-push}
use Rattle.trace_core.proofs.Items.{item_at-last}
use Rattle.session.proofs.UpTo.{below_greatest, greatest_within}
use Rattle.session.proofs.Stocked.{stock_learnt, inputs_beside}
use Rattle.session.proofs.Fronts.{level_at, IsFront, Ascends, front_of, up_to_is, up_to_twice}
use Rattle.session.proofs.Fronts.{entry_in}
use Rattle.session.proofs.OnTrails.{back_on_trail, more_on_trail, forced_on_trail}
use Rattle.session.proofs.Asserted.{IsOnce, open_below, forces, unassigned_above, false_at}
use Rattle.session.proofs.Watching.{watched_as, watched_back, watched_taught}
use Rattle.propagate.specs.Pairing.{IsReady}
use Rattle.analyze.specs.Graph.{IsOfLevel}
use Rattle.session.proofs.Searches.{name_of_clause, counted_beside}
use Rattle.session.specs.declared.search.Cursor.{Cursor}
use Rattle.session.specs.Cursors.{cursor_at}
use Rattle.session.specs.declared.order.Order.{Order}
use Rattle.session.specs.Orders.{IsOrderOf}
use Rattle.session.proofs.Orders.{order_more}
use Rattle.session.proofs.Steps.{pushed_steps}
use Rattle.session.proofs.Learning.{contains_none}

-- What the search knows, for a learnt clause and a refuted part.
pub knows_arena : (s : Search) → IsSearching s → KnowsArena (table_of s) s.store.clauses
knows_arena s kept id known = name_of_clause s id kept known

pub knows_units : (s : Search) → IsSearching s → 0 < s.trail.depth
    → KnowsUnits (table_of s) s.trail.entries s.units.items s.tags.items
knows_units s kept deep place lt zero = kept.named.known place (kept.all_named deep place lt zero)

-- a clause that is false under a trail is no tautology
pub false_proper : (trail : TrailView) (clause : List ℕ) → IsTrail trail
    → IsFalseClause (lits_of trail.entries) clause → IsTautology clause → ⊥
false_proper trail clause is all both =
    let a = All-contains (IsFalseLit (lits_of trail.entries)) clause both.lit all.each both.has in
    let b = All-contains (IsFalseLit (lits_of trail.entries)) clause
    (opposite both.lit) all.each both.has_opposite in
    is.consistent both.lit (subst (Contains (lits_of trail.entries))
    (opposite-opposite both.lit) b.stands) a.stands

-- a jump back
pub search_back : (s : Search) (trail : TrailView) (level : ℕ) (cursor : Cursor)
    (cursors : Vec Cursor Global) (order : Order) → IsSearching s → IsTrail trail
    → level < s.trail.depth
    → trail.entries ≡ up_to level s.trail.entries → trail.depth ≡ level → trail.vars ≡ s.trail.vars
    → trail.looked ≡ min s.trail.looked (length trail.entries)
    → cursor ≡ cursor_at s.cursors.items level → cursors.items ≡ take level s.cursors.items
    → (0 < level → s.store.fresh ≡ []) → IsOrderOf s.greatest trail order
    → IsSearching (record s {
      trail = trail;
      cursor = cursor;
      cursors = cursors;
      order = order;
    })
search_back s trail level cursor cursors order kept is deep entries_are depth_is vars_are looked_is cursor_is cursors_are none ordered =
    let (n, front) = front_of s.trail.entries level kept.trail.ascending in
    let taken : trail.entries ≡ take n s.trail.entries = entries_are
    ∙ up_to_is s.trail.entries level n front in
    let size : length trail.entries ≡ n = ap length taken
    ∙ length-take-le n s.trail.entries front.within in
    let all_in : (place : ℕ) → place < s.named → place < n = λ place lt. in_front n front place
    (omega (arith, lt, kept.named.within)) (kept.named.zero place lt) in
    let same : (place : ℕ) → place < n → entry_at trail.entries place
    ≡ entry_at s.trail.entries place = λ place lt. ap
    (λ (es : List Entry). entry_at es place) taken ∙ entry_in s.trail.entries n place lt in
    record {
      stock = kept.stock;
      room = subst (λ vars. IsRoomy s.greatest vars s.store s.scratch s.units.items s.tags.items)
          (sym vars_are) kept.room;
      counted = kept.counted;
      on = subst (λ (es : List Entry). IsOnTrail (lits_of_each s.store.clauses) es trail.depth)
          (sym entries_are)
          (subst (IsOnTrail (lits_of_each s.store.clauses) (up_to level s.trail.entries))
          (sym depth_is) (back_on_trail
          (lits_of_each s.store.clauses) s.trail.entries s.trail.depth level kept.trail.ascending (omega (arith, deep)) kept.on));
      named = record {
        within = omega (arith, size, within n front all_in);
        zero = λ place lt. ap (λ (e : Entry). e.level) (same place (all_in place lt))
            ∙ kept.named.zero place lt;
        known = λ place lt. subst (λ (e : Entry). IsNameOf (table_of s)
            (unit_of s.units.items (variable e.lit)) (e.lit ∷ [])
            (tag_of_unit s.tags.items (variable e.lit))) (sym (same place (all_in place lt)))
            (kept.named.known place lt);
      };
      trail = is;
      watched = watched_as refl refl entries_are depth_is
          (looked_is ∙ ap (λ (es : List Entry). min s.trail.looked (length es)) entries_are)
          (watched_back s.store.clauses s.store.fresh s.trail level kept.trail
          (omega (arith, deep)) none kept.watched);
      levels = ap length cursors_are
          ∙ length-take-le level s.cursors.items (omega (arith, deep, kept.levels)) ∙ sym depth_is;
      order = ordered;
      all_named = λ _ place lt zero. (let place_in : place < n = omega (arith, lt, size) in
          kept.all_named (omega (arith, deep)) place (omega (arith, place_in, front.within))
          (ap (λ (e : Entry). e.level) (sym (same place place_in)) ∙ zero));
    }
  where
    in_front : (n : ℕ) → IsFront s.trail.entries level n → (place : ℕ)
        → place < length s.trail.entries → level_at s.trail.entries place ≡ 0 → place < n
    in_front n front place lt zero = at (cases_lt place n)
      where
        at : (place < n) ⊎ (n ≤ place) → place < n
        at (inl yes_in) = yes_in
        at (inr beyond) = let h = front.high.each place beyond lt in absurd (omega (arith, h, zero))

    within : (n : ℕ) → IsFront s.trail.entries level n
        → ((place : ℕ) → place < s.named → place < n) → s.named ≤ n
    within n front all_in = at (cases_lt n s.named)
      where
        at : (n < s.named) ⊎ (s.named ≤ n) → s.named ≤ n
        at (inl less) = let h = all_in n less in absurd (omega (arith, h))
        at (inr enough) = enough

-- names stay where an entry comes behind the others
pub named_push : (table : Ref → Option Known) (entries entries' : List Entry) (units : List Ref)
    (tags : List ℕ) (n : ℕ) (entry : Entry) → entries' ≡ entries ++ entry ∷ []
    → IsNamed table entries units tags n → IsNamed table entries' units tags n
named_push table entries entries' units tags n entry are named =
    let same : (place : ℕ) → place < n → entry_at entries' place
    ≡ entry_at entries place = λ place lt. ap (λ (es : List Entry). entry_at es place) are
    ∙ get_or_append_left entries (entry ∷ []) no_entry place
    (omega (arith, lt, named.within)) in
    record {
      within = omega (arith, named.within, ap length are, length_push entries entry);
      zero = λ place lt. ap (λ (e : Entry). e.level) (same place lt) ∙ named.zero place lt;
      known = λ place lt. subst (λ (e : Entry). IsNameOf table (unit_of units (variable e.lit))
          (e.lit ∷ []) (tag_of_unit tags (variable e.lit))) (sym (same place lt))
          (named.known place lt);
    }

pub known_learnt : (step : Step) (number : ℕ) → IsTrue (is_ascending step.clause)
    → known_clause (record { lits = step.clause; tag = step.tag; origin = Own number })
    ≡ known_of step
known_learnt step number ascending = ap (λ lits. record { clause = lits; tag = step.tag })
    (in_order-itself step.clause ascending)

pub is_held : (held held' : List Known) (one : Known) → held' ≡ held ++ one ∷ []
    → Contains held' one
is_held held held' one is = subst (λ (xs : List Known). Contains xs one) (sym is)
    (Contains-append_right held (one ∷ []) one (Contains-here one []))

-- A learnt clause comes to be held, its step is listed, and its literal becomes true.
pub search_taught : (s : Search) (store : StoreView) (trail : TrailView) (learnt : Vec ℕ Global)
    (step : Step) (number id lit : ℕ) → IsSearching s
    → store.clauses ≡ s.store.clauses ++ record {
      lits = step.clause;
      tag = step.tag;
      origin = Own number;
    } ∷ [] → store.fresh ≡ s.store.fresh ++ length s.store.clauses ∷ []
    → store.vars ≡ s.store.vars → learnt.items ≡ s.learnt.items ++ number ∷ []
    → trail.entries ≡ s.trail.entries ++ record {
      lit = lit;
      level = s.trail.depth;
      reason = Some id;
    } ∷ [] → trail.depth ≡ s.trail.depth → trail.vars ≡ s.trail.vars
    → trail.looked ≡ s.trail.looked → IsTrail trail → id ≡ length s.store.clauses
    → IsStep s.steps number (known_of step) → IsLitSet step.clause
    → AreWithin s.greatest step.clause
    → ((level : ℕ) → level < s.trail.depth → IsOpenClause
    (lits_of (up_to level s.trail.entries)) step.clause)
    → HasOthersFalse (lits_of s.trail.entries) step.clause lit
    → IsReady s.trail.entries s.trail.depth step.clause
    → (0 < s.trail.depth → s.store.fresh ≡ [])
    → IsSearching (record s { store = store; trail = trail; learnt = learnt })
search_taught s store trail learnt step number id lit kept added fresh_is store_vars listed entries_are depth_is vars_are looked_is is_trail id_is is set within is_open others ready none = record {
  stock = subst (λ clauses. IsStocked clauses (packets_of s) s.steps s.bound) (sym added)
      (stock_learnt s.store.clauses
      (packets_of s) s.steps s.bound step number kept.stock is set.each set.ascending);
  room = record {
    over = subst (λ clauses. AreAllWithin s.greatest clauses) (sym added)
        (All-push (λ (clause : ArenaClause). AreWithin s.greatest clause.lits) s.store.clauses clause kept.room.over within);
    reserved = omega (arith, kept.room.reserved, vars_are);
    in_store = omega (arith, kept.room.in_store, vars_are, store_vars);
    in_scratch = omega (arith, kept.room.in_scratch, vars_are);
    in_units = omega (arith, kept.room.in_units, vars_are);
    in_tags = omega (arith, kept.room.in_tags, vars_are);
  };
  counted = subst (IsCounted store.clauses s.greatest s.inputs s.steps) (sym listed) (record {
    greatest_is = counted.greatest_is;
    inputs_are = counted.inputs_are;
    learnt_held = All-push (IsHeldStep s.steps (held_of store.clauses)) s.learnt.items number counted.learnt_held (
      known_of step,
      is,
      is_held (held_of s.store.clauses) (held_of store.clauses) (known_of step)
          (held ∙ ap (λ one. held_of s.store.clauses ++ one ∷ []) (known_learnt step number set.ascending)),
    );
  });
  on = subst (λ (es : List Entry). IsOnTrail (lits_of_each store.clauses) es trail.depth)
      (sym entries_are)
      (subst (IsOnTrail (lits_of_each store.clauses) (s.trail.entries ++ entry ∷ []))
      (sym depth_is) (forced_on_trail
      (lits_of_each store.clauses) s.trail.entries s.trail.depth entry on_added forced refl));
  named = subst (λ inputs. IsNamed (named_by inputs
      (packets_of s) s.steps) trail.entries s.units.items s.tags.items s.named)
      (sym inputs)
      (named_push (table_of s) s.trail.entries trail.entries s.units.items s.tags.items s.named entry entries_are kept.named);
  trail = is_trail;
  watched = watched_as added fresh_is entries_are depth_is looked_is
      (watched_taught s.store.clauses s.store.fresh s.trail.entries s.trail.depth s.trail.looked clause entry kept.trail.looked_at refl ready others.stands none kept.watched);
  levels = kept.levels ∙ sym depth_is;
  order = order_more s.greatest s.trail trail (entry ∷ []) s.order entries_are
      (omega (arith, vars_are)) kept.order;
  all_named = λ deep place lt zero. all_at deep place lt zero
      (cases_lt place (length s.trail.entries));
}
  where
    clause : ArenaClause
    clause = record { lits = step.clause; tag = step.tag; origin = Own number }

    entry : Entry
    entry = record { lit = lit; level = s.trail.depth; reason = Some id }

    inputs : inputs_of store.clauses ≡ inputs_of s.store.clauses
    inputs = ap inputs_of added ∙ inputs_beside s.store.clauses clause refl

    held : held_of store.clauses ≡ held_of s.store.clauses ++ known_clause clause ∷ []
    held = ap held_of added ∙ map_push known_clause s.store.clauses clause

    counted : IsCounted store.clauses s.greatest s.inputs s.steps s.learnt.items
    counted = counted_beside s.store.clauses store.clauses s.greatest s.inputs s.steps s.learnt.items
        (known_clause clause ∷ []) inputs held kept.counted

    on_added : IsOnTrail (lits_of_each store.clauses) s.trail.entries s.trail.depth
    on_added = subst (λ lits. IsOnTrail lits s.trail.entries s.trail.depth)
        (sym (ap lits_of_each added
        ∙ map_push (λ (clause : ArenaClause). clause.lits) s.store.clauses clause))
        (more_on_trail (lits_of_each s.store.clauses) step.clause s.trail.entries s.trail.depth is_open kept.on)

    forced : IsForced (lits_of_each store.clauses) s.trail.entries entry
    forced = record {
      id = id;
      reason = refl;
      known = omega (arith, id_is, ap length added, length_push s.store.clauses clause, length-lits_of_each store.clauses);
      rest = subst (λ (lits : List ℕ). HasOthersFalse (lits_of s.trail.entries) lits lit)
          (sym (lits_at-each store.clauses id
          (omega (arith, id_is, ap length added, length_push s.store.clauses clause))
          ∙ ap (λ (cs : List ArenaClause). (clause_at cs id).lits) added
          ∙ ap (λ (one : ArenaClause). one.lits) (get_or_push s.store.clauses clause no_clause id
          (sym id_is)))) others;
    }

    size : length trail.entries ≡ length s.trail.entries + 1
    size = ap length entries_are ∙ length_push s.trail.entries entry

    all_at : 0 < trail.depth → (place : ℕ) → place < length trail.entries
        → level_at trail.entries place ≡ 0 → (place < length s.trail.entries)
        ⊎ (length s.trail.entries ≤ place) → place < s.named
    all_at deep place lt zero (inl old) =
        kept.all_named (omega (arith, deep, depth_is)) place old
        (ap (λ (e : Entry). e.level) (sym (get_or_append_left s.trail.entries
        (entry ∷ []) no_entry place old)) ∙ ap (λ (es : List Entry). level_at es place)
        (sym entries_are) ∙ zero)
    all_at deep place lt zero (inr new) =
        let last : place ≡ length s.trail.entries = omega (arith, lt, new, size) in
        let here : level_at trail.entries place ≡ entry.level = ap
        (λ (es : List Entry). level_at es place) entries_are
        ∙ ap (λ (e : Entry). e.level) (get_or_push s.trail.entries entry no_entry place
        (sym last)) in
        absurd (omega (arith, here, zero, deep, depth_is))

pub search_unlisted : (s : Search) (learnt : Vec ℕ Global) → IsSearching s
    → learnt.items ≡ s.learnt.items → IsSearching (record s { learnt = learnt })
search_unlisted s learnt kept same = record {
  stock = kept.stock;
  room = kept.room;
  counted = subst (IsCounted s.store.clauses s.greatest s.inputs s.steps) (sym same) kept.counted;
  on = kept.on;
  named = kept.named;
  trail = kept.trail;
  watched = kept.watched;
  levels = kept.levels;
  order = kept.order;
  all_named = kept.all_named;
}

-- Variables of clauses.
-- the table without clauses of greater variables
small : ℕ → Option Known → Option Known
small bound None = None
small bound (Some one) = cond (nat_le (greatest_of one.clause) bound) (Some one) None

small_lits : (bound : ℕ) (found : Option Known) (lit : ℕ)
    → Contains (clause_of (small bound found)) lit → variable lit ≤ bound
unfolding small
small_lits bound None lit (k, lt, is) = absurd (omega (arith, lt))
small_lits bound (Some one) lit has = at (nat_le (greatest_of one.clause) bound) refl has
  where
    at : (b : Bool) → nat_le (greatest_of one.clause) bound ≡ b
        → Contains (clause_of (cond b (Some one) None)) lit → variable lit ≤ bound
    at true is h = let low = leb-true
        (greatest_of one.clause) bound is in let here = below_greatest one.clause lit h in omega
        (arith, low, here)
    at false is (k, lt, e) = absurd (omega (arith, lt))

small_name : (table : Ref → Option Known) (bound : ℕ) (name : Ref) (lits : List ℕ) (tag : ℕ)
    → IsNameOf table name lits tag → ((lit : ℕ) → Contains lits lit → variable lit ≤ bound)
    → IsNameOf (λ one. small bound (table one)) name lits tag
unfolding small
small_name table bound name lits tag is within = record {
  named = is.named;
  is = ap (small bound) is.is ∙ ap (λ b. cond b (Some is.named) None)
      (le-leb (greatest_of is.named.clause) bound
      (greatest_within is.named.clause bound (λ lit has. within lit ((is.members lit).0 has))));
  members = is.members;
  same_tag = is.same_tag;
}

-- a literal of level 0 is over the variables of the clauses
zero_within : (s : Search) (place : ℕ) → IsSearching s → place < length s.trail.entries
    → level_at s.trail.entries place ≡ 0 → variable
    (entry_at s.trail.entries place).lit ≤ s.greatest
zero_within s place kept lt zero =
    let forced = kept.on.zero.forced place lt zero in
    let known : forced.id < length s.store.clauses = omega
    (arith, forced.known, length-lits_of_each s.store.clauses) in
    All-contains (λ lit. variable lit ≤ s.greatest) (clause_at s.store.clauses forced.id).lits
    (entry_at s.trail.entries place).lit
    (All-get_or (λ (clause : ArenaClause). AreWithin s.greatest clause.lits) s.store.clauses forced.id no_clause known kept.room.over)
    (subst (λ (lits : List ℕ). Contains lits (entry_at s.trail.entries place).lit)
    (lits_at-each s.store.clauses forced.id known) forced.rest.stands)

pub learnt_within : (s : Search) (step : Step) (met : List ℕ) → IsSearching s → 0 < s.trail.depth
    → ((table : Ref → Option Known) → KnowsArena table s.store.clauses
    → KnowsUnits table s.trail.entries s.units.items s.tags.items
    → IsLearntBy table s.trail.entries step met)
    → AreWithin s.greatest step.clause
learnt_within s step met kept deep derived = All-from_members
    (λ lit. variable lit ≤ s.greatest) step.clause (λ lit has.
    let (clause, among, stands) = by_small.covered lit has in
    let (hint, hint_in, is) = Contains-from_map (λ hint. clause_of
    (table hint)) step.hints clause among in
    small_lits s.greatest (table_of s hint) lit (subst (λ (lits : List ℕ). Contains lits lit)
    (sym is) stands))
  where
    table : Ref → Option Known
    table name = small s.greatest (table_of s name)

    by_small : IsLearntBy table s.trail.entries step met
    by_small = derived table
        (λ id known. small_name (table_of s) s.greatest (clause_at s.store.clauses id).origin
        (clause_at s.store.clauses id).lits (clause_at s.store.clauses id).tag
        (knows_arena s kept id known)
        (λ lit has. All-contains (λ x. variable x ≤ s.greatest)
        (clause_at s.store.clauses id).lits lit (All-get_or
        (λ (clause : ArenaClause). AreWithin s.greatest clause.lits) s.store.clauses id no_clause known kept.room.over) has))
        (λ place lt zero. small_name (table_of s) s.greatest
        (unit_of s.units.items (variable (entry_at s.trail.entries place).lit))
        ((entry_at s.trail.entries place).lit ∷ [])
        (tag_of_unit s.tags.items (variable (entry_at s.trail.entries place).lit))
        (knows_units s kept deep place lt zero)
        (λ lit has. (elim (Contains-cases (entry_at s.trail.entries place).lit lit [] has) [
          | inl same ↦ subst (λ x. variable x ≤ s.greatest) same (zero_within s place kept lt zero)
          | inr (k, k_lt, is) ↦ absurd (omega (arith, k_lt))
        ])))

-- all of what a conflict teaches
pub lesson_from : (s : Search) (lesson : Lesson) (met : List ℕ) → IsSearching s → 0 < s.trail.depth
    → lesson.step.clause ≡ lesson.clause
    → IsFalseClause (lits_of s.trail.entries) lesson.clause
    → IsAsserting s.trail.entries s.trail.depth lesson.back lesson.clause
    → IsNew s.store.clauses lesson.clause
    → ((table : Ref → Option Known) → KnowsArena table s.store.clauses
    → KnowsUnits table s.trail.entries s.units.items s.tags.items
    → IsLearntBy table s.trail.entries lesson.step met) → IsLesson s lesson
lesson_from s lesson met kept deep of refuted asserting fresh derived = record {
  ok = (derived (table_of s) (knows_arena s kept) (knows_units s kept deep)).ok;
  of = of;
  refuted = refuted;
  asserting = asserting;
  fresh = fresh;
  proper = false_proper s.trail lesson.clause kept.trail refuted;
  within = subst (λ clause. AreWithin s.greatest clause) of
      (learnt_within s lesson.step met kept deep derived);
}

-- the literal that is unassigned where the trail went back to is forced
pub learnt_forces : (entries : List Entry) (depth back : ℕ) (clause : List ℕ) (lit : ℕ)
    → Ascends entries → IsOnce entries → IsAsserting entries depth back clause
    → IsFalseClause (lits_of entries) clause → Contains clause lit
    → IsUnassigned (lits_of (up_to back entries)) lit
    → HasOthersFalse (lits_of (up_to back entries)) clause lit
learnt_forces entries depth back clause lit up once asserting all_false has free = at
    (cases_eq lit asserting.lit)
  where
    others : HasOthersFalse (lits_of (up_to back entries)) clause asserting.lit
    others = forces entries depth back clause up once asserting all_false

    at : (lit ≡ asserting.lit) ⊎ (lit ≡ asserting.lit → ⊥)
        → HasOthersFalse (lits_of (up_to back entries)) clause lit
    at (inl same) = subst (HasOthersFalse (lits_of (up_to back entries)) clause) (sym same) others
    at (inr differs) = absurd (free.not_false (others.others lit has differs))

pub held_last : (clauses clauses' : List ArenaClause) (step : Step) (number : ℕ)
    → clauses' ≡ clauses ++ record { lits = step.clause; tag = step.tag; origin = Own number } ∷ []
    → IsTrue (is_ascending step.clause) → held_of clauses' ≡ held_of clauses ++ known_of step ∷ []
held_last clauses clauses' step number added ascending =
    ap held_of added ∙ map_push known_clause clauses
    (record { lits = step.clause; tag = step.tag; origin = Own number })
    ∙ ap (λ one. held_of clauses ++ one ∷ []) (known_learnt step number ascending)

-- a lesson's clause is open below the level to which the trail went back
pub lesson_open : (s : Search) (lesson : Lesson) (trail : TrailView) → IsTrail s.trail
    → IsLesson s lesson → trail.entries ≡ up_to lesson.back s.trail.entries
    → trail.depth ≡ lesson.back
    → (level : ℕ) → level < trail.depth → IsOpenClause
    (lits_of (up_to level trail.entries)) lesson.clause
lesson_open s lesson trail is l entries_are depth_is level lt =
    subst (λ (es : List Entry). IsOpenClause (lits_of es) lesson.clause)
    (sym (ap (up_to level) entries_are
    ∙ up_to_twice s.trail.entries level lesson.back is.ascending (omega (arith, lt, depth_is))))
    (open_below s.trail.entries s.trail.depth lesson.back level lesson.clause is.ascending is.once l.asserting (omega (arith, lt, depth_is)))

-- its literal is forced
pub lesson_forces : (s : Search) (lesson : Lesson) (trail : TrailView) (lit : ℕ) → IsTrail s.trail
    → IsLesson s lesson → trail.entries ≡ up_to lesson.back s.trail.entries
    → Contains lesson.clause lit → IsUnassigned (lits_of trail.entries) lit
    → HasOthersFalse (lits_of trail.entries) lesson.clause lit
lesson_forces s lesson trail lit is l entries_are has free =
    subst (λ (es : List Entry). HasOthersFalse (lits_of es) lesson.clause lit) (sym entries_are)
    (learnt_forces s.trail.entries s.trail.depth lesson.back lesson.clause lit is.ascending is.once l.asserting l.refuted has (subst (λ (es : List Entry). IsUnassigned (lits_of es) lit) entries_are free))

-- it is ready to be watched
pub lesson_ready : (s : Search) (lesson : Lesson) (trail : TrailView) → IsTrail s.trail
    → IsLesson s lesson → trail.entries ≡ up_to lesson.back s.trail.entries
    → trail.depth ≡ lesson.back → IsReady trail.entries trail.depth lesson.clause
lesson_ready s lesson trail is l entries_are depth_is =
    subst (λ (es : List Entry). IsReady es trail.depth lesson.clause) (sym entries_are)
    (subst (λ n. IsReady (up_to lesson.back s.trail.entries) n lesson.clause) (sym depth_is)
    (at l.asserting.reached))
  where
    at : (lesson.back ≡ 0) ⊎ ((other : ℕ) × Contains lesson.clause other
        × IsOfLevel s.trail.entries other lesson.back)
        → IsReady (up_to lesson.back s.trail.entries) lesson.back lesson.clause
    at (inl none) = inr (inr none)
    at (inr (other, stands, of)) = inr (inl (false_at s.trail.entries lesson.clause other lesson.back is.ascending is.once stands of
        (All-contains (IsFalseLit (lits_of s.trail.entries)) lesson.clause other l.refuted.each stands)))

-- one of its literals is unassigned
pub lesson_free : (s : Search) (lesson : Lesson) (trail : TrailView) → IsTrail s.trail
    → IsLesson s lesson → trail.entries ≡ up_to lesson.back s.trail.entries
    → ((lit : ℕ) → Contains lesson.clause lit → IsUnassigned (lits_of trail.entries) lit → ⊥) → ⊥
lesson_free s lesson trail is l entries_are none =
    none l.asserting.lit l.asserting.stands
    (subst (λ (es : List Entry). IsUnassigned (lits_of es) l.asserting.lit) (sym entries_are)
    (unassigned_above s.trail.entries l.asserting.lit lesson.back s.trail.depth is.ascending is.once l.asserting.present l.asserting.below))

pub learnt_one : (old s : Search) (l : Lesson) (number : ℕ) → IsSearching old → IsLesson old l
    → IsLitSet l.clause → s.steps ≡ old.steps ++ l.step ∷ []
    → number ≡ length s.steps → s.learnt.items ≡ old.learnt.items ++ number ∷ []
    → s.store.clauses ≡ old.store.clauses ++ record {
      lits = l.clause;
      tag = l.step.tag;
      origin = Own number;
    } ∷ [] → s.bound ≡ old.bound → packets_of s ≡ packets_of old
    → LearnsOne (solver_of old) (solver_of s)
learnt_one old s l number kept lesson set pushed last listed added bound packets = record {
  one = known_of l.step;
  learns = record {
    inputs = ap inputs_of added ∙ inputs_beside old.store.clauses
        (record { lits = l.clause; tag = l.step.tag; origin = Own number }) refl;
    bound = bound;
    packets = packets;
    held = held_last old.store.clauses s.store.clauses l.step number
        (added ∙ ap (λ lits. old.store.clauses ++ record {
          lits = lits;
          tag = l.step.tag;
          origin = Own number;
        } ∷ []) (sym lesson.of))
        (subst (λ lits. IsTrue (is_ascending lits)) (sym lesson.of) set.ascending);
    names = number ∷ [];
    learnt = listed;
    named = (step_is, tt);
    steps = pushed_steps old.steps s.steps l.step number pushed last;
    fresh = (
      contains_none old.store.clauses l.step
          (subst (IsNew old.store.clauses) (sym lesson.of) lesson.fresh),
      tt,
    );
    proper = All-cons (IsProperOver (inputs_of old.store.clauses)) (known_of l.step) []
        (proper, within) (All-nil (IsProperOver (inputs_of old.store.clauses)));
  };
}
  where
    step_is : IsStep s.steps number (known_of l.step)
    step_is = subst (λ (steps : List Step). IsStep steps number (known_of l.step)) (sym pushed)
        (subst (λ knowns. item_at knowns number ≡ Some (known_of l.step))
        (sym (map_push known_of old.steps l.step))
        (item_at-last (map known_of old.steps) (known_of l.step) number
        (omega (arith, last, ap length pushed, length_push old.steps l.step, length-map old.steps known_of))))

    proper : IsTautology l.step.clause → ⊥
    proper = subst (λ lits. IsTautology lits → ⊥) (sym lesson.of) lesson.proper

    within : greatest_of l.step.clause ≤ greatest_of_all (clauses_of (inputs_of old.store.clauses))
    within =
        let low : greatest_of l.step.clause ≤ old.greatest = subst
        (λ lits. greatest_of lits ≤ old.greatest) (sym lesson.of)
        (greatest_within l.clause old.greatest (λ lit has. All-contains
        (λ x. variable x ≤ old.greatest) l.clause lit lesson.within has)) in
        omega (arith, low, kept.counted.greatest_is)

-- the lesson is learnt, call after call
pub lesson_learnt : (old p b h : Search) (l : Lesson) (number : ℕ) → IsSearching old
    → IsLesson old l → IsLitSet l.clause
    → p ≡ record old { steps = p.steps } → p.steps ≡ old.steps ++ l.step ∷ []
    → number ≡ length p.steps
    → b ≡ record p {
      trail = b.trail;
      cursor = b.cursor;
      cursors = b.cursors;
      order = b.order;
    }
    → h ≡ record b { store = h.store; trail = h.trail; learnt = h.learnt }
    → h.store.clauses ≡ b.store.clauses ++ record {
      lits = l.clause;
      tag = l.step.tag;
      origin = Own number;
    } ∷ [] → h.learnt.items ≡ b.learnt.items ++ number ∷ []
    → LearnsOne (solver_of old) (solver_of h)
lesson_learnt old p b h l number kept lesson set stepped pushed last back held added listed =
    learnt_one old h l number kept lesson set
    (ap (λ (x : Search). x.steps) held ∙ ap (λ (x : Search). x.steps) back ∙ pushed)
    (last ∙ ap (λ (x : Search). length x.steps) (sym back)
    ∙ ap (λ (x : Search). length x.steps) (sym held))
    (listed ∙ ap (λ (x : Search). x.learnt.items ++ number ∷ [])
    (back ∙ ap (λ (x : Search). record x {
      trail = b.trail;
      cursor = b.cursor;
      cursors = b.cursors;
      order = b.order;
    }) stepped))
    (added ∙ ap (λ (x : Search). x.store.clauses
    ++ record { lits = l.clause; tag = l.step.tag; origin = Own number } ∷ [])
    (back ∙ ap (λ (x : Search). record x {
      trail = b.trail;
      cursor = b.cursor;
      cursors = b.cursors;
      order = b.order;
    }) stepped))
    (ap (λ (x : Search). x.bound) held ∙ ap (λ (x : Search). x.bound) back
    ∙ ap (λ (x : Search). x.bound) stepped)
    (ap packets_of held ∙ ap packets_of back ∙ ap packets_of stepped)
