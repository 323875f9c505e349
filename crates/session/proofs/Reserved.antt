-- A search for which variables are reserved, and that takes an input.
use Rattle.std.proofs.Common.{◌≡◌, ◌∙◌, ℕ, ◌+◌, ◌-◌, ◌<◌, ◌≤◌, List, [], ◌∷◌, ◌++◌, length, map}
use Rattle.std.proofs.Common.{filter, take, max, Option, None, Some, Bool, true, false, refl, ap, sym}
use Rattle.std.proofs.Common.{subst, arith, get_or, Vec, Global}
use Rattle.std.specs.Prelude.{All, Contains, ◌==◌, cond, slice_get, option_map, option_and_then}
use Rattle.std.specs.Arc.{arc_value}
use Rattle.std.proofs.lemmas.Option.{none-some}
use Rattle.std.proofs.lemmas.List.{take_all, take_more, get_or-take, length-take, map_push}
use Rattle.std.proofs.lemmas.List.{length_push, append-nil}
use Rattle.std.proofs.lemmas.List.Elements.{filter-append}
use Rattle.sat_base.specs.Lit.{IsLitSet, variable, greatest_of, greatest_of_all}
use Rattle.sat_base.specs.declared.origins.Ref.{Ref}
use Rattle.sat_base.specs.declared.origins.Ref.TheVariants.{Input}
use Rattle.sat_base.proofs.Members.{All-from_members}
use Rattle.trace_core.specs.Known.{Known}
use Rattle.clause_arena.specs.Arena.{ArenaClause, lits_of_each}
use Rattle.trail_core.specs.Trail.{Entry, TrailView, IsTrail, entry_at, no_entry, lits_of}
use Rattle.propagate.specs.Store.{StoreView, AreWithin, AreAllWithin}
use Rattle.analyze.specs.Table.{IsNameOf, unit_of, tag_of_unit}
use Rattle.session.specs.declared.search.Search.{Search}
use Rattle.session.specs.Solver.{inputs_of, held_of, packet_at, last_step_of, named_by}
use Rattle.session.specs.Solver.{known_clause, clauses_of, is_input}
use Rattle.session.specs.Stock.{IsStocked}
use Rattle.session.specs.OnTrail.{IsOnTrail}
use Rattle.session.specs.Units.{IsNamed}
use Rattle.session.specs.Searching.{IsSearching, IsCounted, IsHeldStep, packets_of, table_of}
use Rattle.trace_core.specs.declared.derivation.Step.{Step}
use Rattle.session.proofs.Lists.{All-push, All-under}
use Rattle.sat_base.proofs.InOrder.{in_order-itself}
use Rattle.session.proofs.Stocked.{stock_input, named_with_input}
use Rattle.session.proofs.Reasons.{named_stays}
use Rattle.session.proofs.OnTrails.{more_on_trail}
use Rattle.session.specs.Orders.{IsOrder, OffersFree}
use Rattle.session.proofs.Orders.{order_more}
use Rattle.session.proofs.Watching.{watched_as, watched_added, watched_none}
use Rattle.session.proofs.Searches.{learnt_beside}
use Rattle.session.proofs.UpTo.{below_greatest}

-- the greatest variable, literal by literal
greatest_push : (lits : List ℕ) (lit : ℕ) → greatest_of (lits ++ lit ∷ [])
    ≡ max (greatest_of lits) (variable lit)
greatest_push [] lit = omega arith
greatest_push (x ∷ lits) lit = ap (max (variable x)) (greatest_push lits lit)
    ∙ (let e : max (variable x) (max (greatest_of lits) (variable lit))
    ≡ max (max (variable x) (greatest_of lits)) (variable lit) = omega arith in e)

pub greatest_more : (lits : List ℕ) (i lit so_far now : ℕ) → i < length lits
    → lit ≡ get_or lits i lit → so_far ≡ greatest_of (take i lits)
    → now ≡ max so_far (variable lit) → now ≡ greatest_of (take (i + 1) lits)
greatest_more lits i lit so_far now lt is before step =
    step ∙ ap (λ n. max n (variable lit)) before ∙ sym (greatest_push (take i lits) lit)
    ∙ sym (ap greatest_of (take_more lits i lit lt ∙ ap (λ x. take i lits ++ x ∷ []) (sym is)))

pub greatest_whole : (lits : List ℕ) (i so_far : ℕ) → length lits ≤ i
    → so_far ≡ greatest_of (take i lits) → so_far ≡ greatest_of lits
greatest_whole lits i so_far le is = is ∙ ap greatest_of (take_all i lits le)

pub greatest_all_push : (clauses : List (List ℕ)) (clause : List ℕ)
    → greatest_of_all (clauses ++ clause ∷ []) ≡ max (greatest_of_all clauses) (greatest_of clause)
greatest_all_push [] clause = omega arith
greatest_all_push (x ∷ clauses) clause = ap (max (greatest_of x))
    (greatest_all_push clauses clause) ∙ (let e : max (greatest_of x)
    (max (greatest_of_all clauses) (greatest_of clause))
    ≡ max (max (greatest_of x) (greatest_of_all clauses)) (greatest_of clause) = omega arith in e)

-- longer lists of units
pub longer : {X : Type 0} (old new : List X) → take (length old) new ≡ old → length old ≤ length new
longer old new front = (let size = ap length front in omega
    (arith, size, length-take (length old) new))

same_item : {X : Type 0} (old new : List X) (i : ℕ) (d : X) → take (length old) new ≡ old
    → i < length old → get_or new i d ≡ get_or old i d
same_item old new i d front lt = sym (get_or-take (length old) new i d lt)
    ∙ ap (λ xs. get_or xs i d) front

pub search_reserved : (s : Search) (store : StoreView) (scratch : ℕ) (units : Vec Ref Global)
    (tags : Vec ℕ Global) (trail : TrailView) → IsSearching s → IsTrail trail
    → store.clauses ≡ s.store.clauses → store.fresh ≡ s.store.fresh
    → trail.entries ≡ s.trail.entries → trail.depth ≡ s.trail.depth
    → trail.looked ≡ s.trail.looked → s.trail.vars ≤ trail.vars
    → trail.vars ≤ store.vars → trail.vars ≤ scratch → trail.vars ≤ length units.items
    → trail.vars ≤ length tags.items
    → take (length s.units.items) units.items ≡ s.units.items
    → take (length s.tags.items) tags.items ≡ s.tags.items
    → IsSearching (record s {
      store = store;
      scratch = scratch;
      units = units;
      tags = tags;
      trail = trail;
    })
search_reserved s store scratch units tags trail kept is clauses fresh entries depth looked more in_store in_scratch in_units in_tags units_front tags_front = record {
  stock = subst (λ cs. IsStocked cs (packets_of s) s.steps s.bound) (sym clauses) kept.stock;
  room = record {
    over = subst (λ cs. AreAllWithin s.greatest cs) (sym clauses) kept.room.over;
    reserved = omega (arith, kept.room.reserved, more);
    in_store = in_store;
    in_scratch = in_scratch;
    in_units = in_units;
    in_tags = in_tags;
  };
  counted = subst (λ cs. IsCounted cs s.greatest s.inputs s.steps s.learnt.items) (sym clauses) kept.counted;
  on = subst (λ cs. IsOnTrail (lits_of_each cs) trail.entries trail.depth) (sym clauses)
      (subst (λ (es : List Entry). IsOnTrail (lits_of_each s.store.clauses) es trail.depth)
      (sym entries) (subst (IsOnTrail (lits_of_each s.store.clauses) s.trail.entries)
      (sym depth) kept.on));
  named = subst (λ cs. IsNamed (named_by (inputs_of cs)
      (packets_of s) s.steps) trail.entries units.items tags.items s.named) (sym clauses)
      (subst (λ (es : List Entry). IsNamed (table_of s) es units.items tags.items s.named) (sym entries) (record {
        within = kept.named.within;
        zero = kept.named.zero;
        known = λ place lt. known_at place lt;
      }));
  trail = is;
  watched = watched_as clauses fresh entries depth looked kept.watched;
  levels = kept.levels ∙ sym depth;
  order = order_more s.greatest s.trail trail [] s.order
      (entries ∙ sym (append-nil s.trail.entries)) more kept.order;
  all_named = λ deep place lt bottom. kept.all_named (omega (arith, deep, depth)) place
      (omega (arith, lt, ap length entries)) (ap (λ (es : List Entry). (entry_at es place).level)
      (sym entries) ∙ bottom);
}
  where
    known_at : (place : ℕ) → place < s.named → IsNameOf (table_of s)
        (unit_of units.items (variable (entry_at s.trail.entries place).lit))
        ((entry_at s.trail.entries place).lit ∷ [])
        (tag_of_unit tags.items (variable (entry_at s.trail.entries place).lit))
    known_at place lt =
        let var : ℕ = variable (entry_at s.trail.entries place).lit in
        let r = kept.trail.reserved place no_entry (omega (arith, lt, kept.named.within)) in
        subst (λ name. IsNameOf (table_of s) name ((entry_at s.trail.entries place).lit ∷ [])
        (tag_of_unit tags.items var)) (sym (same_item s.units.items units.items (var - 1)
        (Input 0) units_front (omega (arith, r.0, r.1, kept.room.in_units))))
        (subst (λ tag. IsNameOf (table_of s) (unit_of s.units.items var)
        ((entry_at s.trail.entries place).lit ∷ []) tag)
        (sym (same_item s.tags.items tags.items (var - 1) 0 tags_front
        (omega (arith, r.0, r.1, kept.room.in_tags)))) (kept.named.known place lt))

pub inputs_more : (clauses clauses' : List ArenaClause) (clause : List ℕ) (tag number : ℕ)
    → IsLitSet clause → clauses' ≡ clauses ++ record {
      lits = clause;
      tag = tag;
      origin = Input number;
    } ∷ [] → inputs_of clauses' ≡ inputs_of clauses
    ++ record { clause = clause; tag = tag } ∷ []
inputs_more clauses clauses' clause tag number set added =
    let input : ArenaClause = record { lits = clause; tag = tag; origin = Input number } in
    ap inputs_of added
    ∙ ap (map known_clause) (filter-append (λ (c : ArenaClause). is_input c.origin) clauses
    (input ∷ []))
    ∙ map_push known_clause (filter (λ (c : ArenaClause). is_input c.origin) clauses) input
    ∙ ap (λ lits. inputs_of clauses ++ record { clause = lits; tag = tag } ∷ [])
    (in_order-itself clause set.ascending)

-- an input comes to a search at level 0
pub search_input : (s : Search) (clause : List ℕ) (store : StoreView)
    (tag number greatest most : ℕ) → IsSearching s → s.trail.depth ≡ 0 → IsLitSet clause
    → s.bound ≤ tag → number ≡ s.inputs + 1 → greatest ≡ greatest_of clause
    → most ≡ max s.greatest greatest → greatest ≤ s.order.vars
    → store.clauses ≡ s.store.clauses ++ record {
      lits = clause;
      tag = tag;
      origin = Input number;
    } ∷ [] → store.fresh ≡ s.store.fresh ++ length s.store.clauses ∷ []
    → store.vars ≡ s.store.vars
    → IsSearching (record s { store = store; greatest = most; inputs = number; bound = tag })
search_input s clause store tag number greatest most kept zero set le last greatest_is most_is within added fresh_is vars_are = record {
  stock = subst (λ cs. IsStocked cs (packets_of s) s.steps tag) (sym added)
      (stock_input s.store.clauses
      (packets_of s) s.steps s.bound tag number clause kept.stock le
      (omega (arith, last, kept.counted.inputs_are)) set.each set.ascending);
  room = record {
    over = subst (λ cs. AreAllWithin most cs) (sym added)
        (All-push (λ (one : ArenaClause). AreWithin most one.lits) s.store.clauses input
        (All-under (λ (one : ArenaClause). AreWithin s.greatest one.lits)
        (λ one. AreWithin most one.lits) s.store.clauses
        (λ one low. All-under (λ lit. variable lit ≤ s.greatest)
        (λ lit. variable lit ≤ most) one.lits (λ lit h. omega
        (arith, h, most_is)) low) kept.room.over)
        (All-from_members (λ lit. variable lit ≤ most) clause
        (λ lit has. (let h = below_greatest clause lit has in omega
        (arith, h, most_is, greatest_is)))));
    reserved = omega (arith, kept.room.reserved, within, most_is, kept.order.reserved);
    in_store = omega (arith, kept.room.in_store, vars_are);
    in_scratch = kept.room.in_scratch;
    in_units = kept.room.in_units;
    in_tags = kept.room.in_tags;
  };
  counted = record {
    greatest_is = most_is ∙ ap (λ n. max n greatest) kept.counted.greatest_is
        ∙ ap (max (greatest_of_all (clauses_of (inputs_of s.store.clauses)))) greatest_is
        ∙ sym (ap (λ xs. greatest_of_all (clauses_of xs)) inputs
        ∙ ap greatest_of_all (map_push (λ (one : Known). one.clause)
        (inputs_of s.store.clauses) one) ∙ greatest_all_push
        (clauses_of (inputs_of s.store.clauses)) clause);
    inputs_are = last ∙ ap (λ n. n + 1) kept.counted.inputs_are
        ∙ sym (ap length inputs ∙ length_push (inputs_of s.store.clauses) one);
    learnt_held = learnt_beside s.store.clauses store.clauses s.steps s.learnt.items (one ∷ []) held kept.counted.learnt_held;
  };
  on = subst (λ lits. IsOnTrail lits s.trail.entries s.trail.depth)
      (sym (ap lits_of_each added ∙ map_push (λ (c : ArenaClause). c.lits) s.store.clauses input))
      (more_on_trail (lits_of_each s.store.clauses) clause s.trail.entries s.trail.depth
      (λ level lt. absurd (omega (arith, lt, zero))) kept.on);
  named = subst (λ xs. IsNamed
      (named_by xs (packets_of s) s.steps) s.trail.entries s.units.items s.tags.items s.named) (sym inputs)
      (named_stays (table_of s) (named_by (inputs_of s.store.clauses ++ one ∷ [])
      (packets_of s) s.steps) s.trail.entries s.units.items s.tags.items s.named
      (λ name known is. named_with_input (inputs_of s.store.clauses) one
      (packets_of s) s.steps name known is) kept.named);
  trail = kept.trail;
  watched = watched_as added fresh_is refl refl refl
      (watched_added s.store.clauses s.store.fresh s.trail.entries s.trail.depth s.trail.looked input zero kept.watched);
  levels = kept.levels;
  order = record {
    is = kept.order.is;
    has_inputs = omega (arith, kept.order.has_inputs, within, most_is);
    reserved = kept.order.reserved;
    offers = kept.order.offers;
  };
  all_named = λ deep. absurd (omega (arith, deep, zero));
}
  where
    input : ArenaClause
    input = record { lits = clause; tag = tag; origin = Input number }

    one : Known
    one = record { clause = clause; tag = tag }

    known_is : known_clause input ≡ one
    known_is = ap (λ lits. record { clause = lits; tag = tag })
        (in_order-itself clause set.ascending)

    inputs : inputs_of store.clauses ≡ inputs_of s.store.clauses ++ one ∷ []
    inputs = inputs_more s.store.clauses store.clauses clause tag number set added

    held : held_of store.clauses ≡ held_of s.store.clauses ++ one ∷ []
    held = ap held_of added ∙ map_push known_clause s.store.clauses input
        ∙ ap (λ x. held_of s.store.clauses ++ x ∷ []) known_is

-- without places none is known
none_known : (packets : List (Option (List Step))) (place number : ℕ) (one : Known) → packets ≡ []
    → last_step_of (packet_at packets place) number ≡ Some one → ⊥
none_known packets place number one none is = at (place == 0)
    (subst (λ (xs : List (Option (List Step))). last_step_of (packet_at xs place) number
    ≡ Some one) none is)
  where
    at : (b : Bool) → last_step_of (option_and_then (λ packet. packet)
        (cond b None (slice_get [] (place - 1)))) number ≡ Some one → ⊥
    at true is = none-some one is
    at false is = none-some one is

-- a search without inputs
pub new_search : (s : Search) → s.store.clauses ≡ [] → s.store.fresh ≡ []
    → s.trail.entries ≡ [] → s.trail.depth ≡ 0 → s.trail.looked ≡ 0 → s.trail.vars ≡ 0 → s.packets ≡ [] → s.steps ≡ [] → s.learnt.items ≡ []
    → s.named ≡ 0 → s.cursors.items ≡ [] → s.greatest ≡ 0 → s.inputs ≡ 0 → IsOrder s.order
    → s.order.vars ≡ 0 → OffersFree s.trail.entries s.order.ranking → IsSearching s
new_search s clauses fresh entries depth looked vars packets steps learnt named cursors greatest inputs order ordered offers = record {
  stock = subst (λ cs. IsStocked cs (packets_of s) s.steps s.bound) (sym clauses) (subst (λ xs. IsStocked [] (packets_of s) xs s.bound) (sym steps) (record {
    lits = λ i d lt. absurd (omega (arith, lt));
    named = λ i d lt. absurd (omega (arith, lt));
    entailed = λ i d lt. absurd (omega (arith, lt));
    bounded = λ i d lt. absurd (omega (arith, lt));
    within = λ i d lt. absurd (omega (arith, lt));
    packets_held = λ place number one is. absurd
        (none_known (packets_of s) place number one (ap (map (option_map arc_value)) packets) is);
    ok = tt;
    steps_entailed = λ i d lt. absurd (omega (arith, lt));
    steps_within = λ i d lt. absurd (omega (arith, lt));
    steps_bounded = λ i d lt. absurd (omega (arith, lt));
  }));
  room = record {
    over = subst (λ cs. AreAllWithin s.greatest cs) (sym clauses)
        (λ i d lt. absurd (omega (arith, lt)));
    reserved = omega (arith, vars, greatest);
    in_store = omega (arith, vars);
    in_scratch = omega (arith, vars);
    in_units = omega (arith, vars);
    in_tags = omega (arith, vars);
  };
  counted = record {
    greatest_is = greatest ∙ sym (ap (λ cs. greatest_of_all (clauses_of (inputs_of cs))) clauses);
    inputs_are = inputs ∙ sym (ap (λ cs. length (inputs_of cs)) clauses);
    learnt_held = subst (All (IsHeldStep s.steps (held_of s.store.clauses))) (sym learnt)
        (λ i d lt. absurd (omega (arith, lt)));
  };
  on = record {
    founded = record {
      begun = λ level pos le. absurd (omega (arith, pos, le, depth));
      first = λ place lt. absurd (none place lt);
      other = λ place k lt. absurd (none place lt);
    };
    zero = record { forced = λ place lt. absurd (none place lt) };
    below = record { each = λ level lt. absurd (omega (arith, lt, depth)) };
  };
  named = record {
    within = omega (arith, named);
    zero = λ place lt. absurd (omega (arith, lt, named));
    known = λ place lt. absurd (omega (arith, lt, named));
  };
  trail = record {
    once = λ var i j at_i at_j. absurd (none i at_i.within);
    consistent = λ lit has. absurd (nothing lit has);
    ascending = λ i j le lt. absurd (none j lt);
    below = λ i d lt. absurd (none i lt);
    reserved = λ i d lt. absurd (none i lt);
    few = omega (arith, ap length entries, vars);
    looked_at = omega (arith, looked);
    shallow = omega (arith, depth, vars);
  };
  watched = watched_as clauses fresh refl refl refl (watched_none s.trail.entries s.trail.depth s.trail.looked depth
      (omega (arith, looked, ap length entries)));
  levels = omega (arith, ap length cursors, depth);
  order = record {
    is = order;
    has_inputs = omega (arith, greatest);
    reserved = omega (arith, ordered);
    offers = offers;
  };
  all_named = λ deep. absurd (omega (arith, deep, depth));
}
  where
    none : (place : ℕ) → place < length s.trail.entries → ⊥
    none place lt = omega (arith, lt, ap length entries)

    nothing : (lit : ℕ) → Contains (lits_of s.trail.entries) lit → ⊥
    nothing lit has = let (k, lt, e) = subst (λ (es : List Entry). Contains
        (lits_of es) lit) entries has in omega (arith, lt)
