-- A search after propagation.
use Rattle.std.proofs.Common.{◌≡◌, ◌∙◌, ℕ, ◌<◌, ◌≤◌, List, [], ◌∷◌, ◌++◌, length, ap, sym, subst}
use Rattle.std.proofs.Common.{inl, inr, arith}
use Rattle.std.specs.Prelude.{◌⊎◌, All, Contains}
use Rattle.std.proofs.lemmas.Bool.{cases_lt}
use Rattle.std.proofs.lemmas.List.{append-nil, append_assoc}
use Rattle.std.proofs.lemmas.List.Elements.{All-get_or, All-from_get_or, All-contains}
use Rattle.sat_base.specs.Lit.{variable, greatest_of_all}
use Rattle.sat_base.proofs.Members.{All-from_members}
use Rattle.clause_arena.specs.Arena.{ArenaClause, clause_at, no_clause, lits_of_each}
use Rattle.trail_core.specs.Trail.{Entry, TrailView, IsTrail, entry_at}
use Rattle.trail_core.specs.UnderTrail.{IsFounded, HasGrown}
use Rattle.propagate.specs.Store.{StoreView, AreWithin, AreAllWithin, HasSameClauses}
use Rattle.analyze.specs.Table.{IsNameOf, unit_of, tag_of_unit}
use Rattle.session.specs.declared.search.Search.{Search}
use Rattle.session.specs.Solver.{inputs_of, named_by, clauses_of}
use Rattle.session.specs.OnTrail.{IsOnTrail}
use Rattle.session.specs.Units.{IsNamed}
use Rattle.session.specs.Searching.{IsSearching, IsHeldStep, packets_of, AreAllNamed, table_of}
use Rattle.session.specs.Fronts.{IsFront}
use Rattle.session.proofs.SameClauses.{AreOneByOne, one_by_one, inputs_same, held_same, stock_same}
use Rattle.session.proofs.OnTrails.{propagated_on_trail}
use Rattle.propagate.specs.Pairing.{IsPaired, AreReady, ArePendingAt}
use Rattle.session.proofs.Orders.{order_grown}
use Rattle.session.proofs.Watching.{watched_propagated}
use Rattle.session.proofs.Fronts.{level_at, entry_in}

pub pairs_of : (s : Search) (store : StoreView) → IsSearching s
    → HasSameClauses s.store.clauses store.clauses → AreOneByOne s.store.clauses store.clauses
pairs_of s store kept same = one_by_one s.store.clauses store.clauses kept.stock.lits same.count same.each

within_same : (bound : ℕ) (olds news : List ArenaClause) → HasSameClauses olds news
    → AreAllWithin bound olds → AreAllWithin bound news
within_same bound olds news same all = All-from_get_or
    (λ (clause : ArenaClause). AreWithin bound clause.lits) news no_clause (λ id lt.
    let was : id < length olds = omega (arith, lt, same.count) in
    All-from_members (λ lit. variable lit ≤ bound) (clause_at news id).lits (λ lit has.
    All-contains (λ x. variable x ≤ bound) (clause_at olds id).lits lit
    (All-get_or (λ (clause : ArenaClause). AreWithin bound clause.lits) olds id no_clause was all)
    (All-contains (Contains (clause_at olds id).lits) (clause_at news id).lits lit
    (same.each id was).no_more has)))

pub search_propagated : (s : Search) (store : StoreView) (trail : TrailView) → IsSearching s
    → HasSameClauses s.store.clauses store.clauses → store.vars ≡ s.store.vars
    → HasGrown (lits_of_each store.clauses) s.trail.depth s.trail.entries trail.entries
    → IsFounded (lits_of_each store.clauses) trail.entries s.trail.depth
    → trail.depth ≡ s.trail.depth → trail.vars ≡ s.trail.vars → IsTrail trail
    → IsPaired store.clauses store.fresh trail.entries trail.looked
    → AreReady store.clauses store.fresh trail.entries trail.depth
    → ArePendingAt trail.entries trail.looked trail.depth
    → All (Contains s.store.fresh) store.fresh
    → IsSearching (record s { store = store; trail = trail })
search_propagated s store trail kept same store_vars grown founded depth_is vars_are is paired ready pending still = record {
  stock = stock_same s.store.clauses store.clauses
      (packets_of s) s.steps s.bound same kept.stock;
  room = record {
    over = within_same s.greatest s.store.clauses store.clauses same kept.room.over;
    reserved = omega (arith, kept.room.reserved, vars_are);
    in_store = omega (arith, kept.room.in_store, vars_are, store_vars);
    in_scratch = omega (arith, kept.room.in_scratch, vars_are);
    in_units = omega (arith, kept.room.in_units, vars_are);
    in_tags = omega (arith, kept.room.in_tags, vars_are);
  };
  counted = record {
    greatest_is = kept.counted.greatest_is ∙ ap (λ xs. greatest_of_all (clauses_of xs)) inputs;
    inputs_are = kept.counted.inputs_are ∙ ap length inputs;
    learnt_held = subst (λ held. All (IsHeldStep s.steps held) s.learnt.items)
        (held_same s.store.clauses store.clauses pairs) kept.counted.learnt_held;
  };
  on = subst (λ depth. IsOnTrail (lits_of_each store.clauses) trail.entries depth) (sym depth_is)
      (propagated_on_trail s.store.clauses store.clauses s.trail.entries trail.entries s.trail.depth same grown founded kept.on);
  named = subst (λ xs. IsNamed (named_by xs (packets_of s) s.steps) trail.entries s.units.items s.tags.items s.named) inputs (record {
    within = omega (arith, kept.named.within, grown.longer);
    zero = λ place lt. ap (λ (e : Entry). e.level) (old_at place lt) ∙ kept.named.zero place lt;
    known = λ place lt. subst (λ (e : Entry). IsNameOf (table_of s)
        (unit_of s.units.items (variable e.lit)) (e.lit ∷ [])
        (tag_of_unit s.tags.items (variable e.lit))) (sym (old_at place lt))
        (kept.named.known place lt);
  });
  trail = is;
  watched = watched_propagated s.store.clauses store.clauses s.store.fresh store.fresh s.trail.entries trail.entries
      (lits_of_each store.clauses) s.trail.depth trail.depth s.trail.looked trail.looked same grown depth_is paired ready pending still kept.watched;
  levels = kept.levels ∙ sym depth_is;
  order = order_grown s.greatest (lits_of_each store.clauses) s.trail trail s.order grown vars_are kept.order;
  all_named = λ deep place lt zero. all_at deep place lt zero
      (cases_lt place (length s.trail.entries));
}
  where
    pairs : AreOneByOne s.store.clauses store.clauses
    pairs = pairs_of s store kept same

    inputs : inputs_of s.store.clauses ≡ inputs_of store.clauses
    inputs = inputs_same s.store.clauses store.clauses pairs

    was_at : (place : ℕ) → place < length s.trail.entries
        → entry_at trail.entries place ≡ entry_at s.trail.entries place
    was_at place lt = sym (entry_in trail.entries (length s.trail.entries) place lt)
        ∙ ap (λ (es : List Entry). entry_at es place) grown.before

    old_at : (place : ℕ) → place < s.named → entry_at trail.entries place
        ≡ entry_at s.trail.entries place
    old_at place lt = was_at place (omega (arith, lt, kept.named.within))

    all_at : 0 < trail.depth → (place : ℕ) → place < length trail.entries
        → level_at trail.entries place ≡ 0 → (place < length s.trail.entries)
        ⊎ (length s.trail.entries ≤ place) → place < s.named
    all_at deep place lt zero (inl old) = kept.all_named (omega (arith, deep, depth_is)) place old
        (ap (λ (e : Entry). e.level) (sym (was_at place old)) ∙ zero)
    all_at deep place lt zero (inr new) = let here = grown.level place new lt in absurd
        (omega (arith, here, zero, deep, depth_is))

pub all_named_deep : (s : Search) → IsSearching s → (s.trail.depth ≡ 0 → ⊥) → AreAllNamed s
all_named_deep s kept deep = record { each = kept.all_named (omega (arith, deep)) }

pub all_named_zero : (s : Search) → s.named ≡ length s.trail.entries → AreAllNamed s
all_named_zero s all = record { each = λ place lt zero. omega (arith, lt, all) }

-- fronts of lists
pub same_front : {X : Type 0} (old : List X) → IsFront old old
same_front old = record { more = []; is = sym (append-nil old) }

pub front_twice : {X : Type 0} (old mid new : List X) → IsFront old mid → IsFront mid new
    → IsFront old new
front_twice {X} old mid new a b = record {
  more = a.more ++ b.more;
  is = b.is
      ∙ ap (λ (xs : List X). xs ++ b.more) a.is ∙ append_assoc old a.more b.more;
}
