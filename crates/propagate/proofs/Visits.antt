-- The walk along a whole list, and the literals that were looked at.
use Rattle.std.proofs.Common.{◌≡◌, ◌∙◌, ℕ, ◌+◌, ◌<◌, ◌≤◌, List, [], ◌∷◌, ◌++◌, length, refl, ap, subst, sym, inl, inr, arith}
use Rattle.std.specs.Prelude.{◌⊎◌, Contains, Option, None, Some}
use Rattle.std.specs.Option.{option_map}
use Rattle.std.proofs.lemmas.Bool.{cases_lt}
use Rattle.std.proofs.lemmas.List.{append-nil, get_or-take}
use Rattle.sat_base.specs.Lit.{opposite}
use Rattle.clause_arena.specs.Arena.{ArenaClause}
use Rattle.trail_core.specs.Trail.{Entry, TrailView, no_entry, entry_at, lits_of}
use Rattle.trail_core.specs.UnderTrail.{HasGrown}
use Rattle.watch_ring.specs.Link.{pair_of}
use Rattle.watch_ring.specs.Ring.{RingView, list_of, first_of}
use Rattle.propagate.specs.Pairing.{IsSide, IsTrueUpTo, IsPaired, watched, other_side}
use Rattle.propagate.specs.Lists.{IsConnected, HasPropagated}
use Rattle.propagate.specs.Walk.{IsUnderway}
use Rattle.propagate.proofs.Literals.{entry_in}
use Rattle.propagate.proofs.Walks.{flag}

-- the literal at a place that stays
pub grown_entry : (clauses : List (List ℕ)) (depth : ℕ) (old new : List Entry) (i : ℕ) → HasGrown clauses depth old new → i < length old → entry_at new i ≡ entry_at old i
grown_entry clauses depth old new i g lt = sym (get_or-take (length old) new i no_entry lt) ∙ ap (λ (xs : List Entry). entry_at xs i) g.before

pub walk_start : (clauses : List ArenaClause) (ring : RingView) (trail : TrailView) (lit gone : ℕ) (first : Option (ℕ × ℕ)) → IsConnected clauses [] ring trail → trail.looked < length trail.entries → (entry_at trail.entries trail.looked).lit ≡ lit → gone ≡ opposite lit → first ≡ option_map pair_of (first_of (list_of ring gone)) → IsUnderway clauses ring trail gone None first
walk_start clauses ring trail lit gone first c next is gone_is first_is = record {
  connected = c;
  front = [];
  back = list_of ring gone;
  list_is = refl;
  here_is = first_is;
  before_is = refl;
  done = λ side h. absurd (omega (arith, h.1));
  gone_false =
      let lit_is : (entry_at trail.entries trail.looked).lit ≡ opposite gone = omega (arith, is, gone_is) in
      record { stands = subst (Contains (lits_of trail.entries)) lit_is (entry_in trail.entries trail.looked next) };
}

nothing_left : (back : List ℕ) → None ≡ option_map pair_of (first_of back) → back ≡ []
nothing_left [] e = refl
nothing_left (w ∷ back) e = let f : flag None ≡ flag (Some (pair_of w)) = ap flag e in absurd (omega (arith, f))

pub walk_end : (clauses : List ArenaClause) (ring : RingView) (trail : TrailView) (lit gone : ℕ) (before : Option (ℕ × ℕ)) → IsUnderway clauses ring trail gone before None → trail.looked < length trail.entries → (entry_at trail.entries trail.looked).lit ≡ lit → gone ≡ opposite lit → IsPaired clauses [] trail.entries (trail.looked + 1)
walk_end clauses ring trail lit gone before u next is gone_is = record {
  pairs = λ side place s lt at. pairs_at side place s lt at (cases_lt place trail.looked);
  single = u.connected.paired.single;
  some = u.connected.paired.some;
}
  where
    whole : list_of ring gone ≡ u.front
    whole = u.list_is ∙ ap (λ (xs : List ℕ). u.front ++ xs) (nothing_left u.back u.here_is) ∙ append-nil u.front

    pairs_at : (side place : ℕ) → IsSide clauses [] side → place < trail.looked + 1 → (entry_at trail.entries place).lit ≡ opposite (watched clauses side) → (place < trail.looked) ⊎ (trail.looked ≤ place) → IsTrueUpTo trail.entries (watched clauses (other_side side)) (entry_at trail.entries place).level
    pairs_at side place s lt at (inl old) = u.connected.paired.pairs side place s old at
    pairs_at side place s lt at (inr new) =
        let e : place ≡ trail.looked = omega (arith, lt, new) in
        let lit_is = ap (λ n. (entry_at trail.entries n).lit) e in
        let watched_is : watched clauses side ≡ gone = omega (arith, lit_is, at, is, gone_is) in
        let stands = subst (λ l. Contains (list_of ring l) side) watched_is (u.connected.lists.stands side s) in
        let level = u.connected.pending.each place new (omega (arith, e, next)) in
        subst (IsTrueUpTo trail.entries (watched clauses (other_side side))) (sym level)
        (u.done side (subst (λ (xs : List ℕ). Contains xs side) whole stands))

-- one more literal was looked at
pub connected_marked : (clauses : List ArenaClause) (ring : RingView) (trail trail' : TrailView) (n : ℕ) → IsConnected clauses [] ring trail → IsPaired clauses [] trail.entries n → trail.looked ≤ n → trail' ≡ record trail { looked = n } → IsConnected clauses [] ring trail'
connected_marked clauses ring trail trail' n c p le is = subst (IsConnected clauses [] ring) (sym is) (record {
  lists = c.lists;
  paired = p;
  ready = c.ready;
  pending = record { each = λ place from to. c.pending.each place (omega (arith, from, le)) to };
  within = c.within;
  reserved = c.reserved;
  sides = c.sides;
})

pub propagated_marked : (a : List ArenaClause) (ra : RingView) (ta : TrailView) (b : List ArenaClause) (rb : RingView) (tb tb' : TrailView) (n : ℕ) → HasPropagated a ra ta b rb tb → tb' ≡ record tb { looked = n } → HasPropagated a ra ta b rb tb'
propagated_marked a ra ta b rb tb tb' n p is = subst (HasPropagated a ra ta b rb) (sym is) (record {
  same = p.same;
  ring_vars = p.ring_vars;
  ring_clauses = p.ring_clauses;
  vars = p.vars;
  depth = p.depth;
  grown = p.grown;
  founded = p.founded;
})

pub none_of : (o : Option (ℕ × ℕ)) → ((pair : ℕ × ℕ) → o ≡ Some pair → ⊥) → o ≡ None
none_of None n = refl
none_of (Some pair) n = absurd (n pair refl)
