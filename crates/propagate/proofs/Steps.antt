-- What comes of a look at a clause whose watched literal is false.
use Rattle.std.proofs.Common.{◌≡◌, ◌≢◌, ◌∙◌, ℕ, ◌-◌, ◌<◌, ◌≤◌, List, [], ◌∷◌, ◌++◌, length, refl, ap, subst, sym, inl, inr, arith, get_or}
use Rattle.std.specs.Prelude.{◌⊎◌, Contains, Option, Some}
use Rattle.std.proofs.lemmas.Bool.{cases_eq, cases_lt}
use Rattle.std.proofs.lemmas.List.{get_or_default, length_push, map_push}
use Rattle.std.proofs.lemmas.List.Elements.{Contains-get_or, Contains-append_left, All-from_get_or}
use Rattle.sat_base.specs.Lit.{opposite}
use Rattle.clause_arena.specs.Arena.{ArenaClause, clause_at, lits_of_each}
use Rattle.trail_core.specs.Trail.{Entry, TrailView, IsTrail, lits_of}
use Rattle.trail_core.specs.UnderTrail.{IsTrueLit, IsFalseLit, IsFalseClause, HasOthersFalse, IsForced, IsFounded, HasGrown}
use Rattle.watch_ring.specs.Ring.{RingView}
use Rattle.propagate.specs.Store.{AreAllWithin}
use Rattle.propagate.specs.Pairing.{IsTrueUpTo, IsPaired, AreReady, ArePendingAt}
use Rattle.propagate.specs.Places.{AreFalseFrom}
use Rattle.propagate.specs.Lists.{IsConnected, HasPropagated}
use Rattle.propagate.specs.Walk.{IsUnderway}
use Rattle.propagate.proofs.Keeps.{true_more, paired_assign, ready_assign, pending_assign}
use Rattle.propagate.proofs.Grown.{new_entry, grown_none, grown_push, founded_push}
use Rattle.propagate.proofs.Whole.{same_clauses, length-lits_of_each, lits_at-each}
use Rattle.propagate.proofs.Literals.{true_up}
use Rattle.propagate.proofs.Walks.{IsNext, walk_on, at_side}

-- all literals but one of the two watched ones are false
pub others_false : (trues lits : List ℕ) (gone side : ℕ) → side < 2 → 2 ≤ length lits → get_or lits side 0 ≡ gone → IsFalseLit trues gone → AreFalseFrom trues lits 2 → HasOthersFalse trues lits (get_or lits (1 - side) 0)
others_false trues lits gone side side_in wide is gone_false rest = record {
  stands = Contains-get_or lits (1 - side) 0 (omega arith);
  others = λ other c n. at other n c.0 c.1 (get_or_default lits c.0 0 other c.1 ∙ c.2) (cases_eq c.0 side) (cases_lt c.0 2);
}
  where
    at : (other : ℕ) → other ≢ get_or lits (1 - side) 0 → (k : ℕ) → k < length lits → get_or lits k 0 ≡ other → (k ≡ side) ⊎ (k ≢ side) → (k < 2) ⊎ (2 ≤ k) → IsFalseLit trues other
    at other n k lt here (inl e) _ = subst (IsFalseLit trues) (sym is ∙ sym (ap (λ i. get_or lits i 0) e) ∙ here) gone_false
    at other n k lt here (inr m) (inl low) =
        let e : k ≡ 1 - side = omega (arith, low, m, side_in) in
        absurd (n (sym here ∙ ap (λ i. get_or lits i 0) e))
    at other n k lt here (inr m) (inr high) = subst (IsFalseLit trues) here (rest.each k high lt)

pub all_false : (trues lits : List ℕ) (lit : ℕ) → HasOthersFalse trues lits lit → IsFalseLit trues lit → IsFalseClause trues lits
all_false trues lits lit others is_false = record {
  each = All-from_get_or (IsFalseLit trues) lits 0 (λ k lt. at k lt (cases_eq (get_or lits k 0) lit));
}
  where
    at : (k : ℕ) → k < length lits → (get_or lits k 0 ≡ lit) ⊎ (get_or lits k 0 ≢ lit) → IsFalseLit trues (get_or lits k 0)
    at k lt (inl e) = subst (IsFalseLit trues) (sym e) is_false
    at k lt (inr n) = others.others (get_or lits k 0) (Contains-get_or lits k 0 lt) n

-- one more entry, at the depth
pub record IsPushed (old new : TrailView) (lit : ℕ) (why : Option ℕ) : Type 0 where
  pub entries : new.entries ≡ old.entries ++ record { lit = lit; level = old.depth; reason = why } ∷ []
  pub depth : new.depth ≡ old.depth
  pub vars : new.vars ≡ old.vars
  pub looked : new.looked ≡ old.looked

pub connected_push : (clauses : List ArenaClause) (fresh : List ℕ) (ring : RingView) (old new : TrailView) (lit : ℕ) (why : Option ℕ) → IsTrail old → IsPushed old new lit why → IsConnected clauses fresh ring old → IsConnected clauses fresh ring new
connected_push clauses fresh ring old new lit why t p c =
    let e : Entry = record { lit = lit; level = old.depth; reason = why } in
    record {
      lists = c.lists;
      paired = subst (IsPaired clauses fresh new.entries) (sym p.looked)
          (subst (λ (xs : List Entry). IsPaired clauses fresh xs old.looked) (sym p.entries)
          (paired_assign clauses fresh old.entries old.looked e t.looked_at c.paired));
      ready = subst (AreReady clauses fresh new.entries) (sym p.depth)
          (subst (λ (xs : List Entry). AreReady clauses fresh xs old.depth) (sym p.entries)
          (ready_assign clauses fresh old.entries old.depth e refl c.ready));
      pending = subst (ArePendingAt new.entries new.looked) (sym p.depth)
          (subst (λ n. ArePendingAt new.entries n old.depth) (sym p.looked)
          (subst (λ (xs : List Entry). ArePendingAt xs old.looked old.depth) (sym p.entries)
          (pending_assign old.entries old.looked old.depth e c.pending refl)));
      within = subst (λ v. AreAllWithin v clauses) (sym p.vars) c.within;
      reserved = c.reserved;
      sides = c.sides;
    }

pub propagated_push : (clauses : List ArenaClause) (ring ring' : RingView) (old new : TrailView) (lit : ℕ) (why : Option ℕ) → ring'.vars ≡ ring.vars → ring'.clauses ≡ ring.clauses → IsForced (lits_of_each clauses) old.entries (record { lit = lit; level = old.depth; reason = why }) → IsPushed old new lit why → HasPropagated clauses ring old clauses ring' new
propagated_push clauses ring ring' old new lit why vars sides forced p =
    let e : Entry = record { lit = lit; level = old.depth; reason = why } in
    record {
      same = same_clauses clauses;
      ring_vars = vars;
      ring_clauses = sides;
      vars = p.vars;
      depth = p.depth;
      grown = subst (HasGrown (lits_of_each clauses) old.depth old.entries) (sym p.entries)
          (grown_push (lits_of_each clauses) old.depth old.entries old.entries e (grown_none (lits_of_each clauses) old.depth old.entries) forced refl);
      founded = λ f. subst (λ (xs : List Entry). IsFounded (lits_of_each clauses) xs old.depth) (sym p.entries)
          (founded_push (lits_of_each clauses) old.entries old.depth e f forced refl);
    }

pub forced_by : (clauses : List ArenaClause) (entries : List Entry) (id lit level : ℕ) → id < length clauses → HasOthersFalse (lits_of entries) (clause_at clauses id).lits lit → IsForced (lits_of_each clauses) entries (record { lit = lit; level = level; reason = Some id })
forced_by clauses entries id lit level known others = record {
  id = id;
  reason = refl;
  known = omega (arith, known, length-lits_of_each clauses);
  rest = subst (λ (xs : List ℕ). HasOthersFalse (lits_of entries) xs lit) (sym (lits_at-each clauses id known)) others;
}

-- the literal that came is true at the depth, and what was true is so
pub true_new : (old new : TrailView) (lit : ℕ) (why : Option ℕ) → IsPushed old new lit why → IsTrueUpTo new.entries lit new.depth
true_new old new lit why p =
    let e : Entry = record { lit = lit; level = old.depth; reason = why } in
    let there = new_entry old.entries e (length old.entries) refl in
    subst (λ (xs : List Entry). IsTrueUpTo xs lit new.depth) (sym p.entries) (record {
      place = length old.entries;
      within = omega (arith, length_push old.entries e);
      is = ap (λ (x : Entry). x.lit) there;
      no_later = omega (arith, p.depth, ap (λ (x : Entry). x.level) there);
    })

pub true_kept : (old new : TrailView) (lit : ℕ) (why : Option ℕ) (other level : ℕ) → IsPushed old new lit why → IsTrueUpTo old.entries other level → IsTrueUpTo new.entries other level
true_kept old new lit why other level p is_true =
    subst (λ (xs : List Entry). IsTrueUpTo xs other level) (sym p.entries)
    (true_more old.entries (record { lit = lit; level = old.depth; reason = why }) other level is_true)

pub false_kept : (old new : TrailView) (lit : ℕ) (why : Option ℕ) (other : ℕ) → IsPushed old new lit why → IsFalseLit (lits_of old.entries) other → IsFalseLit (lits_of new.entries) other
false_kept old new lit why other p f =
    subst (λ (xs : List Entry). IsFalseLit (lits_of xs) other) (sym p.entries) (false_more_entry old.entries (record { lit = lit; level = old.depth; reason = why }) other f)
  where
    false_more_entry : (entries : List Entry) (e : Entry) (other : ℕ) → IsFalseLit (lits_of entries) other → IsFalseLit (lits_of (entries ++ e ∷ [])) other
    false_more_entry entries e other f =
        record { stands = subst (λ (xs : List ℕ). Contains xs (opposite other)) (sym (map_push (λ (x : Entry). x.lit) entries e)) (Contains-append_left (lits_of entries) (e.lit ∷ []) (opposite other) f.stands) }

-- The arms of a step.

pub walk_satisfied : (clauses : List ArenaClause) (ring : RingView) (trail : TrailView) (gone id side : ℕ) (before next : Option (ℕ × ℕ)) → IsTrail trail → IsTrueLit (lits_of trail.entries) (get_or (clause_at clauses id).lits (1 - side) 0) → IsUnderway clauses ring trail gone before (Some (id, side)) → IsNext ring id side next → IsUnderway clauses ring trail gone (Some (id, side)) next
walk_satisfied clauses ring trail gone id side before next t is_true u next_is =
    walk_on clauses ring trail trail gone id side before next u u.connected (λ lit h. h) (true_up trail _ t is_true) u.gone_false next_is

pub walk_forced : (clauses : List ArenaClause) (ring : RingView) (old new : TrailView) (gone id side lit : ℕ) (why : Option ℕ) (before next : Option (ℕ × ℕ)) → IsTrail old → IsPushed old new lit why → get_or (clause_at clauses id).lits (1 - side) 0 ≡ lit → IsUnderway clauses ring old gone before (Some (id, side)) → IsNext ring id side next → IsUnderway clauses ring new gone (Some (id, side)) next
walk_forced clauses ring old new gone id side lit why before next t p is u next_is =
    walk_on clauses ring old new gone id side before next u (connected_push clauses [] ring old new lit why t p u.connected)
    (λ other h. subst (IsTrueUpTo new.entries other) (sym p.depth) (true_kept old new lit why other old.depth p h))
    (subst (λ l. IsTrueUpTo new.entries l new.depth) (sym is) (true_new old new lit why p))
    (false_kept old new lit why gone p u.gone_false) next_is

pub others_of : (clauses : List ArenaClause) (ring : RingView) (trail : TrailView) (gone id side : ℕ) (before : Option (ℕ × ℕ)) → AreFalseFrom (lits_of trail.entries) (clause_at clauses id).lits 2 → IsUnderway clauses ring trail gone before (Some (id, side)) → HasOthersFalse (lits_of trail.entries) (clause_at clauses id).lits (get_or (clause_at clauses id).lits (1 - side) 0)
others_of clauses ring trail gone id side before rest u =
    let a = at_side clauses ring trail gone id side before u in
    others_false (lits_of trail.entries) (clause_at clauses id).lits gone side a.side_in a.wide a.is u.gone_false rest
