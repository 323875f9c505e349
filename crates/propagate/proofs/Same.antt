-- Clauses that keep their literals.
use Rattle.std.proofs.Common.{◌∙◌, ℕ, ◌<◌, ◌≤◌, List, length, take, refl, subst, sym, arith}
use Rattle.std.specs.Prelude.{Contains}
use Rattle.std.proofs.lemmas.List.Elements.{All-from_get_or, All-get_or, All-weaker, All-contains, All-contains_itself}
use Rattle.sat_base.specs.Lit.{variable}
use Rattle.clause_arena.specs.Arena.{ArenaClause, clause_at, no_clause, lits_of_each}
use Rattle.trail_core.specs.Trail.{Entry, TrailView, lits_of, entry_at}
use Rattle.trail_core.specs.UnderTrail.{HasOthersFalse, IsForced, IsFounded, HasGrown}
use Rattle.watch_ring.specs.Ring.{RingView}
use Rattle.propagate.specs.Store.{AreWithin, AreAllWithin, IsSameClause, HasSameClauses}
use Rattle.propagate.specs.Lists.{HasPropagated}
use Rattle.propagate.proofs.Grown.{grown_none, grown_twice}
use Rattle.propagate.proofs.Whole.{length-lits_of_each, lits_at-each, same_clauses}

pub clause_back : (a b : ArenaClause) → IsSameClause a b → IsSameClause b a
clause_back a b s = record {
  kept = s.no_more;
  no_more = s.kept;
  size = sym s.size;
  tag = sym s.tag;
  origin = sym s.origin;
}

pub clause_itself : (a : ArenaClause) → IsSameClause a a
clause_itself a = record {
  kept = All-contains_itself a.lits;
  no_more = All-contains_itself a.lits;
  size = refl;
  tag = refl;
  origin = refl;
}

pub clause_twice : (a b c : ArenaClause) → IsSameClause a b → IsSameClause b c → IsSameClause a c
clause_twice a b c s t = record {
  kept = All-weaker (Contains b.lits) (Contains c.lits) (λ x m. All-contains (Contains c.lits) b.lits x t.kept m) a.lits s.kept;
  no_more = All-weaker (Contains b.lits) (Contains a.lits) (λ x m. All-contains (Contains a.lits) b.lits x s.no_more m) c.lits t.no_more;
  size = t.size ∙ s.size;
  tag = t.tag ∙ s.tag;
  origin = t.origin ∙ s.origin;
}

pub same_back : (a b : List ArenaClause) → HasSameClauses a b → HasSameClauses b a
same_back a b s = record {
  count = sym s.count;
  each = λ id lt. clause_back _ _ (s.each id (omega (arith, lt, s.count)));
}

pub same_twice : (a b c : List ArenaClause) → HasSameClauses a b → HasSameClauses b c → HasSameClauses a c
same_twice a b c s t = record {
  count = t.count ∙ s.count;
  each = λ id lt. clause_twice _ _ _ (s.each id lt) (t.each id (omega (arith, lt, s.count)));
}

pub lits_within : (vars : ℕ) (a b : ArenaClause) → IsSameClause a b → AreWithin vars a.lits → AreWithin vars b.lits
lits_within vars a b s all =
    All-weaker (Contains a.lits) (λ (lit : ℕ). variable lit ≤ vars) (λ lit c. All-contains (λ (l : ℕ). variable l ≤ vars) a.lits lit all c) b.lits s.no_more

pub within_at : (vars : ℕ) (clauses : List ArenaClause) (id : ℕ) → id < length clauses → AreAllWithin vars clauses → AreWithin vars (clause_at clauses id).lits
within_at vars clauses id lt all = All-get_or (λ (c : ArenaClause). AreWithin vars c.lits) clauses id no_clause lt all

pub within_same : (vars : ℕ) (a b : List ArenaClause) → HasSameClauses a b → AreAllWithin vars a → AreAllWithin vars b
within_same vars a b s all =
    All-from_get_or (λ (c : ArenaClause). AreWithin vars c.lits) b no_clause
    (λ id lt. let known : id < length a = omega (arith, lt, s.count) in
    lits_within vars (clause_at a id) (clause_at b id) (s.each id known) (within_at vars a id known all))

others_same : (trues : List ℕ) (a b : ArenaClause) (lit : ℕ) → IsSameClause a b → HasOthersFalse trues a.lits lit → HasOthersFalse trues b.lits lit
others_same trues a b lit s h = record {
  stands = All-contains (Contains b.lits) a.lits lit s.kept h.stands;
  others = λ other c n. h.others other (All-contains (Contains a.lits) b.lits other s.no_more c) n;
}

pub forced_same : (a b : List ArenaClause) (before : List Entry) (e : Entry) → HasSameClauses a b → IsForced (lits_of_each a) before e → IsForced (lits_of_each b) before e
forced_same a b before e s f =
    let known_a : f.id < length a = omega (arith, f.known, length-lits_of_each a) in
    let known_b : f.id < length b = omega (arith, known_a, s.count) in
    record {
      id = f.id;
      reason = f.reason;
      known = omega (arith, known_b, length-lits_of_each b);
      rest = subst (λ (xs : List ℕ). HasOthersFalse (lits_of before) xs e.lit) (sym (lits_at-each b f.id known_b))
          (others_same (lits_of before) (clause_at a f.id) (clause_at b f.id) e.lit (s.each f.id known_a)
          (subst (λ (xs : List ℕ). HasOthersFalse (lits_of before) xs e.lit) (lits_at-each a f.id known_a) f.rest));
    }

pub grown_same : (a b : List ArenaClause) (depth : ℕ) (old new : List Entry) → HasSameClauses a b → HasGrown (lits_of_each a) depth old new → HasGrown (lits_of_each b) depth old new
grown_same a b depth old new s g = record {
  longer = g.longer;
  before = g.before;
  forced = λ i from to. forced_same a b (take i new) (entry_at new i) s (g.forced i from to);
  level = g.level;
}

pub founded_same : (a b : List ArenaClause) (entries : List Entry) (depth : ℕ) → HasSameClauses a b → IsFounded (lits_of_each a) entries depth → IsFounded (lits_of_each b) entries depth
founded_same a b entries depth s f = record {
  begun = f.begun;
  first = f.first;
  other = λ i k lt above before same. forced_same a b (take i entries) (entry_at entries i) s (f.other i k lt above before same);
}

-- nothing was done
pub propagated_none : (clauses : List ArenaClause) (ring : RingView) (trail : TrailView) → HasPropagated clauses ring trail clauses ring trail
propagated_none clauses ring trail = record {
  same = same_clauses clauses;
  ring_vars = refl;
  ring_clauses = refl;
  vars = refl;
  depth = refl;
  grown = grown_none (lits_of_each clauses) trail.depth trail.entries;
  founded = λ f. f;
}

-- one part after the other
pub propagated_twice : (a : List ArenaClause) (ra : RingView) (ta : TrailView) (b : List ArenaClause) (rb : RingView) (tb : TrailView) (c : List ArenaClause) (rc : RingView) (tc : TrailView) → HasPropagated a ra ta b rb tb → HasPropagated b rb tb c rc tc → HasPropagated a ra ta c rc tc
propagated_twice a ra ta b rb tb c rc tc p q = record {
  same = same_twice a b c p.same q.same;
  ring_vars = q.ring_vars ∙ p.ring_vars;
  ring_clauses = q.ring_clauses ∙ p.ring_clauses;
  vars = q.vars ∙ p.vars;
  depth = q.depth ∙ p.depth;
  grown =
      grown_twice (lits_of_each a) ta.depth ta.entries tb.entries tc.entries p.grown
      (subst (λ d. HasGrown (lits_of_each a) d tb.entries tc.entries) p.depth (grown_same b a tb.depth tb.entries tc.entries (same_back a b p.same) q.grown));
  founded = λ f.
      let mid = founded_same a b tb.entries tb.depth p.same (subst (λ d. IsFounded (lits_of_each a) tb.entries d) (sym p.depth) (p.founded f)) in
      subst (λ d. IsFounded (lits_of_each a) tc.entries d) p.depth
      (founded_same b a tc.entries tb.depth (same_back a b p.same) (q.founded mid));
}
