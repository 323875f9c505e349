-- A store that has kept some of its clauses, all of which are new then, and a trail at level 0.
use Rattle.std.proofs.Common.{◌≡◌, ◌∙◌, ℕ, ◌/◌, ◌<◌, ◌≤◌, Bool, List, [], length, ap, subst, sym, inr, arith}
use Rattle.std.specs.Prelude.{All, Contains}
use Rattle.std.proofs.lemmas.List.Elements.{All-get_or, All-from_get_or}
use Rattle.clause_arena.specs.Arena.{ArenaClause, clause_at}
use Rattle.clause_arena.specs.Kept.{kept_of}
use Rattle.clause_arena.proofs.KeptOf.{kept_all, kept_fewer}
use Rattle.trail_core.specs.Trail.{Entry, TrailView, IsTrail, entry_at, no_entry}
use Rattle.trail_core.specs.UnderTrail.{IsFounded}
use Rattle.watch_ring.specs.Ring.{RingView, list_of}
use Rattle.propagate.specs.Store.{AreWithin}
use Rattle.propagate.specs.Pairing.{IsOld, IsReady, AreFit}
use Rattle.propagate.specs.Lists.{new_from}
use Rattle.propagate.specs.Layout.{IsKept}
use Rattle.propagate.proofs.Fresh.{old_below}

-- where all clauses are new, none is old
none_old : (clauses : List ArenaClause) (id : ℕ) → IsOld clauses (new_from 0 clauses) id → ⊥
none_old clauses id old = let lt = old_below 0 clauses id old in absurd (omega (arith, lt))

none_in : (xs : List ℕ) (x : ℕ) → xs ≡ [] → Contains xs x → ⊥
none_in xs x none c = let h = subst (λ (ys : List ℕ). Contains ys x) none c in absurd (omega (arith, h.1))

pub renewed : (clauses clauses' : List ArenaClause) (keep : List Bool) (ring ring' : RingView) (number vars : ℕ) → IsKept clauses ring number vars → clauses' ≡ kept_of keep clauses → ((lit : ℕ) → list_of ring' lit ≡ []) → ring'.vars ≡ ring.vars → ring'.clauses ≡ ring.clauses → IsKept clauses' ring' 0 vars
renewed clauses clauses' keep ring ring' number vars k is empty same_vars same_clauses = record {
  within = subst (All (λ (c : ArenaClause). AreWithin vars c.lits)) (sym is) (kept_all (λ (c : ArenaClause). AreWithin vars c.lits) keep clauses k.within);
  known = omega arith;
  lists = record {
    stands = λ side s. absurd (none_old clauses' (side / 2) s.clause);
    known = λ lit side c. absurd (none_in (list_of ring' lit) side (empty lit) c);
    only = λ lit side c. absurd (none_in (list_of ring' lit) side (empty lit) c);
  };
  vars_in = omega (arith, k.vars_in, same_vars);
  sides = omega (arith, k.sides, same_clauses, kept_fewer keep clauses, ap (λ (cs : List ArenaClause). length cs) is);
}

level_0 : (trail : TrailView) (place : ℕ) → IsTrail trail → trail.depth ≡ 0 → place < length trail.entries → (entry_at trail.entries place).level ≡ 0
level_0 trail place is depth lt =
    let h = All-get_or (λ (e : Entry). e.level ≤ trail.depth) trail.entries place no_entry lt is.below in omega (arith, h, depth)

-- nothing is asked of clauses that are new at level 0
pub fits : (clauses : List ArenaClause) (vars : ℕ) (trail : TrailView) → IsTrail trail → trail.depth ≡ 0 → AreFit (record { clauses = clauses; fresh = new_from 0 clauses; vars = vars }) (record trail { looked = 0 })
fits clauses vars trail is depth = record {
  paired = record {
    pairs = λ side place s lt same. absurd (none_old clauses (side / 2) s.clause);
    single = λ id old one. absurd (none_old clauses id old);
    some = λ id old. absurd (none_old clauses id old);
  };
  ready = All-from_get_or (λ (id : ℕ). IsReady trail.entries trail.depth (clause_at clauses id).lits) (new_from 0 clauses) 0 (λ k lt. inr (inr depth));
  pending = record { each = λ place from lt. level_0 trail place is depth lt ∙ sym depth };
}

-- at level 0 no reason is asked for
pub founded_at_0 : (clauses : List (List ℕ)) (trail : TrailView) → IsTrail trail → trail.depth ≡ 0 → IsFounded clauses trail.entries trail.depth
founded_at_0 clauses trail is depth = record {
  begun = λ level some le. absurd (omega (arith, some, le, depth));
  first = λ place lt high never. absurd (omega (arith, high, level_0 trail place is depth lt));
  other = λ place k lt high before same. absurd (omega (arith, high, level_0 trail place is depth lt));
}
