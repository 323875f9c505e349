use Rattle.std.proofs.Common.{◌≡◌, ◌∙◌, ap, subst, sym, arith, inr, List, ℕ, []}
use Rattle.std.specs.Prelude.{All, Contains}
use Rattle.clause_arena.specs.Arena.{lits_of_each}
use Rattle.trail_core.specs.UnderTrail.{IsFounded}
use Rattle.watch_ring.specs.Ring.{list_of}
use Rattle.propagate.specs.Store.{StoreView, HasSameClauses}
use Rattle.propagate.specs.Pairing.{IsPaired}
use Rattle.propagate.specs.Lists.{IsConnected, IsWatched, HasPropagated, new_from}
use Rattle.propagate.proofs.Fresh.{in_new, new_none, new_same, new_fewer}
use Rattle.propagate.proofs.Same.{within_same, grown_same, founded_same, propagated_twice}
use Rattle.propagate.proofs.propagation.propagate.Goals as goal
use Rattle.propagate.proofs.propagation.propagate.Goals.{After-look_at_all}

-- where a new clause is false

pub invariant_of-store : goal.invariant_of-store
invariant_of-store c =
    let kept = c.settle_new-settled.ensures.kept in
    record {
      within = within_same c.store.inside.vars c.store.inside.arena c.settle_new-settled.new.arena kept.same c.store.invariant.within;
      known = c.settle_new-settled.ensures.known;
      lists = c.settle_new-settled.ensures.connected.lists;
      vars_in = omega (arith, kept.ring_vars, c.store.invariant.vars_in);
      sides = c.settle_new-settled.ensures.connected.sides;
    }

pub returns-then-settled-len-clause-grown : goal.returns-then-settled-len-clause-grown
returns-then-settled-len-clause-grown c =
    let kept = c.settle_new-settled.ensures.kept in
    grown_same c.store.inside.arena c.settle_new-settled.new.arena c.args.trail.now.depth c.args.trail.now.entries c.settle_new-settled.new.trail.entries kept.same kept.grown

pub returns-then-settled-len-clause-founded : goal.returns-then-settled-len-clause-founded
returns-then-settled-len-clause-founded c = λ f.
    let kept = c.settle_new-settled.ensures.kept in
    founded_same c.store.inside.arena c.settle_new-settled.new.arena c.settle_new-settled.new.trail.entries c.args.trail.now.depth kept.same
    (kept.founded (subst (λ (s : StoreView). IsFounded (lits_of_each s.clauses) c.args.trail.now.entries c.args.trail.now.depth) (sym c.store.view_is) f))

pub returns-then-settled-len-clause-still_new : goal.returns-then-settled-len-clause-still_new
returns-then-settled-len-clause-still_new c =
    let fresh = new_same c.store.inside.watched c.store.inside.arena c.settle_new-settled.new.arena c.settle_new-settled.ensures.kept.same.count ∙ ap (λ (s : StoreView). s.fresh) c.store.view_is in
    subst (λ (xs : List ℕ). All (Contains xs) (new_from c.settle_new-settled.result c.settle_new-settled.new.arena)) fresh
    (new_fewer c.store.inside.watched c.settle_new-settled.result c.settle_new-settled.new.arena c.settle_new-settled.ensures.more)

pub returns-then-settled-len-clause-refuted_new : goal.returns-then-settled-len-clause-refuted_new
returns-then-settled-len-clause-refuted_new c =
    inr (in_new c.settle_new-settled.result c.settle_new-settled.new.arena c.settle_new-settled.result (omega arith) (omega (arith, c.if-settled-len.true, c.len.ensures.value)))

-- where none is

pub look_at_all-requires : goal.look_at_all-requires
look_at_all-requires c =
    subst (λ (xs : List ℕ). IsConnected c.settle_new-settled.new.arena xs c.settle_new-settled.new.ring c.settle_new-settled.new.trail)
    (new_none c.settle_new-settled.result c.settle_new-settled.new.arena (omega (arith, c.if-settled-len.false, c.len.ensures.value)))
    c.settle_new-settled.ensures.connected

whole : (c : After-look_at_all) → HasPropagated c.store.inside.arena c.store.inside.ring c.args.trail.now c.look_at_all.new.arena c.look_at_all.new.ring c.look_at_all.new.trail
whole c =
    propagated_twice c.store.inside.arena c.store.inside.ring c.args.trail.now c.settle_new-settled.new.arena c.settle_new-settled.new.ring c.settle_new-settled.new.trail c.look_at_all.new.arena c.look_at_all.new.ring c.look_at_all.new.trail
    c.settle_new-settled.ensures.kept c.look_at_all.ensures.kept

none_new : (c : After-look_at_all) → new_from c.settle_new-settled.result c.look_at_all.new.arena ≡ []
none_new c = new_none c.settle_new-settled.result c.look_at_all.new.arena (omega (arith, c.if-settled-len.false, c.len.ensures.value, c.look_at_all.ensures.kept.same.count))

pub invariant_of-store-2 : goal.invariant_of-store-2
invariant_of-store-2 c =
    let kept = whole c in
    record {
      within = within_same c.store.inside.vars c.store.inside.arena c.look_at_all.new.arena kept.same c.store.invariant.within;
      known = omega (arith, c.settle_new-settled.ensures.known, c.look_at_all.ensures.kept.same.count);
      lists = subst (λ (xs : List ℕ). IsWatched c.look_at_all.new.arena xs (list_of c.look_at_all.new.ring)) (sym (none_new c)) c.look_at_all.ensures.connected.lists;
      vars_in = omega (arith, kept.ring_vars, c.store.invariant.vars_in);
      sides = c.look_at_all.ensures.connected.sides;
    }

pub returns-clause-same : goal.returns-clause-same
returns-clause-same c = subst (λ (s : StoreView). HasSameClauses s.clauses c.look_at_all.new.arena) c.store.view_is (whole c).same

pub returns-clause-grown : goal.returns-clause-grown
returns-clause-grown c =
    let kept = whole c in
    grown_same c.store.inside.arena c.look_at_all.new.arena c.args.trail.now.depth c.args.trail.now.entries c.look_at_all.new.trail.entries kept.same kept.grown

pub returns-clause-founded : goal.returns-clause-founded
returns-clause-founded c = λ f.
    let kept = whole c in
    founded_same c.store.inside.arena c.look_at_all.new.arena c.look_at_all.new.trail.entries c.args.trail.now.depth kept.same
    (kept.founded (subst (λ (s : StoreView). IsFounded (lits_of_each s.clauses) c.args.trail.now.entries c.args.trail.now.depth) (sym c.store.view_is) f))

pub returns-clause-paired : goal.returns-clause-paired
returns-clause-paired c =
    subst (λ (xs : List ℕ). IsPaired c.look_at_all.new.arena xs c.look_at_all.new.trail.entries c.look_at_all.new.trail.looked) (sym (none_new c)) c.look_at_all.ensures.connected.paired
