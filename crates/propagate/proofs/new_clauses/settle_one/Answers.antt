use Rattle.std.proofs.Common.{◌≡◌, ◌∙◌, ap, subst, sym, arith, refl, length, get_or, ℕ, List}
use Rattle.std.specs.Prelude.{Some}
use Rattle.std.proofs.lemmas.List.{get_or_read}
use Rattle.clause_arena.specs.Arena.{clause_at, lits_of_each}
use Rattle.trail_core.specs.Trail.{Entry, entry_at, lits_of}
use Rattle.trail_core.specs.UnderTrail.{IsTrueLit, IsFalseLit, HasOthersFalse}
use Rattle.propagate.specs.Pairing.{IsTrueUpTo}
use Rattle.propagate.specs.Lists.{new_from}
use Rattle.propagate.proofs.Grown.{grown_none, old_entry}
use Rattle.propagate.proofs.Whole.{same_clauses}
use Rattle.propagate.proofs.Literals.{true_up}
use Rattle.propagate.proofs.Steps.{IsPushed, connected_push, propagated_push, forced_by, true_new}
use Rattle.propagate.proofs.Settles.{connected_settled, own_one, one_others}
use Rattle.propagate.proofs.new_clauses.settle_one.Goals as goal
use Rattle.propagate.proofs.new_clauses.settle_one.Goals.{After-truth}

first_is : (c : After-truth) → get_or (clause_at c.args.arena.now c.args.id).lits 0 0 ≡ c.index-lits-0.result
first_is c =
    sym (get_or_read c.lits.result.now 0 c.index-lits-0.result (omega (arith, c.requires.one.some, ap (λ (xs : List ℕ). length xs) c.lits.ensures.value)) c.index-lits-0.is 0
    ∙ ap (λ (xs : List ℕ). get_or xs 0 0) c.lits.ensures.value)

pub returns-in-True-clause-kept : goal.returns-in-True-clause-kept
returns-in-True-clause-kept c = record {
  same = same_clauses c.args.arena.now;
  ring_vars = c.watch.ensures.vars;
  ring_clauses = c.watch.ensures.clauses;
  vars = refl;
  depth = refl;
  grown = grown_none (lits_of_each c.args.arena.now) c.args.trail.now.depth c.args.trail.now.entries;
  founded = λ f. f;
}

pub returns-in-True-clause-settled : goal.returns-in-True-clause-settled
returns-in-True-clause-settled c =
    let is = first_is (goal.at.returns-in-True-clause-settled c).After-truth in
    let t = c.truth.ensures.trail in
    connected_settled c.args.arena.now c.args.ring.now c.watch.new.ring c.args.trail.now c.args.id c.requires.known c.requires.connected c.watch.ensures.vars c.watch.ensures.clauses c.watch.ensures.lists
    (own_one c.args.arena.now c.args.id c.args.trail.now c.args.trail.now t c.requires.one
    (true_up c.args.trail.now _ t (subst (IsTrueLit (lits_of c.args.trail.now.entries)) (sym is) c.in-True.ensures.value)) refl (λ place lt. refl))

pub returns-in-False-clause-settled : goal.returns-in-False-clause-settled
returns-in-False-clause-settled c =
    let is = first_is (goal.at.returns-in-False-clause-settled c).After-truth in
    absurd (c.requires.one.left (subst (IsFalseLit (lits_of c.args.trail.now.entries)) (sym is) c.in-False.ensures.value))

pushed : (c : goal.After-assign) → IsPushed c.args.trail.now c.assign.new.self c.index-lits-0.result (Some c.args.id)
pushed c = record { entries = c.assign.ensures.entries; depth = c.assign.ensures.depth; vars = c.assign.ensures.vars; looked = c.assign.ensures.looked }

pub returns-in-Unassigned-clause-kept : goal.returns-in-Unassigned-clause-kept
returns-in-Unassigned-clause-kept c =
    let is = first_is (goal.at.returns-in-Unassigned-clause-kept c).After-truth in
    propagated_push c.args.arena.now c.args.ring.now c.watch.new.ring c.args.trail.now c.assign.new.self c.index-lits-0.result (Some c.args.id) c.watch.ensures.vars c.watch.ensures.clauses
    (forced_by c.args.arena.now c.args.trail.now.entries c.args.id c.index-lits-0.result c.args.trail.now.depth c.requires.known
    (subst (HasOthersFalse (lits_of c.args.trail.now.entries) (clause_at c.args.arena.now c.args.id).lits) is (one_others c.args.trail.now.entries c.args.trail.now.depth (clause_at c.args.arena.now c.args.id).lits c.requires.one)))
    (pushed c)

pub returns-in-Unassigned-clause-settled : goal.returns-in-Unassigned-clause-settled
returns-in-Unassigned-clause-settled c =
    let is = first_is (goal.at.returns-in-Unassigned-clause-settled c).After-truth in
    let p = pushed c in
    let t = c.truth.ensures.trail in
    let e : Entry = record { lit = c.index-lits-0.result; level = c.args.trail.now.depth; reason = Some c.args.id } in
    connected_settled c.args.arena.now c.args.ring.now c.watch.new.ring c.assign.new.self c.args.id c.requires.known
    (connected_push c.args.arena.now (new_from c.args.id c.args.arena.now) c.args.ring.now c.args.trail.now c.assign.new.self c.index-lits-0.result (Some c.args.id) t p c.requires.connected)
    c.watch.ensures.vars c.watch.ensures.clauses c.watch.ensures.lists
    (own_one c.args.arena.now c.args.id c.args.trail.now c.assign.new.self t c.requires.one
    (subst (λ lit. IsTrueUpTo c.assign.new.self.entries lit c.args.trail.now.depth) (sym is)
    (subst (IsTrueUpTo c.assign.new.self.entries c.index-lits-0.result) p.depth (true_new c.args.trail.now c.assign.new.self c.index-lits-0.result (Some c.args.id) p)))
    p.looked
    (λ place lt. ap (λ (xs : List Entry). entry_at xs place) p.entries ∙ old_entry c.args.trail.now.entries e place lt))
