use Rattle.std.proofs.Common.{◌∙◌, ap, subst, sym, arith, refl, [], List, ◌*◌, ◌+◌}
use Rattle.std.specs.Prelude.{Some}
use Rattle.clause_arena.specs.Arena.{ArenaClause, clause_at}
use Rattle.trail_core.specs.Trail.{lits_of}
use Rattle.trail_core.specs.UnderTrail.{IsFalseLit, HasOthersFalse}
use Rattle.watch_ring.specs.Ring.{list_of, without, IsOnce}
use Rattle.watch_ring.proofs.Lists.{without_split}
use Rattle.propagate.specs.Lists.{IsConnected, HasPropagated}
use Rattle.propagate.specs.Walk.{IsUnderway}
use Rattle.propagate.proofs.Same.{propagated_none}
use Rattle.propagate.proofs.Walks.{at_side, less_next, less_moved}
use Rattle.propagate.proofs.Moves.{IsMove, propagated_moved, connected_moved, walk_moved}
use Rattle.propagate.proofs.Steps.{connected_push, propagated_push, forced_by, all_false, walk_satisfied, walk_forced, others_of}
use Rattle.propagate.proofs.watches.take_step.Goals as goal

pub look_at-requires-clause-known : goal.look_at-requires-clause-known
look_at-requires-clause-known c = (at_side c.args.arena.now c.args.ring.now c.args.trail.now c.args.gone c.args.id c.args.side c.args.before c.requires).known

pub look_at-requires-clause-wide : goal.look_at-requires-clause-wide
look_at-requires-clause-wide c = (at_side c.args.arena.now c.args.ring.now c.args.trail.now c.args.gone c.args.id c.args.side c.args.before c.requires).wide

pub next-requires-clause-clause : goal.next-requires-clause-clause
next-requires-clause-clause c =
    let known = (at_side c.args.arena.now c.args.ring.now c.args.trail.now c.args.gone c.args.id c.args.side c.args.before c.requires).known in
    omega (arith, known, c.requires.connected.sides)

pub returns-in-Satisfied-clause-kept : goal.returns-in-Satisfied-clause-kept
returns-in-Satisfied-clause-kept c = propagated_none c.args.arena.now c.args.ring.now c.args.trail.now

pub returns-in-Satisfied-clause-stepped : goal.returns-in-Satisfied-clause-stepped
returns-in-Satisfied-clause-stepped c =
    let a = at_side c.args.arena.now c.args.ring.now c.args.trail.now c.args.gone c.args.id c.args.side c.args.before c.requires in (
      walk_satisfied c.args.arena.now c.args.ring.now c.args.trail.now c.args.gone c.args.id c.args.side c.args.before c.next.result c.look_at.ensures.trail c.in-Satisfied.ensures.seen c.requires c.next.ensures.value,
      less_next c.args.ring.now c.args.gone c.args.id c.args.side c.next.result c.requires.front a.rest a.list_is (c.next.ensures.ring.once c.args.gone) c.next.ensures.value,
    )

move : (c : goal.After-move_to) → IsMove c.args.arena.now c.args.ring.now c.move_to.new.self c.args.trail.now c.args.gone c.args.id c.args.side c.in-Free.place c.in-Free.lit
move c =
    let a = at_side c.args.arena.now c.args.ring.now c.args.trail.now c.args.gone c.args.id c.args.side c.args.before c.requires in
    record {
      known = a.known;
      side_in = a.side_in;
      behind = c.in-Free.ensures.seen.0.behind;
      within = c.in-Free.ensures.seen.0.within;
      to_is = c.in-Free.ensures.seen.1;
      distinct = c.look_at.ensures.distinct;
      is = a.is;
      stands = a.stands;
      left = subst (λ lit. IsFalseLit (lits_of c.args.trail.now.entries) lit → ⊥) c.in-Free.ensures.seen.1 c.in-Free.ensures.seen.0.left;
      gone_false = c.requires.gone_false;
      leaves = c.move_to.ensures.left;
      joins = c.move_to.ensures.front;
      others = c.move_to.ensures.others;
      vars = c.move_to.ensures.vars;
      clauses_are = c.move_to.ensures.clauses;
    }

pub returns-in-Free-clause-kept : goal.returns-in-Free-clause-kept
returns-in-Free-clause-kept c =
    subst (λ (xs : List ArenaClause). HasPropagated c.args.arena.now c.args.ring.now c.args.trail.now xs c.move_to.new.self c.args.trail.now) (sym c.swap.ensures)
    (propagated_moved c.args.arena.now c.args.ring.now c.move_to.new.self c.args.trail.now c.args.gone c.args.id c.args.side c.in-Free.place c.in-Free.lit (move c))

pub returns-in-Free-clause-connected : goal.returns-in-Free-clause-connected
returns-in-Free-clause-connected c =
    subst (λ (xs : List ArenaClause). IsConnected xs [] c.move_to.new.self c.args.trail.now) (sym c.swap.ensures)
    (connected_moved c.args.arena.now c.args.ring.now c.move_to.new.self c.args.trail.now c.args.gone c.args.id c.args.side c.in-Free.place c.in-Free.lit (move c) c.look_at.ensures.trail c.requires.connected)

pub returns-in-Free-clause-stepped : goal.returns-in-Free-clause-stepped
returns-in-Free-clause-stepped c =
    let a = at_side c.args.arena.now c.args.ring.now c.args.trail.now c.args.gone c.args.id c.args.side c.args.before c.requires in
    let once = c.next-here.ensures.ring.once c.args.gone in (
      subst (λ (xs : List ArenaClause). IsUnderway xs c.move_to.new.self c.args.trail.now c.args.gone c.args.before c.next-here.result) (sym c.swap.ensures)
          (walk_moved c.args.arena.now c.args.ring.now c.move_to.new.self c.args.trail.now c.args.gone c.args.id c.args.side c.in-Free.place c.in-Free.lit c.args.before c.next-here.result (move c) c.look_at.ensures.trail once c.requires c.next-here.ensures.value),
      less_moved (list_of c.args.ring.now c.args.gone) (list_of c.move_to.new.self c.args.gone) c.args.id c.args.side c.next-here.result c.requires.front a.rest a.list_is
          (c.move_to.ensures.left ∙ ap (without (2 * c.args.id + c.args.side)) a.list_is ∙ without_split (2 * c.args.id + c.args.side) c.requires.front a.rest (subst IsOnce a.list_is once))
          once (c.next-here.ensures.value c.args.gone c.requires.front a.rest a.list_is),
    )

pub returns-in-Forced-clause-kept : goal.returns-in-Forced-clause-kept
returns-in-Forced-clause-kept c =
    let a = at_side c.args.arena.now c.args.ring.now c.args.trail.now c.args.gone c.args.id c.args.side c.args.before c.requires in
    let others = others_of c.args.arena.now c.args.ring.now c.args.trail.now c.args.gone c.args.id c.args.side c.args.before c.in-Forced.ensures.seen.2 c.requires in
    propagated_push c.args.arena.now c.args.ring.now c.args.ring.now c.args.trail.now c.assign.new.self c.in-Forced.lit (Some c.args.id) refl refl
    (forced_by c.args.arena.now c.args.trail.now.entries c.args.id c.in-Forced.lit c.args.trail.now.depth a.known
    (subst (HasOthersFalse (lits_of c.args.trail.now.entries) (clause_at c.args.arena.now c.args.id).lits) c.in-Forced.ensures.seen.0 others))
    (record { entries = c.assign.ensures.entries; depth = c.assign.ensures.depth; vars = c.assign.ensures.vars; looked = c.assign.ensures.looked })

pub returns-in-Forced-clause-connected : goal.returns-in-Forced-clause-connected
returns-in-Forced-clause-connected c =
    connected_push c.args.arena.now [] c.args.ring.now c.args.trail.now c.assign.new.self c.in-Forced.lit (Some c.args.id) c.look_at.ensures.trail
    (record { entries = c.assign.ensures.entries; depth = c.assign.ensures.depth; vars = c.assign.ensures.vars; looked = c.assign.ensures.looked })
    c.requires.connected

pub returns-in-Forced-clause-stepped : goal.returns-in-Forced-clause-stepped
returns-in-Forced-clause-stepped c =
    let a = at_side c.args.arena.now c.args.ring.now c.args.trail.now c.args.gone c.args.id c.args.side c.args.before c.requires in (
      walk_forced c.args.arena.now c.args.ring.now c.args.trail.now c.assign.new.self c.args.gone c.args.id c.args.side c.in-Forced.lit (Some c.args.id) c.args.before c.next-in-Forced.result c.look_at.ensures.trail
          (record { entries = c.assign.ensures.entries; depth = c.assign.ensures.depth; vars = c.assign.ensures.vars; looked = c.assign.ensures.looked })
          c.in-Forced.ensures.seen.0 c.requires c.next-in-Forced.ensures.value,
      less_next c.args.ring.now c.args.gone c.args.id c.args.side c.next-in-Forced.result c.requires.front a.rest a.list_is (c.next-in-Forced.ensures.ring.once c.args.gone) c.next-in-Forced.ensures.value,
    )

pub returns-in-False-clause-kept : goal.returns-in-False-clause-kept
returns-in-False-clause-kept c = propagated_none c.args.arena.now c.args.ring.now c.args.trail.now

pub returns-in-False-clause-stepped : goal.returns-in-False-clause-stepped
returns-in-False-clause-stepped c =
    let a = at_side c.args.arena.now c.args.ring.now c.args.trail.now c.args.gone c.args.id c.args.side c.args.before c.requires in
    record {
      known = a.known;
      is = all_false (lits_of c.args.trail.now.entries) (clause_at c.args.arena.now c.args.id).lits _
          (others_of c.args.arena.now c.args.ring.now c.args.trail.now c.args.gone c.args.id c.args.side c.args.before c.in-False.ensures.seen.1 c.requires)
          c.in-False.ensures.seen.0;
    }
