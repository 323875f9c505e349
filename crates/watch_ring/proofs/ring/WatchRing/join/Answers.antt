use Rattle.std.proofs.Common.{◌≡◌, ◌∙◌, ◌+◌, ◌*◌, ◌<◌, ◌≤◌, length, ap, subst, sym, arith, set}
use Rattle.std.specs.Prelude.{None}
use Rattle.std.proofs.lemmas.List.{get_or_read, length-set}
use Rattle.sat_base.specs.Lit.{variable}
use Rattle.watch_ring.specs.Ring.{list_of}
use Rattle.watch_ring.specs.Layout.{link_at}
use Rattle.watch_ring.proofs.Steps.{lists_are, kept, with_front, front_same, front_other}
use Rattle.watch_ring.proofs.Kept.{head_in, same_room, joined_in}
use Rattle.watch_ring.proofs.ring.WatchRing.join.Goals as goal

pub overflow_mul-number : goal.overflow_mul-number
overflow_mul-number c = omega (arith, c.requires.clause, c.requires.side, c.self.invariant.room.links_for, c.self.invariant.room.few, ap (λ v. v.clauses) c.self.view_is)

pub overflow_add-number : goal.overflow_add-number
overflow_add-number c = omega (arith, c.requires.clause, c.requires.side, c.self.invariant.room.links_for, c.self.invariant.room.few, ap (λ v. v.clauses) c.self.view_is)

pub invariant_of-self : goal.invariant_of-self
invariant_of-self c =
    let vars : variable c.args.lit ≤ c.self.inside.vars = subst (λ v. variable c.args.lit ≤ v) (sym (ap (λ v. v.vars) c.self.view_is)) c.requires.var in
    let lt : c.args.lit < length c.self.inside.heads.items = head_in c.self.inside.heads.items c.self.inside.links.items c.self.inside.vars c.self.inside.clauses c.args.lit c.self.invariant.room c.code-head.ensures.lit vars in
    let below : 2 * c.args.id + c.args.side < 2 * c.self.inside.clauses = omega (arith, c.requires.clause, c.requires.side, ap (λ v. v.clauses) c.self.view_is) in
    let read : c.index-first.result.now ≡ link_at c.self.inside.heads.items c.code-head.result = get_or_read c.self.inside.heads.items c.code-head.result c.index-first.result.now (omega (arith, lt, c.code-head.ensures.value)) c.index-first.ensures None in
    let chains = joined_in c.self.inside.heads.items c.self.inside.links.items c.self.inside.vars c.self.inside.clauses c.args.self.now c.args.lit c.code-head.result (2 * c.args.id + c.args.side) c.to.result c.index-first.result.now c.self.invariant c.self.view_is c.code-head.ensures.value lt below c.requires.nowhere c.to.ensures read in
    let room = same_room c.self.inside.heads.items c.self.inside.links.items (set c.self.inside.heads.items c.code-head.result c.to.result) (set c.self.inside.links.items (2 * c.args.id + c.args.side) c.index-first.result.now) c.self.inside.vars c.self.inside.clauses c.self.invariant.room (length-set c.self.inside.heads.items c.code-head.result c.to.result) (length-set c.self.inside.links.items (2 * c.args.id + c.args.side) c.index-first.result.now) in
    kept (set c.self.inside.heads.items c.code-head.result c.to.result) (set c.self.inside.links.items (2 * c.args.id + c.args.side) c.index-first.result.now) c.self.inside.vars c.self.inside.clauses (with_front (list_of c.args.self.now) c.args.lit (2 * c.args.id + c.args.side)) chains room

pub returns-clause-front : goal.returns-clause-front
returns-clause-front c =
    let vars : variable c.args.lit ≤ c.self.inside.vars = subst (λ v. variable c.args.lit ≤ v) (sym (ap (λ v. v.vars) c.self.view_is)) c.requires.var in
    let lt : c.args.lit < length c.self.inside.heads.items = head_in c.self.inside.heads.items c.self.inside.links.items c.self.inside.vars c.self.inside.clauses c.args.lit c.self.invariant.room c.code-head.ensures.lit vars in
    let below : 2 * c.args.id + c.args.side < 2 * c.self.inside.clauses = omega (arith, c.requires.clause, c.requires.side, ap (λ v. v.clauses) c.self.view_is) in
    let read : c.index-first.result.now ≡ link_at c.self.inside.heads.items c.code-head.result = get_or_read c.self.inside.heads.items c.code-head.result c.index-first.result.now (omega (arith, lt, c.code-head.ensures.value)) c.index-first.ensures None in
    let chains = joined_in c.self.inside.heads.items c.self.inside.links.items c.self.inside.vars c.self.inside.clauses c.args.self.now c.args.lit c.code-head.result (2 * c.args.id + c.args.side) c.to.result c.index-first.result.now c.self.invariant c.self.view_is c.code-head.ensures.value lt below c.requires.nowhere c.to.ensures read in
    let room = same_room c.self.inside.heads.items c.self.inside.links.items (set c.self.inside.heads.items c.code-head.result c.to.result) (set c.self.inside.links.items (2 * c.args.id + c.args.side) c.index-first.result.now) c.self.inside.vars c.self.inside.clauses c.self.invariant.room (length-set c.self.inside.heads.items c.code-head.result c.to.result) (length-set c.self.inside.links.items (2 * c.args.id + c.args.side) c.index-first.result.now) in
    lists_are (set c.self.inside.heads.items c.code-head.result c.to.result) (set c.self.inside.links.items (2 * c.args.id + c.args.side) c.index-first.result.now) c.self.inside.vars c.self.inside.clauses (with_front (list_of c.args.self.now) c.args.lit (2 * c.args.id + c.args.side)) chains room.links_for c.args.lit ∙ front_same (list_of c.args.self.now) c.args.lit (2 * c.args.id + c.args.side)

pub returns-clause-others : goal.returns-clause-others
returns-clause-others c = λ other n.
    let vars : variable c.args.lit ≤ c.self.inside.vars = subst (λ v. variable c.args.lit ≤ v) (sym (ap (λ v. v.vars) c.self.view_is)) c.requires.var in
    let lt : c.args.lit < length c.self.inside.heads.items = head_in c.self.inside.heads.items c.self.inside.links.items c.self.inside.vars c.self.inside.clauses c.args.lit c.self.invariant.room c.code-head.ensures.lit vars in
    let below : 2 * c.args.id + c.args.side < 2 * c.self.inside.clauses = omega (arith, c.requires.clause, c.requires.side, ap (λ v. v.clauses) c.self.view_is) in
    let read : c.index-first.result.now ≡ link_at c.self.inside.heads.items c.code-head.result = get_or_read c.self.inside.heads.items c.code-head.result c.index-first.result.now (omega (arith, lt, c.code-head.ensures.value)) c.index-first.ensures None in
    let chains = joined_in c.self.inside.heads.items c.self.inside.links.items c.self.inside.vars c.self.inside.clauses c.args.self.now c.args.lit c.code-head.result (2 * c.args.id + c.args.side) c.to.result c.index-first.result.now c.self.invariant c.self.view_is c.code-head.ensures.value lt below c.requires.nowhere c.to.ensures read in
    let room = same_room c.self.inside.heads.items c.self.inside.links.items (set c.self.inside.heads.items c.code-head.result c.to.result) (set c.self.inside.links.items (2 * c.args.id + c.args.side) c.index-first.result.now) c.self.inside.vars c.self.inside.clauses c.self.invariant.room (length-set c.self.inside.heads.items c.code-head.result c.to.result) (length-set c.self.inside.links.items (2 * c.args.id + c.args.side) c.index-first.result.now) in
    lists_are (set c.self.inside.heads.items c.code-head.result c.to.result) (set c.self.inside.links.items (2 * c.args.id + c.args.side) c.index-first.result.now) c.self.inside.vars c.self.inside.clauses (with_front (list_of c.args.self.now) c.args.lit (2 * c.args.id + c.args.side)) chains room.links_for other ∙ front_other (list_of c.args.self.now) c.args.lit (2 * c.args.id + c.args.side) other n
