use Rattle.std.proofs.Common.{◌≡◌, ◌∙◌, ℕ, ◌+◌, ◌*◌, refl, subst, arith, set}
use Rattle.std.specs.Prelude.{Option, None, Some}
use Rattle.std.specs.Option.{option_map}
use Rattle.std.proofs.lemmas.List.{get_or_read, length-set}
use Rattle.watch_ring.specs.Link.{number_of}
use Rattle.watch_ring.specs.Ring.{list_of, StandsAfter, without}
use Rattle.watch_ring.specs.Layout.{link_at}
use Rattle.watch_ring.proofs.Steps.{lists_are, kept, others_without}
use Rattle.watch_ring.proofs.Kept.{chains_of, same_room, stands, known, before_known, from_in, left_first_in, left_behind_in, nowhere_left}
use Rattle.watch_ring.proofs.ring.WatchRing.leave.Goals as goal

pub overflow_mul-id : goal.overflow_mul-id
overflow_mul-id c =
    let k = known c.self.inside.heads.items c.self.inside.links.items c.self.inside.vars c.self.inside.clauses c.args.self.now c.args.from _ (2 * c.args.id + c.args.side) c.self.invariant c.self.view_is c.requires.place in
    omega (arith, k, c.self.invariant.room.links_for, c.self.invariant.room.few)

pub overflow_add-id : goal.overflow_add-id
overflow_add-id c =
    let k = known c.self.inside.heads.items c.self.inside.links.items c.self.inside.vars c.self.inside.clauses c.args.self.now c.args.from _ (2 * c.args.id + c.args.side) c.self.invariant c.self.view_is c.requires.place in
    omega (arith, k, c.self.invariant.room.links_for, c.self.invariant.room.few)

pub index-after-requires : goal.index-after-requires
index-after-requires c =
    let k = known c.self.inside.heads.items c.self.inside.links.items c.self.inside.vars c.self.inside.clauses c.args.self.now c.args.from _ (2 * c.args.id + c.args.side) c.self.invariant c.self.view_is c.requires.place in
    omega (arith, k, c.self.invariant.room.links_for, c.self.invariant.room.few)

pub index_mut-requires : goal.index_mut-requires
index_mut-requires c =
    let place : StandsAfter (list_of c.args.self.now c.args.from) None (2 * c.args.id + c.args.side) = subst (λ (b : Option (ℕ × ℕ)). StandsAfter (list_of c.args.self.now c.args.from) (option_map number_of b) (2 * c.args.id + c.args.side)) c.in-None.is c.requires.place in
    let r = from_in c.self.inside.heads.items c.self.inside.links.items c.self.inside.vars c.self.inside.clauses c.args.self.now c.args.from (2 * c.args.id + c.args.side) c.self.invariant c.self.view_is place in
    omega (arith, r, c.code.ensures.value)

pub overflow_mul-id-in-Some : goal.overflow_mul-id-in-Some
overflow_mul-id-in-Some c =
    let place : StandsAfter (list_of c.args.self.now c.args.from) (Some (2 * c.in-Some.id + c.in-Some.side)) (2 * c.args.id + c.args.side) = subst (λ (b : Option (ℕ × ℕ)). StandsAfter (list_of c.args.self.now c.args.from) (option_map number_of b) (2 * c.args.id + c.args.side)) c.in-Some.is c.requires.place in
    let k = before_known c.self.inside.heads.items c.self.inside.links.items c.self.inside.vars c.self.inside.clauses c.args.self.now c.args.from (2 * c.in-Some.id + c.in-Some.side) (2 * c.args.id + c.args.side) c.self.invariant c.self.view_is place in
    omega (arith, k, c.self.invariant.room.links_for, c.self.invariant.room.few)

pub overflow_add-id-in-Some : goal.overflow_add-id-in-Some
overflow_add-id-in-Some c =
    let place : StandsAfter (list_of c.args.self.now c.args.from) (Some (2 * c.in-Some.id + c.in-Some.side)) (2 * c.args.id + c.args.side) = subst (λ (b : Option (ℕ × ℕ)). StandsAfter (list_of c.args.self.now c.args.from) (option_map number_of b) (2 * c.args.id + c.args.side)) c.in-Some.is c.requires.place in
    let k = before_known c.self.inside.heads.items c.self.inside.links.items c.self.inside.vars c.self.inside.clauses c.args.self.now c.args.from (2 * c.in-Some.id + c.in-Some.side) (2 * c.args.id + c.args.side) c.self.invariant c.self.view_is place in
    omega (arith, k, c.self.invariant.room.links_for, c.self.invariant.room.few)

pub index_mut-requires-in-Some : goal.index_mut-requires-in-Some
index_mut-requires-in-Some c =
    let place : StandsAfter (list_of c.args.self.now c.args.from) (Some (2 * c.in-Some.id + c.in-Some.side)) (2 * c.args.id + c.args.side) = subst (λ (b : Option (ℕ × ℕ)). StandsAfter (list_of c.args.self.now c.args.from) (option_map number_of b) (2 * c.args.id + c.args.side)) c.in-Some.is c.requires.place in
    let k = before_known c.self.inside.heads.items c.self.inside.links.items c.self.inside.vars c.self.inside.clauses c.args.self.now c.args.from (2 * c.in-Some.id + c.in-Some.side) (2 * c.args.id + c.args.side) c.self.invariant c.self.view_is place in
    omega (arith, k, c.self.invariant.room.links_for, c.self.invariant.room.few)

pub invariant_of-self : goal.invariant_of-self
invariant_of-self c =
    let k = known c.self.inside.heads.items c.self.inside.links.items c.self.inside.vars c.self.inside.clauses c.args.self.now c.args.from _ (2 * c.args.id + c.args.side) c.self.invariant c.self.view_is c.requires.place in
    let read : c.index-after.result.now ≡ link_at c.self.inside.links.items (2 * c.args.id + c.args.side) = get_or_read c.self.inside.links.items (2 * c.args.id + c.args.side) c.index-after.result.now (omega (arith, k, c.self.invariant.room.links_for)) c.index-after.ensures None in
    let place : StandsAfter (list_of c.args.self.now c.args.from) None (2 * c.args.id + c.args.side) = subst (λ (b : Option (ℕ × ℕ)). StandsAfter (list_of c.args.self.now c.args.from) (option_map number_of b) (2 * c.args.id + c.args.side)) c.in-None.is c.requires.place in
    let chains = left_first_in c.self.inside.heads.items c.self.inside.links.items c.self.inside.vars c.self.inside.clauses c.args.self.now c.args.from c.code.result (2 * c.args.id + c.args.side) c.index-after.result.now c.self.invariant c.self.view_is c.code.ensures.value place read in
    let room = same_room c.self.inside.heads.items c.self.inside.links.items (set c.self.inside.heads.items c.code.result c.index-after.result.now) c.self.inside.links.items c.self.inside.vars c.self.inside.clauses c.self.invariant.room (length-set c.self.inside.heads.items c.code.result c.index-after.result.now) refl in
    kept (set c.self.inside.heads.items c.code.result c.index-after.result.now) c.self.inside.links.items c.self.inside.vars c.self.inside.clauses (λ l. without (2 * c.args.id + c.args.side) (list_of c.args.self.now l)) chains room

pub returns-in-None-clause-left : goal.returns-in-None-clause-left
returns-in-None-clause-left c =
    let k = known c.self.inside.heads.items c.self.inside.links.items c.self.inside.vars c.self.inside.clauses c.args.self.now c.args.from _ (2 * c.args.id + c.args.side) c.self.invariant c.self.view_is c.requires.place in
    let read : c.index-after.result.now ≡ link_at c.self.inside.links.items (2 * c.args.id + c.args.side) = get_or_read c.self.inside.links.items (2 * c.args.id + c.args.side) c.index-after.result.now (omega (arith, k, c.self.invariant.room.links_for)) c.index-after.ensures None in
    let place : StandsAfter (list_of c.args.self.now c.args.from) None (2 * c.args.id + c.args.side) = subst (λ (b : Option (ℕ × ℕ)). StandsAfter (list_of c.args.self.now c.args.from) (option_map number_of b) (2 * c.args.id + c.args.side)) c.in-None.is c.requires.place in
    let chains = left_first_in c.self.inside.heads.items c.self.inside.links.items c.self.inside.vars c.self.inside.clauses c.args.self.now c.args.from c.code.result (2 * c.args.id + c.args.side) c.index-after.result.now c.self.invariant c.self.view_is c.code.ensures.value place read in
    let room = same_room c.self.inside.heads.items c.self.inside.links.items (set c.self.inside.heads.items c.code.result c.index-after.result.now) c.self.inside.links.items c.self.inside.vars c.self.inside.clauses c.self.invariant.room (length-set c.self.inside.heads.items c.code.result c.index-after.result.now) refl in
    lists_are (set c.self.inside.heads.items c.code.result c.index-after.result.now) c.self.inside.links.items c.self.inside.vars c.self.inside.clauses (λ l. without (2 * c.args.id + c.args.side) (list_of c.args.self.now l)) chains room.links_for c.args.from

pub returns-in-None-clause-others : goal.returns-in-None-clause-others
returns-in-None-clause-others c = λ lit n.
    let k = known c.self.inside.heads.items c.self.inside.links.items c.self.inside.vars c.self.inside.clauses c.args.self.now c.args.from _ (2 * c.args.id + c.args.side) c.self.invariant c.self.view_is c.requires.place in
    let read : c.index-after.result.now ≡ link_at c.self.inside.links.items (2 * c.args.id + c.args.side) = get_or_read c.self.inside.links.items (2 * c.args.id + c.args.side) c.index-after.result.now (omega (arith, k, c.self.invariant.room.links_for)) c.index-after.ensures None in
    let place : StandsAfter (list_of c.args.self.now c.args.from) None (2 * c.args.id + c.args.side) = subst (λ (b : Option (ℕ × ℕ)). StandsAfter (list_of c.args.self.now c.args.from) (option_map number_of b) (2 * c.args.id + c.args.side)) c.in-None.is c.requires.place in
    let chains = left_first_in c.self.inside.heads.items c.self.inside.links.items c.self.inside.vars c.self.inside.clauses c.args.self.now c.args.from c.code.result (2 * c.args.id + c.args.side) c.index-after.result.now c.self.invariant c.self.view_is c.code.ensures.value place read in
    let room = same_room c.self.inside.heads.items c.self.inside.links.items (set c.self.inside.heads.items c.code.result c.index-after.result.now) c.self.inside.links.items c.self.inside.vars c.self.inside.clauses c.self.invariant.room (length-set c.self.inside.heads.items c.code.result c.index-after.result.now) refl in
    lists_are (set c.self.inside.heads.items c.code.result c.index-after.result.now) c.self.inside.links.items c.self.inside.vars c.self.inside.clauses (λ l. without (2 * c.args.id + c.args.side) (list_of c.args.self.now l)) chains room.links_for lit ∙ others_without (list_of c.args.self.now) c.self.inside.clauses c.args.from (2 * c.args.id + c.args.side) lit (chains_of c.self.inside.heads.items c.self.inside.links.items c.self.inside.vars c.self.inside.clauses c.args.self.now c.self.invariant c.self.view_is).disjoint (stands (list_of c.args.self.now) c.args.from _ (2 * c.args.id + c.args.side) c.requires.place) n

pub returns-in-None-clause-known : goal.returns-in-None-clause-known
returns-in-None-clause-known c =
    known c.self.inside.heads.items c.self.inside.links.items c.self.inside.vars c.self.inside.clauses c.args.self.now c.args.from _ (2 * c.args.id + c.args.side) c.self.invariant c.self.view_is c.requires.place

pub returns-in-None-clause-nowhere : goal.returns-in-None-clause-nowhere
returns-in-None-clause-nowhere c =
    let k = known c.self.inside.heads.items c.self.inside.links.items c.self.inside.vars c.self.inside.clauses c.args.self.now c.args.from _ (2 * c.args.id + c.args.side) c.self.invariant c.self.view_is c.requires.place in
    let read : c.index-after.result.now ≡ link_at c.self.inside.links.items (2 * c.args.id + c.args.side) = get_or_read c.self.inside.links.items (2 * c.args.id + c.args.side) c.index-after.result.now (omega (arith, k, c.self.invariant.room.links_for)) c.index-after.ensures None in
    let place : StandsAfter (list_of c.args.self.now c.args.from) None (2 * c.args.id + c.args.side) = subst (λ (b : Option (ℕ × ℕ)). StandsAfter (list_of c.args.self.now c.args.from) (option_map number_of b) (2 * c.args.id + c.args.side)) c.in-None.is c.requires.place in
    let chains = left_first_in c.self.inside.heads.items c.self.inside.links.items c.self.inside.vars c.self.inside.clauses c.args.self.now c.args.from c.code.result (2 * c.args.id + c.args.side) c.index-after.result.now c.self.invariant c.self.view_is c.code.ensures.value place read in
    let room = same_room c.self.inside.heads.items c.self.inside.links.items (set c.self.inside.heads.items c.code.result c.index-after.result.now) c.self.inside.links.items c.self.inside.vars c.self.inside.clauses c.self.invariant.room (length-set c.self.inside.heads.items c.code.result c.index-after.result.now) refl in
    nowhere_left (set c.self.inside.heads.items c.code.result c.index-after.result.now) c.self.inside.links.items c.self.inside.vars c.self.inside.clauses (2 * c.args.id + c.args.side) (list_of c.args.self.now) chains room.links_for

pub invariant_of-self-in-Some : goal.invariant_of-self-in-Some
invariant_of-self-in-Some c =
    let k = known c.self.inside.heads.items c.self.inside.links.items c.self.inside.vars c.self.inside.clauses c.args.self.now c.args.from _ (2 * c.args.id + c.args.side) c.self.invariant c.self.view_is c.requires.place in
    let read : c.index-after.result.now ≡ link_at c.self.inside.links.items (2 * c.args.id + c.args.side) = get_or_read c.self.inside.links.items (2 * c.args.id + c.args.side) c.index-after.result.now (omega (arith, k, c.self.invariant.room.links_for)) c.index-after.ensures None in
    let place : StandsAfter (list_of c.args.self.now c.args.from) (Some (2 * c.in-Some.id + c.in-Some.side)) (2 * c.args.id + c.args.side) = subst (λ (b : Option (ℕ × ℕ)). StandsAfter (list_of c.args.self.now c.args.from) (option_map number_of b) (2 * c.args.id + c.args.side)) c.in-Some.is c.requires.place in
    let chains = left_behind_in c.self.inside.heads.items c.self.inside.links.items c.self.inside.vars c.self.inside.clauses c.args.self.now c.args.from (2 * c.in-Some.id + c.in-Some.side) (2 * c.args.id + c.args.side) c.index-after.result.now c.self.invariant c.self.view_is place read in
    let room = same_room c.self.inside.heads.items c.self.inside.links.items c.self.inside.heads.items (set c.self.inside.links.items (2 * c.in-Some.id + c.in-Some.side) c.index-after.result.now) c.self.inside.vars c.self.inside.clauses c.self.invariant.room refl (length-set c.self.inside.links.items (2 * c.in-Some.id + c.in-Some.side) c.index-after.result.now) in
    kept c.self.inside.heads.items (set c.self.inside.links.items (2 * c.in-Some.id + c.in-Some.side) c.index-after.result.now) c.self.inside.vars c.self.inside.clauses (λ l. without (2 * c.args.id + c.args.side) (list_of c.args.self.now l)) chains room

pub returns-in-Some-clause-left : goal.returns-in-Some-clause-left
returns-in-Some-clause-left c =
    let k = known c.self.inside.heads.items c.self.inside.links.items c.self.inside.vars c.self.inside.clauses c.args.self.now c.args.from _ (2 * c.args.id + c.args.side) c.self.invariant c.self.view_is c.requires.place in
    let read : c.index-after.result.now ≡ link_at c.self.inside.links.items (2 * c.args.id + c.args.side) = get_or_read c.self.inside.links.items (2 * c.args.id + c.args.side) c.index-after.result.now (omega (arith, k, c.self.invariant.room.links_for)) c.index-after.ensures None in
    let place : StandsAfter (list_of c.args.self.now c.args.from) (Some (2 * c.in-Some.id + c.in-Some.side)) (2 * c.args.id + c.args.side) = subst (λ (b : Option (ℕ × ℕ)). StandsAfter (list_of c.args.self.now c.args.from) (option_map number_of b) (2 * c.args.id + c.args.side)) c.in-Some.is c.requires.place in
    let chains = left_behind_in c.self.inside.heads.items c.self.inside.links.items c.self.inside.vars c.self.inside.clauses c.args.self.now c.args.from (2 * c.in-Some.id + c.in-Some.side) (2 * c.args.id + c.args.side) c.index-after.result.now c.self.invariant c.self.view_is place read in
    let room = same_room c.self.inside.heads.items c.self.inside.links.items c.self.inside.heads.items (set c.self.inside.links.items (2 * c.in-Some.id + c.in-Some.side) c.index-after.result.now) c.self.inside.vars c.self.inside.clauses c.self.invariant.room refl (length-set c.self.inside.links.items (2 * c.in-Some.id + c.in-Some.side) c.index-after.result.now) in
    lists_are c.self.inside.heads.items (set c.self.inside.links.items (2 * c.in-Some.id + c.in-Some.side) c.index-after.result.now) c.self.inside.vars c.self.inside.clauses (λ l. without (2 * c.args.id + c.args.side) (list_of c.args.self.now l)) chains room.links_for c.args.from

pub returns-in-Some-clause-others : goal.returns-in-Some-clause-others
returns-in-Some-clause-others c = λ lit n.
    let k = known c.self.inside.heads.items c.self.inside.links.items c.self.inside.vars c.self.inside.clauses c.args.self.now c.args.from _ (2 * c.args.id + c.args.side) c.self.invariant c.self.view_is c.requires.place in
    let read : c.index-after.result.now ≡ link_at c.self.inside.links.items (2 * c.args.id + c.args.side) = get_or_read c.self.inside.links.items (2 * c.args.id + c.args.side) c.index-after.result.now (omega (arith, k, c.self.invariant.room.links_for)) c.index-after.ensures None in
    let place : StandsAfter (list_of c.args.self.now c.args.from) (Some (2 * c.in-Some.id + c.in-Some.side)) (2 * c.args.id + c.args.side) = subst (λ (b : Option (ℕ × ℕ)). StandsAfter (list_of c.args.self.now c.args.from) (option_map number_of b) (2 * c.args.id + c.args.side)) c.in-Some.is c.requires.place in
    let chains = left_behind_in c.self.inside.heads.items c.self.inside.links.items c.self.inside.vars c.self.inside.clauses c.args.self.now c.args.from (2 * c.in-Some.id + c.in-Some.side) (2 * c.args.id + c.args.side) c.index-after.result.now c.self.invariant c.self.view_is place read in
    let room = same_room c.self.inside.heads.items c.self.inside.links.items c.self.inside.heads.items (set c.self.inside.links.items (2 * c.in-Some.id + c.in-Some.side) c.index-after.result.now) c.self.inside.vars c.self.inside.clauses c.self.invariant.room refl (length-set c.self.inside.links.items (2 * c.in-Some.id + c.in-Some.side) c.index-after.result.now) in
    lists_are c.self.inside.heads.items (set c.self.inside.links.items (2 * c.in-Some.id + c.in-Some.side) c.index-after.result.now) c.self.inside.vars c.self.inside.clauses (λ l. without (2 * c.args.id + c.args.side) (list_of c.args.self.now l)) chains room.links_for lit ∙ others_without (list_of c.args.self.now) c.self.inside.clauses c.args.from (2 * c.args.id + c.args.side) lit (chains_of c.self.inside.heads.items c.self.inside.links.items c.self.inside.vars c.self.inside.clauses c.args.self.now c.self.invariant c.self.view_is).disjoint (stands (list_of c.args.self.now) c.args.from _ (2 * c.args.id + c.args.side) c.requires.place) n

pub returns-in-Some-clause-known : goal.returns-in-Some-clause-known
returns-in-Some-clause-known c =
    known c.self.inside.heads.items c.self.inside.links.items c.self.inside.vars c.self.inside.clauses c.args.self.now c.args.from _ (2 * c.args.id + c.args.side) c.self.invariant c.self.view_is c.requires.place

pub returns-in-Some-clause-nowhere : goal.returns-in-Some-clause-nowhere
returns-in-Some-clause-nowhere c =
    let k = known c.self.inside.heads.items c.self.inside.links.items c.self.inside.vars c.self.inside.clauses c.args.self.now c.args.from _ (2 * c.args.id + c.args.side) c.self.invariant c.self.view_is c.requires.place in
    let read : c.index-after.result.now ≡ link_at c.self.inside.links.items (2 * c.args.id + c.args.side) = get_or_read c.self.inside.links.items (2 * c.args.id + c.args.side) c.index-after.result.now (omega (arith, k, c.self.invariant.room.links_for)) c.index-after.ensures None in
    let place : StandsAfter (list_of c.args.self.now c.args.from) (Some (2 * c.in-Some.id + c.in-Some.side)) (2 * c.args.id + c.args.side) = subst (λ (b : Option (ℕ × ℕ)). StandsAfter (list_of c.args.self.now c.args.from) (option_map number_of b) (2 * c.args.id + c.args.side)) c.in-Some.is c.requires.place in
    let chains = left_behind_in c.self.inside.heads.items c.self.inside.links.items c.self.inside.vars c.self.inside.clauses c.args.self.now c.args.from (2 * c.in-Some.id + c.in-Some.side) (2 * c.args.id + c.args.side) c.index-after.result.now c.self.invariant c.self.view_is place read in
    let room = same_room c.self.inside.heads.items c.self.inside.links.items c.self.inside.heads.items (set c.self.inside.links.items (2 * c.in-Some.id + c.in-Some.side) c.index-after.result.now) c.self.inside.vars c.self.inside.clauses c.self.invariant.room refl (length-set c.self.inside.links.items (2 * c.in-Some.id + c.in-Some.side) c.index-after.result.now) in
    nowhere_left c.self.inside.heads.items (set c.self.inside.links.items (2 * c.in-Some.id + c.in-Some.side) c.index-after.result.now) c.self.inside.vars c.self.inside.clauses (2 * c.args.id + c.args.side) (list_of c.args.self.now) chains room.links_for
