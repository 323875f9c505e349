use Rattle.std.proofs.Common.{◌≤◌, length, refl, arith}
use Rattle.watch_ring.specs.Ring.{list_of}
use Rattle.watch_ring.proofs.Steps.{lists_are, kept}
use Rattle.watch_ring.proofs.Kept.{extended_in, longer_room, more_room}
use Rattle.watch_ring.proofs.ring.WatchRing.reserve.Goals as goal

pub invariant_of-self : goal.invariant_of-self
invariant_of-self c =
    let chains = extended_in c.self.inside.heads.items c.self.inside.links.items c.extend.new.links.items c.self.inside.links.items c.self.inside.vars c.self.inside.clauses c.self.inside.clauses c.args.self.now c.self.invariant c.self.view_is (omega arith) c.extend.ensures.extended.same (λ i. refl) in
    let room = longer_room c.self.inside.heads.items c.self.inside.links.items c.extend.new.links.items c.self.inside.links.items c.self.inside.vars c.self.inside.clauses c.self.invariant.room c.extend.ensures.extended.longer (omega arith) c.self.invariant.room.few in
    kept c.extend.new.links.items c.self.inside.links.items c.self.inside.vars c.self.inside.clauses (list_of c.args.self.now) chains room

pub returns-in_err-extend-clause-lists : goal.returns-in_err-extend-clause-lists
returns-in_err-extend-clause-lists c =
    let chains = extended_in c.self.inside.heads.items c.self.inside.links.items c.extend.new.links.items c.self.inside.links.items c.self.inside.vars c.self.inside.clauses c.self.inside.clauses c.args.self.now c.self.invariant c.self.view_is (omega arith) c.extend.ensures.extended.same (λ i. refl) in
    let room = longer_room c.self.inside.heads.items c.self.inside.links.items c.extend.new.links.items c.self.inside.links.items c.self.inside.vars c.self.inside.clauses c.self.invariant.room c.extend.ensures.extended.longer (omega arith) c.self.invariant.room.few in
    lists_are c.extend.new.links.items c.self.inside.links.items c.self.inside.vars c.self.inside.clauses (list_of c.args.self.now) chains room.links_for

pub invariant_of-self-in_err-extend-2 : goal.invariant_of-self-in_err-extend-2
invariant_of-self-in_err-extend-2 c =
    let chains = extended_in c.self.inside.heads.items c.self.inside.links.items c.extend.new.links.items c.extend-2.new.links.items c.self.inside.vars c.self.inside.clauses c.self.inside.clauses c.args.self.now c.self.invariant c.self.view_is (omega arith) c.extend.ensures.extended.same c.extend-2.ensures.extended.same in
    let few : length c.extend-2.new.links.items ≤ 4294967294 = omega (arith, c.extend-2.ensures.extended.few, c.self.invariant.room.few, c.if-clauses-gt-MOST_CLAUSES.false) in
    let room = longer_room c.self.inside.heads.items c.self.inside.links.items c.extend.new.links.items c.extend-2.new.links.items c.self.inside.vars c.self.inside.clauses c.self.invariant.room c.extend.ensures.extended.longer c.extend-2.ensures.extended.longer few in
    kept c.extend.new.links.items c.extend-2.new.links.items c.self.inside.vars c.self.inside.clauses (list_of c.args.self.now) chains room

pub returns-in_err-extend-2-clause-lists : goal.returns-in_err-extend-2-clause-lists
returns-in_err-extend-2-clause-lists c =
    let chains = extended_in c.self.inside.heads.items c.self.inside.links.items c.extend.new.links.items c.extend-2.new.links.items c.self.inside.vars c.self.inside.clauses c.self.inside.clauses c.args.self.now c.self.invariant c.self.view_is (omega arith) c.extend.ensures.extended.same c.extend-2.ensures.extended.same in
    let few : length c.extend-2.new.links.items ≤ 4294967294 = omega (arith, c.extend-2.ensures.extended.few, c.self.invariant.room.few, c.if-clauses-gt-MOST_CLAUSES.false) in
    let room = longer_room c.self.inside.heads.items c.self.inside.links.items c.extend.new.links.items c.extend-2.new.links.items c.self.inside.vars c.self.inside.clauses c.self.invariant.room c.extend.ensures.extended.longer c.extend-2.ensures.extended.longer few in
    lists_are c.extend.new.links.items c.extend-2.new.links.items c.self.inside.vars c.self.inside.clauses (list_of c.args.self.now) chains room.links_for

pub invariant_of-self-2 : goal.invariant_of-self-2
invariant_of-self-2 c =
    let chains = extended_in c.self.inside.heads.items c.self.inside.links.items c.extend.new.links.items c.extend-2.new.links.items c.self.inside.vars c.self.inside.clauses c.max-self-inside-2.result c.args.self.now c.self.invariant c.self.view_is (omega (arith, c.max-self-inside-2.ensures)) c.extend.ensures.extended.same c.extend-2.ensures.extended.same in
    let few : length c.extend-2.new.links.items ≤ 4294967294 = omega (arith, c.extend-2.ensures.extended.few, c.self.invariant.room.few, c.if-clauses-gt-MOST_CLAUSES.false) in
    let old = longer_room c.self.inside.heads.items c.self.inside.links.items c.extend.new.links.items c.extend-2.new.links.items c.self.inside.vars c.self.inside.clauses c.self.invariant.room c.extend.ensures.extended.longer c.extend-2.ensures.extended.longer few in
    let room = more_room c.extend.new.links.items c.extend-2.new.links.items c.self.inside.vars c.self.inside.clauses c.args.vars c.args.clauses c.max-self-inside.result c.max-self-inside-2.result old (omega (arith, c.in_ok-extend.ensures.ok, c.min.ensures)) (omega (arith, c.in_ok-extend-2.ensures.ok)) (omega (arith, c.max-self-inside.ensures)) (omega (arith, c.max-self-inside-2.ensures)) in
    kept c.extend.new.links.items c.extend-2.new.links.items c.max-self-inside.result c.max-self-inside-2.result (list_of c.args.self.now) chains room

pub returns-clause-lists : goal.returns-clause-lists
returns-clause-lists c =
    let chains = extended_in c.self.inside.heads.items c.self.inside.links.items c.extend.new.links.items c.extend-2.new.links.items c.self.inside.vars c.self.inside.clauses c.max-self-inside-2.result c.args.self.now c.self.invariant c.self.view_is (omega (arith, c.max-self-inside-2.ensures)) c.extend.ensures.extended.same c.extend-2.ensures.extended.same in
    let few : length c.extend-2.new.links.items ≤ 4294967294 = omega (arith, c.extend-2.ensures.extended.few, c.self.invariant.room.few, c.if-clauses-gt-MOST_CLAUSES.false) in
    let old = longer_room c.self.inside.heads.items c.self.inside.links.items c.extend.new.links.items c.extend-2.new.links.items c.self.inside.vars c.self.inside.clauses c.self.invariant.room c.extend.ensures.extended.longer c.extend-2.ensures.extended.longer few in
    let room = more_room c.extend.new.links.items c.extend-2.new.links.items c.self.inside.vars c.self.inside.clauses c.args.vars c.args.clauses c.max-self-inside.result c.max-self-inside-2.result old (omega (arith, c.in_ok-extend.ensures.ok, c.min.ensures)) (omega (arith, c.in_ok-extend-2.ensures.ok)) (omega (arith, c.max-self-inside.ensures)) (omega (arith, c.max-self-inside-2.ensures)) in
    lists_are c.extend.new.links.items c.extend-2.new.links.items c.max-self-inside.result c.max-self-inside-2.result (list_of c.args.self.now) chains room.links_for
