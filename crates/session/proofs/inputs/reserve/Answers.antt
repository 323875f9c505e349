use Rattle.std.proofs.Common.{length, refl, ap, sym, subst, arith}
use Rattle.std.proofs.lemmas.List.{take_all}
use Rattle.trail_core.specs.Trail.{TrailView, IsTrail}
use Rattle.session.proofs.Reserved.{search_reserved, longer}
use Rattle.session.proofs.inputs.reserve.Goals as goal

pub returns-in_err-reserve-2-clause-kept : goal.returns-in_err-reserve-2-clause-kept
returns-in_err-reserve-2-clause-kept c =
    let s = c.args.search.now in
    let room = c.requires.kept.room in
    search_reserved s c.reserve.new.self c.reserve-2.new.self s.units s.tags s.trail c.requires.kept c.requires.kept.trail c.in_ok-reserve.ensures.clauses c.reserve.ensures.fresh refl refl refl (omega arith)
    (omega (arith, room.in_store, c.in_ok-reserve.ensures.ok))
    (omega (arith, room.in_scratch, c.in_err-reserve-2.ensures.err)) room.in_units room.in_tags
    (take_all (length s.units.items) s.units.items (omega arith))
    (take_all (length s.tags.items) s.tags.items (omega arith))

pub returns-in_err-grow_units-clause-kept : goal.returns-in_err-grow_units-clause-kept
returns-in_err-grow_units-clause-kept c =
    let s = c.args.search.now in
    let room = c.requires.kept.room in
    let front = c.grow_units.ensures.front in
    search_reserved s c.reserve.new.self c.reserve-2.new.self c.grow_units.new.units s.tags s.trail c.requires.kept c.requires.kept.trail c.in_ok-reserve.ensures.clauses c.reserve.ensures.fresh refl refl refl (omega arith)
    (omega (arith, room.in_store, c.in_ok-reserve.ensures.ok))
    (omega (arith, room.in_scratch, c.in_ok-reserve-2.ensures.ok))
    (let more = longer s.units.items c.grow_units.new.units.items front in omega
    (arith, more, room.in_units)) room.in_tags
    front (take_all (length s.tags.items) s.tags.items (omega arith))

pub returns-in_err-grow_tags-clause-kept : goal.returns-in_err-grow_tags-clause-kept
returns-in_err-grow_tags-clause-kept c =
    let s = c.args.search.now in
    let room = c.requires.kept.room in
    let front = c.grow_units.ensures.front in
    let tags_front = c.grow_tags.ensures.front in
    search_reserved s c.reserve.new.self c.reserve-2.new.self c.grow_units.new.units c.grow_tags.new.tags s.trail c.requires.kept c.requires.kept.trail c.in_ok-reserve.ensures.clauses c.reserve.ensures.fresh refl refl refl (omega arith)
    (omega (arith, room.in_store, c.in_ok-reserve.ensures.ok))
    (omega (arith, room.in_scratch, c.in_ok-reserve-2.ensures.ok))
    (let more = longer s.units.items c.grow_units.new.units.items front in omega
    (arith, more, room.in_units))
    (let more = longer s.tags.items c.grow_tags.new.tags.items tags_front in omega
    (arith, more, room.in_tags)) front tags_front

pub returns-in_err-reserve-3-clause-kept : goal.returns-in_err-reserve-3-clause-kept
returns-in_err-reserve-3-clause-kept c =
    let s = c.args.search.now in
    let room = c.requires.kept.room in
    let front = c.grow_units.ensures.front in
    let tags_front = c.grow_tags.ensures.front in
    let vars = ap (λ (t : TrailView). t.vars) c.in_err-reserve-3.ensures.err in
    search_reserved s c.reserve.new.self c.reserve-2.new.self c.grow_units.new.units c.grow_tags.new.tags c.reserve-3.new.self c.requires.kept (subst IsTrail (sym c.in_err-reserve-3.ensures.err) c.requires.kept.trail) c.in_ok-reserve.ensures.clauses c.reserve.ensures.fresh c.in_err-reserve-3.ensures.entries c.in_err-reserve-3.ensures.depth c.in_err-reserve-3.ensures.looked (omega (arith, vars))
    (omega (arith, vars, room.in_store, c.in_ok-reserve.ensures.ok))
    (omega (arith, vars, room.in_scratch, c.in_ok-reserve-2.ensures.ok))
    (let more = longer s.units.items c.grow_units.new.units.items front in omega
    (arith, vars, more, room.in_units))
    (let more = longer s.tags.items c.grow_tags.new.tags.items tags_front in omega
    (arith, vars, more, room.in_tags)) front tags_front

pub returns-clause-kept : goal.returns-clause-kept
returns-clause-kept c =
    let s = c.args.search.now in
    let room = c.requires.kept.room in
    let front = c.grow_units.ensures.front in
    let tags_front = c.grow_tags.ensures.front in
    let vars = c.in_ok-reserve-3.ensures.ok in
    search_reserved s c.reserve.new.self c.reserve-2.new.self c.grow_units.new.units c.grow_tags.new.tags c.reserve-3.new.self c.requires.kept c.depth.ensures.trail c.in_ok-reserve.ensures.clauses c.reserve.ensures.fresh c.in_ok-reserve-3.ensures.entries c.in_ok-reserve-3.ensures.depth c.in_ok-reserve-3.ensures.looked (omega (arith, vars))
    (omega (arith, vars, room.in_store, c.in_ok-reserve.ensures.ok))
    (omega (arith, vars, room.in_scratch, c.in_ok-reserve-2.ensures.ok))
    (let more = longer s.units.items c.grow_units.new.units.items front in omega
    (arith, vars, more, room.in_units, c.in_ok-grow_units.ensures.ok))
    (let more = longer s.tags.items c.grow_tags.new.tags.items tags_front in omega
    (arith, vars, more, room.in_tags, c.in_ok-grow_tags.ensures.ok)) front tags_front
