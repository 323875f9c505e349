use Rattle.std.proofs.Common.{◌∙◌, ℕ, List, [], ◌∷◌, ◌++◌, ap, sym, subst}
use Rattle.propagate.specs.Store.{StoreView}
use Rattle.trace_core.specs.declared.derivation.Step.{Step}
use Rattle.session.specs.Searching.{IsSearching}
use Rattle.session.proofs.Learnings.{search_taught, search_unlisted}
use Rattle.session.proofs.OnCubes.{on_cube_taught}
use Rattle.session.proofs.conflicts.hold.Goals as goal

pub returns-in_err-reserve-clause-kept : goal.returns-in_err-reserve-clause-kept
returns-in_err-reserve-clause-kept c = search_unlisted c.args.search.now c.reserve.new.self c.requires.kept c.reserve.ensures.items

pub returns-in_err-id-clause-kept : goal.returns-in_err-id-clause-kept
returns-in_err-id-clause-kept c =
    let s = c.args.search.now in
    subst (λ (store : StoreView). IsSearching (record s { store = store; learnt = c.reserve.new.self }))
    (sym c.in_err-id.ensures.err)
    (search_unlisted s c.reserve.new.self c.requires.kept c.reserve.ensures.items)

pub returns-clause-kept : goal.returns-clause-kept
returns-clause-kept c =
    let s = c.args.search.now in
    let r = c.requires in
    let step : Step = record { clause = c.args.clause.now; hints = []; tag = c.args.tag } in
    search_taught s c.add.new.self c.assign.new.self c.push_reserved.new.self step c.args.number c.in_ok-id.id c.args.lit r.kept c.in_ok-id.ensures.ok c.in_ok-id.ensures.fresh c.in_ok-id.ensures.vars
    (c.push_reserved.ensures.items ∙ ap (λ (xs : List ℕ). xs ++ c.args.number ∷ []) c.reserve.ensures.items)
    c.assign.ensures.entries c.assign.ensures.depth c.assign.ensures.vars c.assign.ensures.looked c.depth.ensures.trail c.in_ok-id.ensures.number r.step r.set r.within r.open_below r.forced r.ready r.nothing_new

pub returns-clause-cubes : goal.returns-clause-cubes
returns-clause-cubes c =
    on_cube_taught c.args.search.now c.add.new.self c.assign.new.self c.push_reserved.new.self c.args.lit c.in_ok-id.id c.assign.ensures.entries c.assign.ensures.depth
