use Rattle.std.proofs.Common.{◌≡◌, ◌∙◌, ◌+◌, ◌∷◌, [], ◌++◌, None}
use Rattle.clause_arena.specs.Arena.{lits_of_each}
use Rattle.session.proofs.Descents.{room_for_level, search_decided, entry_levels}
use Rattle.session.proofs.Keeping.{search_moved}
use Rattle.session.proofs.OnCubes.{on_cube_decided, on_cube_undecided}
use Rattle.session.proofs.levels.decide.Goals as goal

pub open_level-requires : goal.open_level-requires
open_level-requires c =
    let s = c.args.search.now in
    room_for_level (lits_of_each s.store.clauses) s.trail c.args.lit c.requires.kept.trail c.requires.kept.on.founded c.requires.is c.requires.within c.requires.free

pub returns-in_err-push-clause-kept : goal.returns-in_err-push-clause-kept
returns-in_err-push-clause-kept c =
    let s = c.args.search.now in
    search_moved s s.cursor c.push.new.self s.order c.requires.kept c.in_err-push.ensures.items c.requires.kept.order

pub returns-in_err-push-clause-cube : goal.returns-in_err-push-clause-cube
returns-in_err-push-clause-cube c = λ cube allowed on_cube.
    on_cube_undecided cube c.args.search.now c.push.new.self c.in_err-push.ensures.items on_cube

-- the decision is the last entry
decided : (c : goal.After-depth) → c.assign.new.self.entries ≡ c.args.search.now.trail.entries
    ++ record { lit = c.args.lit; level = c.args.search.now.trail.depth + 1; reason = None } ∷ []
decided c =
    let s = c.args.search.now in
    c.assign.ensures.entries
    ∙ entry_levels s.trail.entries c.open_level.new.self.entries c.args.lit c.open_level.new.self.depth (s.trail.depth + 1) c.open_level.ensures.entries c.open_level.ensures.depth

pub returns-clause-kept : goal.returns-clause-kept
returns-clause-kept c =
    search_decided c.args.search.now c.assign.new.self c.push.new.self c.args.lit c.requires.kept c.depth.ensures.trail c.requires.complete c.requires.all_named
    (decided c)
    (c.assign.ensures.depth ∙ c.open_level.ensures.depth)
    (c.assign.ensures.vars ∙ c.open_level.ensures.vars)
    (c.assign.ensures.looked ∙ c.open_level.ensures.looked) c.in_ok-push.ensures.items c.requires.settled

pub returns-clause-cube : goal.returns-clause-cube
returns-clause-cube c = λ cube allowed on_cube.
    on_cube_decided cube c.args.search.now c.assign.new.self c.push.new.self c.args.lit c.requires.kept
    (decided c)
    (c.assign.ensures.depth ∙ c.open_level.ensures.depth) c.in_ok-push.ensures.items allowed on_cube
