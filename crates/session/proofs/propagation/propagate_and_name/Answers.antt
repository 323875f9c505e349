use Rattle.std.proofs.Common.{◌≡◌, ℕ, List, [], sym, subst}
use Rattle.clause_arena.specs.Arena.{lits_of_each}
use Rattle.trail_core.specs.Trail.{TrailView}
use Rattle.propagate.specs.Store.{StoreView, HasSameClauses}
use Rattle.trail_core.specs.UnderTrail.{HasGrown}
use Rattle.session.specs.declared.search.Search.{Search}
use Rattle.session.specs.Cubes.{IsOnCube, KeepsCubes}
use Rattle.session.specs.Searching.{IsSearching, HasUnitsMore, solver_of}
use Rattle.session.specs.Solving.{Learns}
use Rattle.session.specs.Watched.{IsSettled}
use Rattle.session.proofs.Watching.{nothing_new}
use Rattle.session.proofs.OnCubes.{on_cube_grown}
use Rattle.session.proofs.Settled.{search_propagated}
use Rattle.session.proofs.Keeping.{learns_propagated, learns_named}
use Rattle.session.proofs.Repeats.{learns_then}
use Rattle.session.proofs.propagation.propagate_and_name.Goals as goal

-- propagation and then names
named_then : (old new : Search) (store : StoreView) (trail : TrailView) → IsSearching old
    → HasSameClauses old.store.clauses store.clauses
    → new ≡ record (record old { store = store; trail = trail }) {
      units = new.units;
      tags = new.tags;
      named = new.named;
      steps = new.steps;
    }
    → HasUnitsMore old.steps new.steps
    → Learns (solver_of old) (solver_of new) [] []
named_then old new store trail kept same parts more =
    learns_then (solver_of old) (solver_of (record old { store = store; trail = trail }))
    (solver_of new) [] [] []
    (learns_propagated old store trail kept same)
    (learns_named (record old { store = store; trail = trail }) new parts more)

grown_then : (clauses : List (List ℕ)) (old new : Search) (store : StoreView) (trail : TrailView)
    → HasGrown clauses old.trail.depth old.trail.entries trail.entries
    → trail.depth ≡ old.trail.depth
    → new ≡ record (record old { store = store; trail = trail }) {
      units = new.units;
      tags = new.tags;
      named = new.named;
      steps = new.steps;
    }
    → KeepsCubes old new
grown_then clauses old new store trail grown depth_is parts cube on_cube =
    let mid = on_cube_grown clauses old store trail grown depth_is cube on_cube in
    subst (IsOnCube cube) (sym parts)
    (record { decisions = mid.decisions; cursors = mid.cursors })

pub name_zero-requires : goal.name_zero-requires
name_zero-requires c =
    let e = c.propagate-found.ensures in
    record { kept = search_propagated c.args.search.now c.propagate-found.new.store c.propagate-found.new.trail c.requires.kept e.same e.store_vars e.grown (e.founded c.requires.kept.on.founded) e.depth e.vars c.depth.ensures.trail e.paired e.ready e.pending e.still_new }

pub returns-in_err-name_zero-in-None-clause-learns : goal.returns-in_err-name_zero-in-None-clause-learns
returns-in_err-name_zero-in-None-clause-learns c =
    named_then c.args.search.now c.name_zero.new.search c.propagate-found.new.store c.propagate-found.new.trail c.requires.kept c.propagate-found.ensures.same c.in_err-name_zero-in-None.ensures.parts c.in_err-name_zero-in-None.ensures.steps

pub returns-in_err-name_zero-in-None-clause-cubes : goal.returns-in_err-name_zero-in-None-clause-cubes
returns-in_err-name_zero-in-None-clause-cubes c =
    grown_then (lits_of_each c.propagate-found.new.store.clauses) c.args.search.now c.name_zero.new.search c.propagate-found.new.store c.propagate-found.new.trail c.propagate-found.ensures.grown c.propagate-found.ensures.depth c.in_err-name_zero-in-None.ensures.parts

pub returns-in-Some-clause-kept : goal.returns-in-Some-clause-kept
returns-in-Some-clause-kept c =
    let e = c.propagate-found.ensures in
    search_propagated c.args.search.now c.propagate-found.new.store c.propagate-found.new.trail c.requires.kept e.same e.store_vars e.grown (e.founded c.requires.kept.on.founded) e.depth e.vars c.depth.ensures.trail e.paired e.ready e.pending e.still_new

pub returns-in-Some-clause-learns : goal.returns-in-Some-clause-learns
returns-in-Some-clause-learns c =
    learns_propagated c.args.search.now c.propagate-found.new.store c.propagate-found.new.trail c.requires.kept c.propagate-found.ensures.same

pub returns-in-Some-clause-cubes : goal.returns-in-Some-clause-cubes
returns-in-Some-clause-cubes c =
    on_cube_grown (lits_of_each c.propagate-found.new.store.clauses) c.args.search.now c.propagate-found.new.store c.propagate-found.new.trail c.propagate-found.ensures.grown c.propagate-found.ensures.depth

pub returns-in_ok-name_zero-in-None-clause-learns : goal.returns-in_ok-name_zero-in-None-clause-learns
returns-in_ok-name_zero-in-None-clause-learns c =
    named_then c.args.search.now c.name_zero.new.search c.propagate-found.new.store c.propagate-found.new.trail c.requires.kept c.propagate-found.ensures.same c.in_ok-name_zero-in-None.ensures.parts c.in_ok-name_zero-in-None.ensures.steps

pub returns-in_ok-name_zero-in-None-clause-cubes : goal.returns-in_ok-name_zero-in-None-clause-cubes
returns-in_ok-name_zero-in-None-clause-cubes c =
    grown_then (lits_of_each c.propagate-found.new.store.clauses) c.args.search.now c.name_zero.new.search c.propagate-found.new.store c.propagate-found.new.trail c.propagate-found.ensures.grown c.propagate-found.ensures.depth c.in_ok-name_zero-in-None.ensures.parts

-- above level 0 nothing is new where a clause is false
pub returns-in-Some-clause-conflict : goal.returns-in-Some-clause-conflict
returns-in-Some-clause-conflict c =
    let store = c.propagate-found.new.store in
    let trail = c.propagate-found.new.trail in
    let e = c.in-Some.ensures in
    let kept = search_propagated c.args.search.now store trail c.requires.kept e.same e.store_vars e.grown (e.founded c.requires.kept.on.founded) e.depth e.vars c.depth.ensures.trail e.paired e.ready e.pending e.still_new in
    record {
      known = e.known;
      refuted = e.refuted;
      settled = nothing_new trail store.clauses store.fresh trail.looked c.in-Some.id c.depth.ensures.trail kept.watched e.refuted e.refuted_new;
    }

pub returns-in_ok-name_zero-in-None-clause-settled : goal.returns-in_ok-name_zero-in-None-clause-settled
returns-in_ok-name_zero-in-None-clause-settled c =
    subst (λ (x : Search). IsSettled x.store x.trail) (sym c.in_ok-name_zero-in-None.ensures.parts)
    (record { nothing_new = c.in-None.ensures.fresh; all_looked = c.in-None.ensures.looked })
