use Rattle.std.proofs.Common.{◌≡◌, ◌∙◌, ◌++◌, ◌∷◌, [], refl, ap, sym, subst, arith}
use Rattle.sat_base.specs.declared.origins.Ref.TheVariants.{Own}
use Rattle.trace_core.specs.Trace.{IsOkStep}
use Rattle.trail_core.specs.Trail.{TrailView, up_to}
use Rattle.session.specs.declared.search.Search.{Search}
use Rattle.session.specs.declared.order.Order.{Order}
use Rattle.session.specs.declared.restarts.Restarts.{Restarts}
use Rattle.session.specs.Orders.{OffersFree, IsOrder}
use Rattle.session.specs.Lessons.{IsLesson}
use Rattle.session.specs.Searching.{IsSearching, solver_of, table_of}
use Rattle.session.specs.Solving.{LearnsOne}
use Rattle.session.proofs.Lists.{both_ok}
use Rattle.session.proofs.OnCubes.{on_cube_stepped}
use Rattle.session.proofs.Orders.{order_changed}
use Rattle.session.proofs.Keeping.{search_counted, search_moved}
use Rattle.session.proofs.Learnings.{lesson_open, lesson_forces, lesson_free, lesson_learnt}
use Rattle.session.proofs.Learnings.{lesson_ready}
use Rattle.session.proofs.conflicts.learn_and_backjump.Goals.{After-count_clause, After-push_step, After-backjump}
use Rattle.session.proofs.conflicts.learn_and_backjump.Goals as goal

-- the search whose variables were bumped
abbrev bumped : Search → Order → Restarts → Search
bumped search order restarts = record search { order = order; restarts = restarts }

kept_bumped : (c : After-count_clause) → IsSearching (bumped c.args.search.now c.bump_all.new.self c.count_clause.new.self)
kept_bumped c =
    let s = c.args.search.now in
    let e = c.bump_all.ensures in
    let same = ap (λ (x : Search). x.order) c.in_ok-clause.ensures.same in
    search_counted (record s { order = c.bump_all.new.self }) c.count_clause.new.self
    (search_moved s s.cursor s.cursors c.bump_all.new.self c.requires.kept refl
    (order_changed s.greatest s.trail s.trail s.order c.bump_all.new.self e.is
    (e.vars ∙ ap (λ (o : Order). o.vars) same) refl
    (e.offers s.trail.entries (subst (λ (o : Order). OffersFree s.trail.entries o.ranking)
    (sym same) c.requires.kept.order.offers)) c.requires.kept.order))

-- the lesson stands
lesson_bumped : (c : After-count_clause) → IsLesson (bumped c.args.search.now c.bump_all.new.self c.count_clause.new.self) c.in_ok-clause.field-0
lesson_bumped c =
    let l = c.in_ok-clause.ensures.lesson in
    record {
      ok = l.ok;
      of = l.of;
      refuted = l.refuted;
      asserting = l.asserting;
      fresh = l.fresh;
      proper = l.proper;
      within = l.within;
    }

pub bump_all-requires : goal.bump_all-requires
bump_all-requires c = record {
  is = subst (λ (s : Search). IsOrder s.order) (sym c.in_ok-clause.ensures.same) c.requires.kept.order.is;
}

pub push_step-requires-clause-kept : goal.push_step-requires-clause-kept
push_step-requires-clause-kept c = subst (λ (s : Search). IsSearching
    (record s { order = c.bump_all.new.self; restarts = c.count_clause.new.self }))
    (sym c.in_ok-clause.ensures.same) (kept_bumped (goal.at.push_step-requires-clause-kept c).After-count_clause)

pub push_step-requires-clause-ok : goal.push_step-requires-clause-ok
push_step-requires-clause-ok c = subst (λ (s : Search). IsOkStep
    (table_of s) c.in_ok-clause.field-0.step)
    (sym c.in_ok-clause.ensures.same) c.in_ok-clause.ensures.lesson.ok

-- only bumps and a step came before the jump back
stepped : (c : After-push_step) → c.push_step.new.search
    ≡ record (bumped c.args.search.now c.bump_all.new.self c.count_clause.new.self) { steps = c.push_step.new.search.steps }
stepped c = c.push_step.ensures.parts
    ∙ ap (λ (x : Search). record x {
      order = c.bump_all.new.self;
      restarts = c.count_clause.new.self;
      steps = c.push_step.new.search.steps;
    }) c.in_ok-clause.ensures.same

-- the trail after it
back_is : (c : After-backjump) → c.backjump.new.search.trail.entries
    ≡ up_to c.in_ok-clause.field-0.back c.args.search.now.trail.entries
back_is c = c.backjump.ensures.entries
    ∙ ap (λ (t : TrailView). up_to c.in_ok-clause.field-0.back t.entries)
    (ap (λ (x : Search). x.trail) c.push_step.ensures.parts
    ∙ ap (λ (x : Search). x.trail) c.in_ok-clause.ensures.same)

pub backjump-requires-clause-within : goal.backjump-requires-clause-within
backjump-requires-clause-within c =
    let low = c.in_ok-clause.ensures.lesson.asserting.below in
    omega (
      arith,
      low,
      ap (λ (x : Search). x.trail.depth)
          (stepped (goal.at.backjump-requires-clause-within c).After-push_step),
    )

pub backjump-requires-clause-nothing_new : goal.backjump-requires-clause-nothing_new
backjump-requires-clause-nothing_new c = λ deep.
    ap (λ (x : Search). x.store.fresh)
    (stepped (goal.at.backjump-requires-clause-nothing_new c).After-push_step)
    ∙ c.requires.conflict.settled c.requires.deep

pub unreachable-requires : goal.unreachable-requires
unreachable-requires c =
    lesson_free c.args.search.now c.in_ok-clause.field-0 c.backjump.new.search.trail c.requires.kept.trail c.in_ok-clause.ensures.lesson
    (back_is (goal.at.unreachable-requires c).After-backjump) c.in_default.ensures.none

pub hold-requires-clause-open_below : goal.hold-requires-clause-open_below
hold-requires-clause-open_below c =
    lesson_open c.args.search.now c.in_ok-clause.field-0 c.backjump.new.search.trail c.requires.kept.trail c.in_ok-clause.ensures.lesson
    (back_is (goal.at.hold-requires-clause-open_below c).After-backjump) c.backjump.ensures.depth

pub hold-requires-clause-ready : goal.hold-requires-clause-ready
hold-requires-clause-ready c =
    lesson_ready c.args.search.now c.in_ok-clause.field-0 c.backjump.new.search.trail c.requires.kept.trail c.in_ok-clause.ensures.lesson
    (back_is (goal.at.hold-requires-clause-ready c).After-backjump) c.backjump.ensures.depth

pub hold-requires-clause-nothing_new : goal.hold-requires-clause-nothing_new
hold-requires-clause-nothing_new c = λ deep.
    ap (λ (x : Search). x.store.fresh) c.backjump.ensures.parts
    ∙ ap (λ (x : Search). x.store.fresh) (stepped (goal.at.hold-requires-clause-nothing_new c).After-push_step)
    ∙ c.requires.conflict.settled c.requires.deep

pub hold-requires-clause-forced : goal.hold-requires-clause-forced
hold-requires-clause-forced c =
    let some = c.in-Some.ensures.some in
    lesson_forces c.args.search.now c.in_ok-clause.field-0 c.backjump.new.search.trail c.in-Some.lit c.requires.kept.trail c.in_ok-clause.ensures.lesson
    (back_is (goal.at.hold-requires-clause-forced c).After-backjump) some.0 some.1

pub returns-clause-ok : goal.returns-clause-ok
returns-clause-ok c =
    let old = bumped c.args.search.now c.bump_all.new.self c.count_clause.new.self in
    let p = c.push_step.new.search in
    let b = c.backjump.new.search in
    let h = c.hold.new.search in
    let lesson = c.in_ok-clause.field-0 in
    let number = c.in_ok-number.number in
    let held : Type 0 = h.store.clauses ≡ b.store.clauses ++ record {
      lits = lesson.clause;
      tag = lesson.step.tag;
      origin = Own number;
    } ∷ [] in
    let listed : Type 0 = h.learnt.items ≡ b.learnt.items ++ number ∷ [] in
    both_ok c.hold.result held listed (LearnsOne (solver_of old) (solver_of h))
    (λ added last. lesson_learnt old p b h lesson number (kept_bumped (goal.at.returns-clause-ok c).After-count_clause) (lesson_bumped (goal.at.returns-clause-ok c).After-count_clause) c.unassigned.ensures.set
    (stepped (goal.at.returns-clause-ok c).After-push_step)
    (c.in_ok-number.ensures.pushed ∙ ap (λ (x : Search). x.steps
    ++ lesson.step ∷ []) c.in_ok-clause.ensures.same)
    c.in_ok-number.ensures.number c.backjump.ensures.parts c.hold.ensures.parts added last)
    c.hold.ensures.held c.hold.ensures.listed

pub returns-clause-cubes : goal.returns-clause-cubes
returns-clause-cubes c = λ cube on_cube.
    c.hold.ensures.cubes cube (c.backjump.ensures.cubes cube
    (on_cube_stepped cube (bumped c.args.search.now c.bump_all.new.self c.count_clause.new.self) c.push_step.new.search
    (stepped (goal.at.returns-clause-cubes c).After-push_step)
    (record { decisions = on_cube.decisions; cursors = on_cube.cursors })))
