use Rattle.std.proofs.Common.{ℕ, List, Option, subst}
use Rattle.sat_base.specs.declared.origins.Ref.{Ref}
use Rattle.trace_core.specs.Known.{Known}
use Rattle.trace_core.specs.declared.derivation.Step.{Step}
use Rattle.clause_arena.specs.Arena.{ArenaClause}
use Rattle.trail_core.specs.Trail.{Entry}
use Rattle.analyze.specs.Table.{KnowsArena, KnowsUnits}
use Rattle.analyze.specs.Learnt.{IsNew, IsLearntBy}
use Rattle.session.proofs.Learnings.{lesson_from}
use Rattle.session.proofs.conflicts.analyze_conflict.Goals as goal

abbrev Derives : List Entry → Step → List ℕ → List ArenaClause → List Ref → List ℕ → Type 0
Derives entries step met clauses units tags = (table : Ref → Option Known)
    → KnowsArena table clauses → KnowsUnits table entries units tags
    → IsLearntBy table entries step met

pub returns-clause-lesson : goal.returns-clause-lesson
returns-clause-lesson c =
    let s = c.args.search.now in
    let learnt = c.in_ok-learnt.learnt in
    let e = c.in_ok-learnt.ensures in
    lesson_from s (record {
      clause = learnt.clause;
      back = learnt.back;
      step = learnt.step;
      met = learnt.met;
      levels = c.levels_of-levels.result;
    }) learnt.met c.requires.kept c.requires.deep e.step e.refuted e.asserting
    (subst (λ clauses. IsNew clauses learnt.clause) c.arena.ensures.value e.fresh)
    (subst (λ clauses. Derives s.trail.entries learnt.step learnt.met clauses s.units.items s.tags.items) c.arena.ensures.value
    (subst (λ units. Derives s.trail.entries learnt.step learnt.met c.arena.result.now units s.tags.items) c.deref.ensures.value
    (subst (λ tags. Derives s.trail.entries learnt.step learnt.met c.arena.result.now c.deref.result.now tags) c.deref-2.ensures.value e.derived)))
