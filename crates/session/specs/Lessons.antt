-- What a conflict teaches.
use Rattle.std.specs.Prelude.{◌≡◌}
use Rattle.sat_base.specs.Lit.{IsTautology}
use Rattle.trace_core.specs.Trace.{IsOkStep}
use Rattle.trail_core.specs.Trail.{lits_of}
use Rattle.trail_core.specs.UnderTrail.{IsFalseClause}
use Rattle.propagate.specs.Store.{AreWithin}
use Rattle.analyze.specs.Learnt.{IsAsserting, IsNew}
use Rattle.session.specs.declared.search.Search.{Search}
use Rattle.session.specs.declared.conflicts.Lesson.{Lesson}
use Rattle.session.specs.Searching.{table_of}

-- an asserting clause that no held clause is within, over the variables of the inputs, and its step
pub record IsLesson (search : Search) (lesson : Lesson) : Type 0 where
  pub ok : IsOkStep (table_of search) lesson.step
  pub of : lesson.step.clause ≡ lesson.clause
  pub refuted : IsFalseClause (lits_of search.trail.entries) lesson.clause
  pub asserting : IsAsserting search.trail.entries search.trail.depth lesson.back lesson.clause
  pub fresh : IsNew search.store.clauses lesson.clause
  pub proper : IsTautology lesson.clause → ⊥
  pub within : AreWithin search.greatest lesson.clause
