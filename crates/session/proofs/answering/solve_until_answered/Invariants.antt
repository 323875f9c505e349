use Rattle.std.proofs.Common.{◌≡◌}
use Rattle.session.specs.Searching.{IsSearching, solver_of}
use Rattle.session.proofs.Answered.{HasLearntSome, left_to_learn}
use Rattle.session.proofs.answering.solve_until_answered.Given as goal

abbrev pub invariant-loop-model : goal.invariant-loop-model
invariant-loop-model l = IsSearching l.search × (l.search.trail.depth ≡ 0)
    × HasLearntSome (solver_of l.fn.search) (solver_of l.search)

abbrev pub decreases-loop-model : goal.decreases-loop-model
decreases-loop-model l = left_to_learn l.fn.search l.search
