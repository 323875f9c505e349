-- How the decisions of a round come to an end.
use Rattle.std.specs.Prelude.{ℕ, List, []}
use Rattle.session.specs.declared.search.Search.{Search}
use Rattle.session.specs.declared.rounds.Descent.{Descent}
use Rattle.session.specs.declared.rounds.Descent.TheVariants.{Conflict, Ended}
use Rattle.session.specs.Searching.{IsConflict, solver_of}
use Rattle.session.specs.Solving.{Concludes, Learns}

-- Nothing was learnt, and a clause is false or the search has a right answer.
abbrev pub Descends : Search → Search → List ℕ → Descent → Type 0
Descends old new cube (Conflict id) = Learns (solver_of old) (solver_of new) [] []
    × IsConflict new id
Descends old new cube (Ended round) = Concludes (solver_of old) (solver_of new) cube round
