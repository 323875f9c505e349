-- How a session keeps its solver.
use Rattle.std.specs.Prelude.{◌≡◌}
use Rattle.session.specs.Searching.{IsSearching, solver_of}
use Rattle.session.specs.declared.session.Session.TheInside.{Inside}
use Rattle.session.specs.Session.{SessionView}
use Rattle.session.specs.Publishing.{AreNamesFit}

abbrev pub session_of : Inside → SessionView
session_of a = record { solver = solver_of a.search; names = a.names.items }

-- Between calls the search is at level 0.
pub record IsResting (a : Inside) : Type 0 where
  pub kept : IsSearching a.search
  pub zero : a.search.trail.depth ≡ 0
  pub names : AreNamesFit (solver_of a.search) a.names.items
