-- Sessions as contracts see them.
use Rattle.std.specs.Prelude.{List, [], Option}
use Rattle.sat_base.specs.declared.origins.Ref.{Ref}
use Rattle.session.specs.Solver.{Solver}

-- the solver, and for each own step the name that it has in the shared database, if it was
-- published
pub record SessionView : Type 0 where
  pub solver : Solver
  pub names : List (Option Ref)

abbrev pub no_inputs : Solver
no_inputs = record { inputs = []; bound = 0; held = []; steps = []; learnt = []; packets = [] }
