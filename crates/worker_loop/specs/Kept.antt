-- What a bench keeps from one attempt to the next.
use Rattle.std.specs.Prelude.{◌≡◌, ℕ, List, Some}
use Rattle.trace_core.specs.declared.derivation.Step.{Step}
use Rattle.session.specs.Fronts.{IsFront}
use Rattle.session.specs.Solver.{Solver, packet_at}

-- Nothing that was learnt is lost: held clauses, own steps and learnt steps come behind those
-- that were there, and each packet that is known stays known.
pub record KeepsLearnt (old new : Solver) : Type 0 where
  pub held : IsFront old.held new.held
  pub steps : IsFront old.steps new.steps
  pub learnt : IsFront old.learnt new.learnt
  pub packets : (place : ℕ) (packet : List Step) → packet_at old.packets place ≡ Some packet
      → packet_at new.packets place ≡ Some packet
