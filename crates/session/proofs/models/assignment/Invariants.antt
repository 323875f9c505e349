use Rattle.trail_core.specs.Trail.{lits_of}
use Rattle.session.proofs.Assignments.{AreGiven}
use Rattle.session.proofs.models.assignment.Given as goal

abbrev pub invariant-loop-var : goal.invariant-loop-var
invariant-loop-var l = AreGiven (lits_of l.trail.entries) l.values.items l.var
