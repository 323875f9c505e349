use Rattle.std.proofs.Common.{◌≡◌, ◌≤◌, take}
use Rattle.sat_base.specs.Lit.{greatest_of_all}
use Rattle.session.proofs.inputs.greatest_in.Given as goal

abbrev pub invariant-loop-clause : goal.invariant-loop-clause
invariant-loop-clause l = (l.greatest ≡ greatest_of_all (take l.clause-index l.clauses))
    × (l.greatest ≤ 8388607)
