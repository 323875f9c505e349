use Rattle.std.proofs.Common.{ℕ, List, map, subst, sym}
use Rattle.sat_base.specs.Lit.{opposite}
use Rattle.trace_core.specs.Propagation.{ReachesConflict}
use Rattle.trace_core.specs.Checked.{hinted, HaveRoom}
use Rattle.trace_core.proofs.AssumeLemmas.{covered_exactly}
use Rattle.trace_core.proofs.unit_propagation.follow.Goals as goal

pub propagate-requires-clause-room : goal.propagate-requires-clause-room
propagate-requires-clause-room c = subst (λ size. HaveRoom size (hinted c.args.database.now.inputs c.args.database.now.steps c.args.hints.now)) (sym c.assume_false.auto.marks) c.requires.room

pub returns-clause-derived : goal.returns-clause-derived
returns-clause-derived c =
    let clauses : List (List ℕ) = hinted c.args.database.now.inputs c.args.database.now.steps c.args.hints.now in
    let conflict : ReachesConflict (map opposite c.args.clause.now) clauses =
    subst (λ lits. ReachesConflict lits clauses) c.in_ok-assume_false.ensures.set (c.in_ok-propagate.ensures.conflict.0 c.if-not-branch.false) in
    let exact = covered_exactly c.args.clause.now clauses c.assume_false.new.marks c.propagate.new.marks c.in_ok-assume_false.ensures.uncovered (c.in_ok-propagate.ensures.covered c.if-not-branch.false) in
    (λ h. (exact.0 (c.is_covered.ensures.0 h), conflict), λ h. c.is_covered.ensures.1 (exact.1 h.0))
