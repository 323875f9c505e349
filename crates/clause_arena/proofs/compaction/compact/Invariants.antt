use Rattle.clause_arena.specs.Compaction.{IsUnderway}
use Rattle.clause_arena.proofs.compaction.compact.Given as goal

abbrev pub invariant-loop-id : goal.invariant-loop-id
invariant-loop-id l = IsUnderway l.fn.lits.items l.fn.bounds.items l.fn.names l.keep l.id l.at.kept l.at.start l.lits.items l.bounds.items l.names
