use Rattle.std.proofs.Common.{◌≡◌, ◌++◌, List, map}
use Rattle.std.specs.Prelude.{Option}
use Rattle.std.specs.Vec.Iter.{into_iter_items}
use Rattle.icnf_text.specs.declared.faults.Fault.{Fault}
use Rattle.icnf_text.specs.declared.statements.Numbered.{Numbered}
use Rattle.verdict_audit.specs.Case.{case_after}
use Rattle.verdict_audit.specs.Problem.{IsTaken, query_in}
use Rattle.verdict_audit.proofs.taking.take_all.Given as goal

abbrev pub invariant-loop-numbered : goal.invariant-loop-numbered
invariant-loop-numbered l = record {
  can : goal.iterator-loop-numbered.can_next l.numbered-iterator;
  ends : goal.iterator-loop-numbered.is_finite l.numbered-iterator;
  case : (fault : Option Fault) (rest : List Numbered) → case_after fault l.taken.clauses.items (map query_in l.taken.jobs.items) (into_iter_items l.numbered-iterator ++ rest) ≡ case_after fault l.fn.taken.clauses.items (map query_in l.fn.taken.jobs.items) (l.fn.statements.items ++ rest);
  kept : IsTaken l.taken.clauses.items l.taken.tags.items l.taken.jobs.items l.taken.greatest;
}
