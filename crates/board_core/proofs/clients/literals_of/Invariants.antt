use Rattle.std.proofs.Common.{◌≡◌, ◌+◌, List, ℕ, length, min, sum_by, take}
use Rattle.board_core.proofs.clients.literals_of.Given as goal

pub record IsSummed (literals : ℕ) (cube : List ℕ) (clauses items : List (List ℕ)) (index : ℕ) : Type 0 where
  pub sum : literals ≡ min (sum_by length (take index clauses) + length cube) 18446744073709551615
  pub same : items ≡ clauses

abbrev pub invariant-loop-clause : goal.invariant-loop-clause
invariant-loop-clause l = IsSummed l.literals l.segment.cube l.segment.clauses l.clause-items l.clause-index
