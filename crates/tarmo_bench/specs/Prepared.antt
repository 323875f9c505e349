-- A conflict that is ready for analysis.
use Rattle.std.specs.Prelude.{◌≡◌, ℕ, vec_len}
use Rattle.analyze.specs.Conflict.{IsConflict}
use Rattle.tarmo_bench.specs.declared.learning.instance.Conflict.{Conflict}

-- the clause is false in the conflict's store and trail, and each of so many variables has its
-- items
pub record IsPrepared (conflict : Conflict) (vars : ℕ) : Type 0 where
  pub is : IsConflict conflict.store.clauses conflict.trail conflict.id
  pub reserved : conflict.trail.vars ≡ vars
  pub names : vec_len conflict.names ≡ vars
  pub tags : vec_len conflict.tags ≡ vars
