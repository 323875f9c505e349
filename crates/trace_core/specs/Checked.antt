-- What a checker has: its inputs and the steps that it has accepted.
use Rattle.std.specs.Prelude.{ℕ, Option, List, [], map, Contains}
use Rattle.sat_base.specs.declared.origins.Ref.{Ref}
use Rattle.trace_core.specs.Known.{Known, known, clause_of}
use Rattle.trace_core.specs.Marking.{HasRoom}

pub record Checked : Type 0 where
  pub inputs : List Known
  pub steps : List Known

-- The clauses that a checker knows. It has no shared packets, so that a `Shared` hint names
-- nothing.
abbrev pub known_to : List Known → List Known → Ref → Option Known
known_to inputs steps = known inputs [] steps

-- the clauses that these hints name there
abbrev pub hinted : List Known → List Known → List Ref → List (List ℕ)
hinted inputs steps hints = map (λ hint. clause_of (known_to inputs steps hint)) hints

-- so many marks have room for each of the clauses
abbrev pub HaveRoom : ℕ → List (List ℕ) → Type 0
HaveRoom size clauses = (clause : List ℕ) → Contains clauses clause → HasRoom size clause
