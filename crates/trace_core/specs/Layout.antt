-- How known clauses lie in memory: one block of literals, and the place of each clause in it.
use Rattle.std.specs.Prelude.{ℕ, ◌+◌, ◌≤◌, List, take, drop, map}
use Rattle.trace_core.specs.Known.{Known}
use Rattle.trace_core.specs.declared.block.Place.{Place}

-- the clause at a place
abbrev pub clause_at : List ℕ → Place → Known
clause_at lits place = record { clause = take place.len (drop place.start lits); tag = place.tag }

abbrev pub clauses_in : List ℕ → List Place → List Known
clauses_in lits places = map (clause_at lits) places

-- a place ends within a block of that size
abbrev pub EndsWithin : ℕ → Place → Type 0
EndsWithin size place = place.start + place.len ≤ size
