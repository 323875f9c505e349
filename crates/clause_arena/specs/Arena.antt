-- Clauses as an arena holds them.
use Rattle.std.specs.Prelude.{◌≡◌, ℕ, ◌<◌, List, [], map, length, slice_index, slice_index_or}
use Rattle.std.specs.Prelude.{slice_set, swap}
use Rattle.sat_base.specs.declared.origins.Ref.{Ref}
use Rattle.sat_base.specs.declared.origins.Ref.TheVariants.{Own}

-- a clause: its literals in their places, its tag, and the name by which derivations cite it
pub record ArenaClause : Type 0 where
  pub lits : List ℕ
  pub tag : ℕ
  pub origin : Ref

-- what stands for a clause at a number that no clause has
abbrev pub no_clause : ArenaClause
no_clause = record { lits = []; tag = 0; origin = Own 0 }

-- the clause of that number, counted from 0
abbrev pub clause_at : List ArenaClause → ℕ → ArenaClause
clause_at clauses id = slice_index_or clauses id no_clause

-- the literals of each clause
abbrev pub lits_of_each : List ArenaClause → List (List ℕ)
lits_of_each clauses = map (λ clause. clause.lits) clauses

-- no literal stands in two places
pub record HasNoRepeat (lits : List ℕ) : Type 0 where
  pub each : (i j : ℕ) → i < length lits → j < length lits
      → slice_index lits i ≡ slice_index lits j → i ≡ j

-- the clauses where exactly these two places of one clause are exchanged
abbrev pub with_places_swapped : List ArenaClause → ℕ → ℕ → ℕ → List ArenaClause
with_places_swapped clauses id i j =
    slice_set clauses id (record (clause_at clauses id) {
      lits = swap (clause_at clauses id).lits i j;
    })
