-- The names and tags of the clauses that resolve literals away.
use Rattle.std.specs.Prelude.{◌≡◌, ℕ, ◌<◌, ◌⊎◌, ◌==◌, if◌then◌else◌, List, [], ◌∷◌, length, Option}
use Rattle.std.specs.Prelude.{None, Some}
use Rattle.sat_base.specs.Lit.{variable}
use Rattle.sat_base.specs.declared.origins.Ref.{Ref}
use Rattle.clause_arena.specs.Arena.{ArenaClause, clause_at, no_clause}
use Rattle.trail_core.specs.Trail.{Entry, entry_at}
use Rattle.analyze.specs.Graph.{lit_at, level_at}
use Rattle.analyze.specs.Table.{unit_of, tag_of_unit}

abbrev pub reason_in : List ArenaClause → Option ℕ → ArenaClause
reason_in clauses None = no_clause
reason_in clauses (Some id) = clause_at clauses id

-- the clause that resolves the literal at the place away: its unit clause at level 0, and otherwise
-- its reason
abbrev pub lits_for : List ArenaClause → List Entry → ℕ → List ℕ
lits_for clauses entries place =
    if level_at entries place == 0 then lit_at entries place ∷ []
    else (reason_in clauses (entry_at entries place).reason).lits

abbrev pub name_for : List ArenaClause → List Entry → List Ref → ℕ → Ref
name_for clauses entries units place =
    if level_at entries place == 0 then unit_of units (variable (lit_at entries place))
    else (reason_in clauses (entry_at entries place).reason).origin

abbrev pub tag_for : List ArenaClause → List Entry → List ℕ → ℕ → ℕ
tag_for clauses entries tags place =
    if level_at entries place == 0 then tag_of_unit tags (variable (lit_at entries place))
    else (reason_in clauses (entry_at entries place).reason).tag

-- the literal at the place can be resolved away: it is of level 0, or a clause of the arena forced
-- it
pub record HasClause (clauses : List ArenaClause) (entries : List Entry) (place : ℕ) : Type 0 where
  pub within : place < length entries
  pub known : (level_at entries place ≡ 0)
      ⊎ ((id : ℕ) × ((entry_at entries place).reason ≡ Some id) × (id < length clauses))
