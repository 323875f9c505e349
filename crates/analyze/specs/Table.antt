-- What a table of known clauses has to know for a derivation from an arena: the arena's clauses
-- under their origins, and the unit clauses of level 0.
use Rattle.std.specs.Prelude.{◌≡◌, ℕ, ◌-◌, ◌<◌, ◌↔◌, List, [], ◌∷◌, length, Contains, Option, Some}
use Rattle.std.specs.Prelude.{slice_index, slice_index_or}
use Rattle.sat_base.specs.Lit.{variable}
use Rattle.sat_base.specs.declared.origins.Ref.{Ref}
use Rattle.sat_base.specs.declared.origins.Ref.TheVariants.{Input}
use Rattle.trace_core.specs.Known.{Known}
use Rattle.clause_arena.specs.Arena.{ArenaClause, clause_at}
use Rattle.trail_core.specs.Trail.{Entry}
use Rattle.analyze.specs.Graph.{lit_at, level_at}

-- the name of a known clause that has exactly these literals, in any order, and this tag
pub record IsNameOf (table : Ref → Option Known) (name : Ref) (lits : List ℕ)
    (tag : ℕ) : Type 0 where
  pub named : Known
  pub is : table name ≡ Some named
  pub members : (lit : ℕ) → Contains named.clause lit ↔ Contains lits lit
  pub same_tag : named.tag ≡ tag

-- each clause of the arena is known under its origin, with its tag
abbrev pub KnowsArena : (Ref → Option Known) → List ArenaClause → Type 0
KnowsArena table clauses =
    (id : ℕ) → id < length clauses
    → IsNameOf table (clause_at clauses id).origin (clause_at clauses id).lits
    (clause_at clauses id).tag

-- the items of a variable, which are counted from variable 1 on
abbrev pub unit_of : List Ref → ℕ → Ref
unit_of units var = slice_index_or units (var - 1) (Input 0)

abbrev pub tag_of_unit : List ℕ → ℕ → ℕ
tag_of_unit tags var = slice_index tags (var - 1)

-- for each variable of level 0 the clause of its one true literal is known under the variable's
-- name, with the variable's tag
abbrev pub KnowsUnits : (Ref → Option Known) → List Entry → List Ref → List ℕ → Type 0
KnowsUnits table entries units tags =
    (place : ℕ) → place < length entries → level_at entries place ≡ 0
    → IsNameOf table (unit_of units (variable (lit_at entries place))) (lit_at entries place ∷ [])
    (tag_of_unit tags (variable (lit_at entries place)))
