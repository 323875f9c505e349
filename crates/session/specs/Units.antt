-- Unit clauses of level 0, and how they take false literals out of a clause.
use Rattle.std.specs.Prelude.{◌≡◌, ◌≢◌, ℕ, ◌<◌, ◌≤◌, ◌==◌, not, Bool, false, List, [], ◌∷◌, filter}
use Rattle.std.specs.Prelude.{length, Contains, Option, None, Some}
use Rattle.sat_base.specs.Lit.{variable, opposite}
use Rattle.sat_base.specs.declared.origins.Ref.{Ref}
use Rattle.trace_core.specs.Known.{Known}
use Rattle.trail_core.specs.Trail.{Entry, entry_at}
use Rattle.analyze.specs.Table.{IsNameOf, unit_of, tag_of_unit}

abbrev pub is_kept : Option ℕ → ℕ → Bool
is_kept None lit = false
is_kept (Some kept) lit = kept == lit

-- the literals of a clause but the kept one
abbrev pub others_of : Option ℕ → List ℕ → List ℕ
others_of kept lits = filter (λ lit. not (is_kept kept lit)) lits

-- the clause of the kept literal, or the empty one
abbrev pub only_kept : Option ℕ → List ℕ
only_kept None = []
only_kept (Some kept) = kept ∷ []

-- The opposite of each literal of the clause but the kept one is known as a unit clause, under the
-- name and with the tag of its variable.
abbrev pub KnowsOpposites : (Ref → Option Known) → List Ref → List ℕ → Option ℕ → List ℕ → Type 0
KnowsOpposites table units tags kept lits =
    (lit : ℕ) → Contains lits lit → kept ≢ Some lit
    → IsNameOf table (unit_of units (variable lit)) (opposite lit ∷ [])
    (tag_of_unit tags (variable lit))

-- The unit clause of each of the first literals of the trail is known under the name and with the
-- tag of its variable, and these literals are of level 0.
pub record IsNamed (table : Ref → Option Known) (entries : List Entry) (units : List Ref)
    (tags : List ℕ) (named : ℕ) : Type 0 where
  pub within : named ≤ length entries
  pub zero : (place : ℕ) → place < named → (entry_at entries place).level ≡ 0
  pub known : (place : ℕ) → place < named → IsNameOf table
      (unit_of units (variable (entry_at entries place).lit)) ((entry_at entries place).lit ∷ [])
      (tag_of_unit tags (variable (entry_at entries place).lit))
