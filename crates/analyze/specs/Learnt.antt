-- What a learnt clause is.
use Rattle.std.specs.Prelude.{◌≡◌, ◌≢◌, ℕ, ◌<◌, ◌≤◌, ◌↔◌, ◌⊎◌, List, map, length, All, Contains}
use Rattle.std.specs.Prelude.{Option, None, Some}
use Rattle.sat_base.specs.Lit.{variable}
use Rattle.sat_base.specs.declared.origins.Ref.{Ref}
use Rattle.trace_core.specs.Known.{Known, clause_of}
use Rattle.trace_core.specs.Propagation.{StandsInOneOf}
use Rattle.trace_core.specs.Trace.{IsOkStep}
use Rattle.trace_core.specs.declared.derivation.Step.{Step}
use Rattle.clause_arena.specs.Arena.{ArenaClause, clause_at}
use Rattle.trail_core.specs.Trail.{Entry, StandsAt, entry_at}
use Rattle.analyze.specs.Graph.{IsOfLevel, level_at}

-- An asserting clause: one literal is of the present level, and the others are of levels from 1 to
-- `back`, which is the highest of them, 0 without others. So it is unit once the trail is taken
-- back to that level.
pub record IsAsserting (entries : List Entry) (depth back : ℕ) (clause : List ℕ) : Type 0 where
  pub lit : ℕ
  pub stands : Contains clause lit
  pub present : IsOfLevel entries lit depth
  pub others : (other : ℕ) → Contains clause other → other ≢ lit
      → (level : ℕ) × IsOfLevel entries other level × (0 < level) × (level ≤ back)
  pub below : back < depth
  pub reached : (back ≡ 0) ⊎ ((other : ℕ) × Contains clause other × IsOfLevel entries other back)

-- no clause of the arena has its literals all within this one
abbrev pub IsNew : List ArenaClause → List ℕ → Type 0
IsNew clauses clause =
    (id : ℕ) → id < length clauses → ¬ All (Contains clause) (clause_at clauses id).lits

-- the reason of a place has a literal above level 0 whose variable isn't among the met ones
pub record HasUnmet (clauses : List ArenaClause) (entries : List Entry) (met : List ℕ)
    (place : ℕ) : Type 0 where
  pub id : ℕ
  pub reason : (entry_at entries place).reason ≡ Some id
  pub lit : ℕ
  pub stands : Contains (clause_at clauses id).lits lit
  pub other : ℕ
  pub at : StandsAt entries (variable lit) other
  pub above : 0 < level_at entries other
  pub unmet : Contains met (variable lit) → ⊥

-- The literal at a place has no reason, or one with something above level 0 that wasn't met.
abbrev pub IsUnimplied : List ArenaClause → List Entry → List ℕ → ℕ → Type 0
IsUnimplied clauses entries met place = ((entry_at entries place).reason ≡ None)
    ⊎ HasUnmet clauses entries met place

-- A minimized clause: no literal below the present level is implied by what else was met.
abbrev pub IsMinimized : List ArenaClause → List Entry → ℕ → List ℕ → List ℕ → Type 0
IsMinimized clauses entries depth met clause = (lit place : ℕ) → Contains clause lit
    → StandsAt entries (variable lit) place → level_at entries place < depth
    → IsUnimplied clauses entries met place

-- a variable above level 0 of one of these clauses
pub record IsMetVariable (entries : List Entry) (hinted : List (List ℕ)) (var : ℕ) : Type 0 where
  pub lit : ℕ
  pub stands : StandsInOneOf hinted lit
  pub of : variable lit ≡ var
  pub place : ℕ
  pub at : StandsAt entries var place
  pub above : 0 < level_at entries place

-- Over the table the step is ok with exact tag, each literal of its clause stands in a clause that
-- a hint names, and the met variables are those above level 0 in these clauses.
pub record IsLearntBy (table : Ref → Option Known) (entries : List Entry) (step : Step)
    (met : List ℕ) : Type 0 where
  pub ok : IsOkStep table step
  pub covered : (lit : ℕ) → Contains step.clause lit
      → StandsInOneOf (map (λ hint. clause_of (table hint)) step.hints) lit
  pub variables : (var : ℕ)
      → Contains met var
      ↔ IsMetVariable entries (map (λ hint. clause_of (table hint)) step.hints) var
