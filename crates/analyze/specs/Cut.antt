-- Which of the places seen stay, as literals of the clause or the part, and which are resolved
-- away.
use Rattle.std.specs.Prelude.{◌≡◌, ◌≢◌, ℕ, ◌<◌, ◌≤◌, ◌⊎◌, Bool, false, List, length, Contains}
use Rattle.std.specs.Prelude.{IsTrue, None, Some}
use Rattle.sat_base.specs.Lit.{variable}
use Rattle.clause_arena.specs.Arena.{ArenaClause, clause_at}
use Rattle.trail_core.specs.Trail.{Entry, StandsAt, entry_at}
use Rattle.analyze.specs.Graph.{HasUnseen, level_at}
use Rattle.analyze.specs.Seen.{is_seen}
use Rattle.analyze.specs.FirstUip.{IsResolvable, IsShownBy}
use Rattle.analyze.specs.declared.classify.Rule.{Rule}
use Rattle.analyze.specs.declared.classify.Rule.TheVariants.{Learning, Refuting}
use Rattle.analyze.specs.declared.classify.Role.{Role}
use Rattle.analyze.specs.declared.classify.Role.TheVariants.{Kept, Resolved, Implied}

-- For learning the unique implication point stays, and of the lower levels what isn't implied; for
-- a refuted part the decisions do.
abbrev pub MayStay : List Entry → ℕ → Rule → ℕ → Type 0
MayStay entries depth (Learning point) place = (place ≡ point) ⊎ (level_at entries place < depth)
MayStay entries depth Refuting place = (entry_at entries place).reason ≡ None

-- For learning the other literals of the present level can be resolved away already.
abbrev pub IsPrepared : List ArenaClause → List Entry → ℕ → Rule → List ℕ → Type 0
IsPrepared clauses entries depth (Learning point) analyzed = (place : ℕ) → Contains analyzed place
    → level_at entries place ≡ depth → place ≢ point → IsResolvable clauses entries analyzed place
IsPrepared clauses entries depth Refuting analyzed = Unit {0}

-- A clause is learnt above level 0 only, and the point is of the present level.
abbrev pub IsDeepFor : List Entry → ℕ → Rule → Type 0
IsDeepFor entries depth (Learning point) = (0 < depth) × (level_at entries point ≡ depth)
IsDeepFor entries depth Refuting = Unit {0}

-- The point is never resolved away.
abbrev pub MayGo : Rule → ℕ → Type 0
MayGo (Learning point) place = place ≢ point
MayGo Refuting place = Unit {0}

-- For learning only variables of level 0 are seen besides: each other variable of the clause is
-- seen.
abbrev pub AddsLittle : List Entry → Rule → List ℕ → List ℕ → Type 0
AddsLittle entries (Learning point) analyzed clause = (lit : ℕ) → Contains clause lit → (place : ℕ)
    → StandsAt entries (variable lit) place → Contains analyzed place ⊎ (level_at entries place ≡ 0)
AddsLittle entries Refuting analyzed clause = Unit {0}

-- the place that assigns the variable is seen or of level 0, if there is one
abbrev pub AddsNothing : List Entry → List Bool → ℕ → Type 0
AddsNothing entries seen var = (place : ℕ) → StandsAt entries var place
    → IsTrue (is_seen seen place) ⊎ (level_at entries place ≡ 0)

-- a place above level 0 assigns the variable and isn't seen
pub record AddsPlace (entries : List Entry) (seen : List Bool) (var : ℕ) : Type 0 where
  pub place : ℕ
  pub at : StandsAt entries var place
  pub above : 0 < level_at entries place
  pub unseen : is_seen seen place ≡ false

-- The literal at the place can't be resolved away by itself: it has no reason, or its reason has a
-- literal above level 0 that wasn't seen.
abbrev pub IsNeeded : List ArenaClause → List Entry → List ℕ → ℕ → Type 0
IsNeeded clauses entries analyzed place = ((entry_at entries place).reason ≡ None)
    ⊎ HasUnseen clauses entries analyzed place

-- For learning only what is needed stays, besides the point.
abbrev pub StaysNeeded : List ArenaClause → List Entry → Rule → List ℕ → ℕ → Type 0
StaysNeeded clauses entries (Learning point) analyzed place =
    (place ≡ point) ⊎ IsNeeded clauses entries analyzed place
StaysNeeded clauses entries Refuting analyzed place = Unit {0}

-- what the role of a place says
abbrev pub IsRole : List ArenaClause → List Entry → ℕ → Rule → List ℕ → ℕ → Role → Type 0
IsRole clauses entries depth rule analyzed place Kept =
    (0 < level_at entries place) × MayStay entries depth rule place
    × StaysNeeded clauses entries rule analyzed place
IsRole clauses entries depth rule analyzed place Resolved =
    MayGo rule place × ((level_at entries place ≡ 0) ⊎ IsResolvable clauses entries analyzed place)
IsRole clauses entries depth rule analyzed place (Implied id) =
    MayGo rule place × ((entry_at entries place).reason ≡ Some id) × (0 < level_at entries place)
    × AddsLittle entries rule analyzed (clause_at clauses id).lits

-- Each of the places seen stays or is resolved away, and what is resolved away is of level 0 or has
-- all variables of its reason seen. For learning no more stays than that asks for.
-- Places were seen besides the old ones only as places of such reasons.
pub record IsCut (clauses : List ArenaClause) (entries : List Entry) (depth : ℕ) (rule : Rule)
    (old handled analyzed kept resolved : List ℕ) : Type 0 where
  pub still : (place : ℕ) → Contains old place → Contains analyzed place
  pub split : (place : ℕ) → Contains handled place → Contains kept place ⊎ Contains resolved place
  pub kept_from : (place : ℕ) → Contains kept place → Contains handled place
  pub resolved_from : (place : ℕ) → Contains resolved place → Contains handled place
  pub apart : (place : ℕ) → Contains kept place → Contains resolved place → ⊥
  pub stays : (place : ℕ) → Contains kept place
      → (0 < level_at entries place) × MayStay entries depth rule place
  pub needed : (place : ℕ) → Contains kept place
      → StaysNeeded clauses entries rule analyzed place
  pub resolvable : (place : ℕ) → Contains resolved place
      → (level_at entries place ≡ 0) ⊎ IsResolvable clauses entries analyzed place
  pub gone : (place : ℕ) → Contains resolved place → MayGo rule place
  pub shown : (place : ℕ) → Contains analyzed place
      → Contains old place
      ⊎ ((other : ℕ) × Contains resolved other × (0 < level_at entries other) × IsShownBy clauses
      entries place other)
  pub prepared : IsPrepared clauses entries depth rule analyzed
  pub within : (place : ℕ) → Contains analyzed place → place < length entries
  pub bounded : (top : ℕ) → ((place : ℕ) → Contains old place → place ≤ top) → (place : ℕ)
      → Contains analyzed place → place ≤ top
