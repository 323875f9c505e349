-- A trail as an implication graph: a node for each place, and for a forced literal the clause that
-- forced it.
use Rattle.std.specs.Prelude.{◌≡◌, ℕ, ◌<◌, List, Contains, None, Some}
use Rattle.sat_base.specs.Lit.{variable}
use Rattle.clause_arena.specs.Arena.{ArenaClause, clause_at}
use Rattle.trail_core.specs.Trail.{Entry, StandsAt, entry_at}

-- the literal that became true at the place
abbrev pub lit_at : List Entry → ℕ → ℕ
lit_at entries place = (entry_at entries place).lit

abbrev pub level_at : List Entry → ℕ → ℕ
level_at entries place = (entry_at entries place).level

-- the variable of the literal was assigned at this level
pub record IsOfLevel (entries : List Entry) (lit level : ℕ) : Type 0 where
  pub place : ℕ
  pub at : StandsAt entries (variable lit) place
  pub is : level_at entries place ≡ level

-- a place at which a variable of the clause was assigned
pub record IsPlaceOf (entries : List Entry) (clause : List ℕ) (place : ℕ) : Type 0 where
  pub lit : ℕ
  pub stands : Contains clause lit
  pub at : StandsAt entries (variable lit) place

-- a decision: the first literal of a level above 0, which no clause forced
pub record IsDecision (entries : List Entry) (lit : ℕ) : Type 0 where
  pub place : ℕ
  pub at : StandsAt entries (variable lit) place
  pub is : lit_at entries place ≡ lit
  pub level : 0 < level_at entries place
  pub free : (entry_at entries place).reason ≡ None

-- the variable of a place above level 0 among these
pub record IsVariableAbove (entries : List Entry) (places : List ℕ) (var : ℕ) : Type 0 where
  pub place : ℕ
  pub stands : Contains places place
  pub is : variable (lit_at entries place) ≡ var
  pub above : 0 < level_at entries place

-- the reason of a place has a literal above level 0 whose place isn't among these
pub record HasUnseen (clauses : List ArenaClause) (entries : List Entry) (places : List ℕ)
    (place : ℕ) : Type 0 where
  pub id : ℕ
  pub reason : (entry_at entries place).reason ≡ Some id
  pub other : ℕ
  pub of : IsPlaceOf entries (clause_at clauses id).lits other
  pub above : 0 < level_at entries other
  pub unseen : Contains places other → ⊥
