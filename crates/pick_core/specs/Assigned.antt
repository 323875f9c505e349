-- Which variables a trail assigns.
use Rattle.std.specs.Prelude.{◌≡◌, ℕ, ◌≤◌, List, ◌∷◌, ◌++◌, All}
use Rattle.trail_core.specs.Trail.{Entry, StandsAt, IsFree}

-- an entry assigns the variable
pub record IsAssigned (entries : List Entry) (var : ℕ) : Type 0 where
  pub place : ℕ
  pub stands : StandsAt entries var place

abbrev pub AreAssigned : List Entry → List ℕ → Type 0
AreAssigned entries vars = All (IsAssigned entries) vars

-- the variables 1 to this number are assigned
abbrev pub AreAllAssigned : List Entry → ℕ → Type 0
AreAllAssigned entries vars = (var : ℕ) → 1 ≤ var → var ≤ vars → IsAssigned entries var

-- the variable stands in the list and is free, and each one before it is assigned
pub record IsNearestFree (entries : List Entry) (order : List ℕ) (var : ℕ) : Type 0 where
  pub front : List ℕ
  pub back : List ℕ
  pub is : order ≡ front ++ var ∷ back
  pub assigned : AreAssigned entries front
  pub free : IsFree entries var
