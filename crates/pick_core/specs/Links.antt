-- A circle of variables, linked both ways through 0, which stands for both ends.
use Rattle.std.specs.Prelude.{◌≡◌, ℕ, zero, suc, ◌+◌, ◌<◌, ◌≤◌, ◌==◌, if◌then◌else◌, List, []}
use Rattle.std.specs.Prelude.{◌∷◌, ◌++◌, length, slice_index_or}
use Rattle.trail_core.specs.Trail.{Entry, IsFree}
use Rattle.pick_core.specs.declared.links.Links.{Links}
use Rattle.pick_core.specs.Queue.{HasEachOnce}
use Rattle.pick_core.specs.Assigned.{AreAssigned}

abbrev pub links_at : List Links → ℕ → Links
links_at links var = slice_index_or links var (record { farther = 0; nearer = 0 })

abbrev pub farther_at : List Links → ℕ → ℕ
farther_at links var = (links_at links var).farther

abbrev pub nearer_at : List Links → ℕ → ℕ
nearer_at links var = (links_at links var).nearer

-- the first variable of a list, 0 where there is none
abbrev pub first_of : List ℕ → ℕ
first_of [] = 0
first_of (var ∷ vars) = var

-- the last variable of a list, or the one before it
abbrev pub last_behind : ℕ → List ℕ → ℕ
last_behind before [] = before
last_behind before (var ∷ vars) = last_behind var vars

-- two variables became neighbours, and no other link changed
pub record IsJoined (old new : List Links) (nearer farther : ℕ) : Type 0 where
  pub farther_is : farther_at new nearer ≡ farther
  pub nearer_is : nearer_at new farther ≡ nearer
  pub other_farther : (var : ℕ) → (var ≡ nearer → ⊥) → farther_at new var ≡ farther_at old var
  pub other_nearer : (var : ℕ) → (var ≡ farther → ⊥) → nearer_at new var ≡ nearer_at old var
  pub size : length new ≡ length old

-- the links go from this variable through exactly these to 0, and back
abbrev pub IsLinked : List Links → ℕ → List ℕ → Type 0
IsLinked links from [] = (farther_at links from ≡ 0) × (nearer_at links 0 ≡ from)
IsLinked links from (var ∷ vars) =
    (farther_at links from ≡ var) × (nearer_at links var ≡ from) × IsLinked links var vars

-- the circle has the variables in this order, from the end on
pub record IsOrder (links : List Links) (order : List ℕ) : Type 0 where
  pub linked : IsLinked links 0 order
  pub variables : HasEachOnce order (length order)
  pub room : 0 < length order → length order < length links

-- the variable stands in the circle
pub record HasVariable (links : List Links) (var : ℕ) : Type 0 where
  pub order : List ℕ
  pub is : IsOrder links order
  pub low : 1 ≤ var
  pub high : var ≤ length order

-- the variable is the next one, and there is room for it
pub record IsNew (links : List Links) (var : ℕ) : Type 0 where
  pub order : List ℕ
  pub is : IsOrder links order
  pub next : var ≡ length order + 1
  pub within : var < length links

-- the variables above `from` up to `to` are the next ones, and there is room for them
pub record AreNew (links : List Links) (from to : ℕ) : Type 0 where
  pub order : List ℕ
  pub is : IsOrder links order
  pub next : from ≡ length order
  pub rising : from ≤ to
  pub within : to < length links

-- the way from a variable through these to 0
abbrev pub IsWay : List Links → ℕ → List ℕ → Type 0
IsWay links at [] = at ≡ 0
IsWay links at (var ∷ vars) =
    (at ≡ var) × (1 ≤ var) × (var < length links) × IsWay links (farther_at links var) vars

pub record HasWay (links : List Links) (at : ℕ) : Type 0 where
  pub vars : List ℕ
  pub is : IsWay links at vars
  pub short : length vars ≤ length links

-- what a walk finds: the variables before it on the way are assigned, and it is free, or 0
pub record IsFoundOn (entries : List Entry) (links : List Links) (vars : List ℕ) (at : ℕ)
    : Type 0 where
  pub passed : List ℕ
  pub left : List ℕ
  pub is : vars ≡ passed ++ left
  pub way : IsWay links at left
  pub assigned : AreAssigned entries passed
  pub free : 1 ≤ at → IsFree entries at

-- the way from a variable, of so many variables at most
abbrev pub walk : List Links → ℕ → ℕ → List ℕ
walk links zero at = []
walk links (suc n) at = if at == 0 then [] else at ∷ walk links n (farther_at links at)
