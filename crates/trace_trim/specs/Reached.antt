-- What is reached over chains of citations, whatever it is that cites.
use Rattle.std.specs.Prelude.{◌≡◌, ◌↔◌, Option, Some, List, [], ◌∷◌, ◌++◌, AllPairs, Contains}
use Rattle.sat_base.specs.declared.origins.Ref.{Ref}

-- one of these hints leads to the other, where `next` says what a hint leads to
abbrev pub LeadTo : {X : Type 0} → (Ref → Option X) → List Ref → X → Type 0
LeadTo next hints other = (hint : Ref) × Contains hints hint × (next hint ≡ Some other)

-- each one is cited by the next one, and the last one by the start; it is the start itself where
-- there is none
abbrev pub IsCitedAlong : {X : Type 0} → (X → X → Type 0) → X → X → List X → Type 0
IsCitedAlong cites start one [] = one ≡ start
IsCitedAlong cites start one (user ∷ users) = cites user one × IsCitedAlong cites start user users

-- One is reached where a chain of citations leads to it from the start, which is reached itself.
abbrev pub IsReached : {X : Type 0} → (X → X → Type 0) → X → X → Type 0
IsReached {X} cites start one = (users : List X) × IsCitedAlong cites start one users

-- Exactly what is reached, each once, in its order. The start stands last.
pub record AreReached {X : Type 0} (cites before : X → X → Type 0) (start : X)
    (reached : List X) : Type 0 where
  pub exactly : (one : X) → Contains reached one ↔ IsReached cites start one
  pub ascending : AllPairs before reached
  pub front : List X
  pub ends : reached ≡ front ++ start ∷ []
