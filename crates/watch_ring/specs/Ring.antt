-- Lists of sides of clauses, one for each literal. A side is a number: twice that of its clause,
-- and 0 or 1 more.
use Rattle.std.specs.Prelude.{◌≡◌, ℕ, ◌*◌, ◌<◌, ◌==◌, not, List, [], ◌∷◌, ◌++◌, filter, Contains}
use Rattle.std.specs.Prelude.{slice_index_or}
use Rattle.std.specs.Prelude.{Option, None, Some}

-- the list of each literal by its code, and how many variables and clauses are reserved
pub record RingView : Type 0 where
  pub lists : List (List ℕ)
  pub vars : ℕ
  pub clauses : ℕ

-- the list of a literal
abbrev pub list_of : RingView → ℕ → List ℕ
list_of ring lit = slice_index_or ring.lists lit []

-- no number stands twice
abbrev pub IsOnce : List ℕ → Type 0
IsOnce [] = Unit {0}
IsOnce (number ∷ numbers) = (Contains numbers number → ⊥) × IsOnce numbers

-- each side in the lists is of one of so many clauses, and stands in one list only, once
pub record AreDisjoint (list : ℕ → List ℕ) (clauses : ℕ) : Type 0 where
  pub below : (lit number : ℕ) → Contains (list lit) number → number < 2 * clauses
  pub once : (lit : ℕ) → IsOnce (list lit)
  pub apart : (lit other number : ℕ) → Contains (list lit) number → Contains (list other) number
      → lit ≡ other

-- the side stands in no list
pub record StandsNowhere (ring : RingView) (number : ℕ) : Type 0 where
  pub out : (lit : ℕ) → Contains (list_of ring lit) number → ⊥

abbrev pub first_of : List ℕ → Option ℕ
first_of [] = None
first_of (number ∷ numbers) = Some number

-- the last number of a list, or what was before it
abbrev pub last_behind : Option ℕ → List ℕ → Option ℕ
last_behind before [] = before
last_behind before (number ∷ numbers) = last_behind (Some number) numbers

-- the number stands just behind `before`, or in front where that is None
pub record StandsAfter (numbers : List ℕ) (before : Option ℕ) (number : ℕ) : Type 0 where
  pub front : List ℕ
  pub back : List ℕ
  pub is : numbers ≡ front ++ number ∷ back
  pub last : last_behind None front ≡ before

-- the list without the number, the others in their order
abbrev pub without : ℕ → List ℕ → List ℕ
without number numbers = filter (λ other. not (other == number)) numbers
