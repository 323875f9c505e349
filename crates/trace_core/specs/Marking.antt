-- The marks of a check: which literals hold while hints are propagated, by their codes.
use Rattle.std.specs.Prelude.{◌≡◌, ◌≢◌, ℕ, ◌+◌, ◌*◌, ◌/◌, ◌<◌, ◌↔◌, Bool, true, false, IsTrue, List}
use Rattle.std.specs.Prelude.{slice_index_or, Contains}
use Rattle.sat_base.specs.Lit.{opposite}
use Rattle.trace_core.specs.declared.marks.Mark.{Mark}
use Rattle.trace_core.specs.declared.marks.Mark.TheVariants.{Free, Held, Uncovered}
use Rattle.trace_core.specs.declared.marks.Found.{Found}
use Rattle.trace_core.specs.declared.marks.Found.TheVariants.{Nothing, One, More}

abbrev pub is_held_mark : Mark → Bool
is_held_mark Free = false
is_held_mark Held = true
is_held_mark Uncovered = true

abbrev pub is_uncovered_mark : Mark → Bool
is_uncovered_mark Free = false
is_uncovered_mark Held = false
is_uncovered_mark Uncovered = true

-- whether the literal holds; none does beyond the marks
abbrev pub holds : List Mark → ℕ → Bool
holds marks lit = is_held_mark (slice_index_or marks lit Free)

-- whether the literal holds as the negation of a literal that no hinted clause has shown yet
abbrev pub is_uncovered : List Mark → ℕ → Bool
is_uncovered marks lit = is_uncovered_mark (slice_index_or marks lit Free)

-- the literals that hold are those of the set
abbrev pub Agree : List Mark → List ℕ → Type 0
Agree marks set = (lit : ℕ) → IsTrue (holds marks lit) ↔ Contains set lit

-- no literal holds
abbrev pub AreFree : List Mark → Type 0
AreFree marks = (lit : ℕ) → holds marks lit ≡ false

-- so many marks have one for each literal of the clause and for its negation
abbrev pub HasRoom : ℕ → List ℕ → Type 0
HasRoom size clause = (lit : ℕ) → Contains clause lit → 2 * (lit / 2) + 1 < size

-- which literals of a clause aren't false: none, exactly one, or two and more
abbrev pub IsFound : List Mark → List ℕ → Found → Type 0
IsFound marks clause Nothing = (lit : ℕ) → Contains clause lit → IsTrue (holds marks (opposite lit))
IsFound marks clause (One lit) = Contains clause lit × (holds marks (opposite lit) ≡ false)
    × ((other : ℕ) → Contains clause other → other ≢ lit → IsTrue (holds marks (opposite other)))
IsFound marks clause More =
    (lit : ℕ) × (other : ℕ) × (other ≢ lit) × Contains clause lit × Contains clause other
    × (holds marks (opposite lit) ≡ false) × (holds marks (opposite other) ≡ false)

-- these literals have been shown: the negation of none of them is uncovered any more
pub record CoveredBy (before : List Mark) (shown : List ℕ) (after : List Mark) : Type 0 where
  pub still : (lit : ℕ) → IsTrue (is_uncovered after lit)
      → IsTrue (is_uncovered before lit) × ¬ Contains shown (opposite lit)
  pub covered : (lit : ℕ) → IsTrue (is_uncovered before lit) → is_uncovered after lit ≡ false
      → Contains shown (opposite lit)
