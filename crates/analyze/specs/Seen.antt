-- The places that an analysis has seen: a list of them, and a flag for each place of the trail.
use Rattle.std.specs.Prelude.{◌≡◌, ◌≢◌, ℕ, ◌+◌, ◌≤◌, ◌↔◌, ◌⊎◌, ◌==◌, ◌&&◌, nat_lt, if◌then◌else◌}
use Rattle.std.specs.Prelude.{Bool, false, List, [], ◌∷◌, length, take, AllPairs, Contains, IsTrue}
use Rattle.std.specs.Prelude.{slice_index_or}
use Rattle.sat_base.specs.Lit.{variable}
use Rattle.trail_core.specs.Trail.{Entry, StandsAt}
use Rattle.analyze.specs.Graph.{level_at}

abbrev pub is_seen : List Bool → ℕ → Bool
is_seen seen place = slice_index_or seen place false

-- exactly the places of the list are seen
abbrev pub Agree : List Bool → List ℕ → Type 0
Agree seen analyzed = (place : ℕ) → IsTrue (is_seen seen place) ↔ Contains analyzed place

-- no place is seen
abbrev pub AreClear : List Bool → Type 0
AreClear seen = (place : ℕ) → is_seen seen place ≡ false

-- no place stands twice
abbrev pub AreDistinct : List ℕ → Type 0
AreDistinct places = AllPairs (λ place other. place ≢ other) places

-- each assigned variable of the clause is seen
abbrev pub AreAllSeen : List Entry → List ℕ → List ℕ → Type 0
AreAllSeen entries analyzed clause = (lit : ℕ) → Contains clause lit → (place : ℕ)
    → StandsAt entries (variable lit) place → Contains analyzed place

-- one for a place of that level below the bound, zero for another
abbrev pub open_at : List Entry → ℕ → ℕ → ℕ → ℕ
open_at entries level bound place =
    if nat_lt place bound && (level_at entries place == level) then 1 else 0

-- how many of the places are of that level and below the bound
abbrev pub open_below : List Entry → ℕ → ℕ → List ℕ → ℕ
open_below entries level bound [] = 0
open_below entries level bound (place ∷ places) =
    open_at entries level bound place + open_below entries level bound places

-- Places were seen besides the old ones: the list grew by places of that kind, and at most so many
-- of these are of the level.
pub record HasGrown (entries : List Entry) (level : ℕ) (Kind : ℕ → Type 0) (old new : List ℕ)
    (count : ℕ) : Type 0 where
  pub longer : length old + count ≤ length new
  pub front : take (length old) new ≡ old
  pub added : (place : ℕ) → Contains new place → Contains old place ⊎ Kind place
  pub open_count : (bound : ℕ)
      → open_below entries level bound new ≤ open_below entries level bound old + count
