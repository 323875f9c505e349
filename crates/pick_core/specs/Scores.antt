-- Scores of variables as contracts see them.
use Rattle.std.specs.Prelude.{◌≡◌, ℕ, ◌+◌, ◌-◌, ◌/◌, ◌<◌, ◌≤◌, ◌⊎◌, nat_le, if◌then◌else◌}
use Rattle.std.specs.Prelude.{Bool, true, false, List, slice_index_or}
use Rattle.trail_core.specs.Trail.{Entry, IsFree}

-- For each variable from 1 on its score, its rank, which decides among equal scores, and whether it
-- waits in the heap; the increment; and how many variables were entered.
pub record ScoresView : Type 0 where
  pub scores : List ℕ
  pub ranks : List ℕ
  pub waiting : List Bool
  pub increment : ℕ
  pub vars : ℕ

abbrev pub score_of : ScoresView → ℕ → ℕ
score_of view var = slice_index_or view.scores (var - 1) 0

abbrev pub rank_of : ScoresView → ℕ → ℕ
rank_of view var = slice_index_or view.ranks (var - 1) 0

-- the variable was entered and waits
pub record Waits (view : ScoresView) (var : ℕ) : Type 0 where
  pub low : 1 ≤ var
  pub high : var ≤ view.vars
  pub is : slice_index_or view.waiting (var - 1) false ≡ true

-- each free variable waits
abbrev pub FreeWait : List Entry → ScoresView → Type 0
FreeWait entries view = (var : ℕ) → 1 ≤ var → var ≤ view.vars → IsFree entries var
    → Waits view var

-- a greater score, or an equal one and a greater rank
abbrev pub Outscores : ScoresView → ℕ → ℕ → Type 0
Outscores view var other = (score_of view other < score_of view var)
    ⊎ ((score_of view other ≡ score_of view var) × (rank_of view other < rank_of view var))

-- the variable is free, and no free one outscores it
pub record IsBestFree (entries : List Entry) (view : ScoresView) (var : ℕ) : Type 0 where
  pub low : 1 ≤ var
  pub high : var ≤ view.vars
  pub free : IsFree entries var
  pub best : (other : ℕ) → 1 ≤ other → other ≤ view.vars → IsFree entries other
      → Outscores view other var → ⊥

-- a sixteenth more
abbrev pub grown : ℕ → ℕ
grown increment = increment + increment / 16

-- a score or an increment after a decay at this increment: where the grown increment passes 2^58,
-- the scores and it are divided by 2^40
abbrev pub scaled : ℕ → ℕ → ℕ
scaled increment number =
    if nat_le (grown increment) 288230376151711744 then number else number / 1099511627776
