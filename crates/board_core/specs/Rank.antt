-- Who goes first among the entrants of a tournament.
use Rattle.std.specs.Prelude.{◌≡◌, ◌==◌, ◌&&◌, ◌||◌, nat_lt, Bool, false, if◌then◌else◌}
use Rattle.std.specs.Prelude.{List, All, Contains, Option, None, Some}
use Rattle.board_core.specs.declared.rank.Rank.{Rank}

-- fewer open attempts go first, then the smaller number
abbrev pub goes_before : Rank → Rank → Bool
goes_before rank rival =
    nat_lt rank.open_now rival.open_now
    || (rank.open_now == rival.open_now && nat_lt rank.job rival.job)

-- the winner between two of whom either may not wait
abbrev pub earlier_of : Option Rank → Option Rank → Option Rank
earlier_of None other = other
earlier_of (Some rank) None = Some rank
earlier_of (Some rank) (Some rival) = if goes_before rival rank then Some rival else Some rank

-- an entrant before whom none goes
pub record IsBeforeAll (entrants : List (Option Rank)) (first : Rank) : Type 0 where
  pub entered : Contains entrants (Some first)
  pub before : (rival : Rank) → Contains entrants (Some rival) → goes_before rival first ≡ false

-- the first of those who wait, or nobody where nobody waits
abbrev pub IsFirst : List (Option Rank) → Option Rank → Type 0
IsFirst entrants None = All (λ entrant. entrant ≡ None) entrants
IsFirst entrants (Some first) = IsBeforeAll entrants first
