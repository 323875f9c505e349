-- A tree of matches: node 1 at its root, the children of node k are 2k and 2k + 1, and the entrants
-- stand behind the inner nodes.
use Rattle.std.specs.Prelude.{◌≡◌, ◌≢◌, ℕ, ◌+◌, ◌-◌, ◌*◌, ◌<◌, ◌≤◌, nat_lt, if◌then◌else◌}
use Rattle.std.specs.Prelude.{List, length, Option, None, slice_index_or}
use Rattle.board_core.specs.declared.rank.Rank.{Rank}
use Rattle.board_core.specs.declared.tournament.Tournament.TheInside.{Inside}
use Rattle.board_core.specs.Rank.{earlier_of}

-- the winner at an inner node, or the entrant at a leaf
abbrev pub standing_at : List (Option Rank) → List (Option Rank) → ℕ → Option Rank
standing_at entrants winners node =
    if nat_lt node (length winners)
    then slice_index_or winners node None
    else slice_index_or entrants (node - length winners) None

-- the node has the winner of its match
abbrev pub IsWon : List (Option Rank) → List (Option Rank) → ℕ → Type 0
IsWon entrants winners node =
    standing_at entrants winners node ≡ earlier_of
    (standing_at entrants winners (2 * node)) (standing_at entrants winners (2 * node + 1))

-- every inner node from some on has its winner, but for one
pub record AreWonBut (entrants winners : List (Option Rank)) (from hole : ℕ) : Type 0 where
  pub won : (node : ℕ) →
      from ≤ node → node < length winners → node ≢ hole → IsWon entrants winners node

pub record IsPlayed (entrants winners : List (Option Rank)) : Type 0 where
  pub room : length entrants ≤ length winners
  pub won : AreWonBut entrants winners 1 0

abbrev pub entrants_of : Inside → List (Option Rank)
entrants_of a = a.entrants.items

abbrev pub IsKept : Inside → Type 0
IsKept a = IsPlayed a.entrants.items a.winners.items
