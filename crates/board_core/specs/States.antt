-- Where jobs stand, and their ranks.
use Rattle.std.specs.Prelude.{ℕ, suc, ◌+◌, ◌||◌, nat_le, Option, None, Some, is_some, List, []}
use Rattle.std.specs.Prelude.{◌∷◌, if◌then◌else◌}
use Rattle.trace_core.specs.Known.{item_at}
use Rattle.board_core.specs.declared.index.JobState.{JobState}
use Rattle.board_core.specs.declared.rank.Rank.{Rank}

-- where a job stands that was just added
abbrev pub new_job : JobState
new_job = record { open_now = 0; spent = 0; ending = None }

abbrev pub or_new : Option JobState → JobState
or_new None = new_job
or_new (Some state) = state

-- where the job of that number stands, which may come later
abbrev pub state_at : List JobState → ℕ → JobState
state_at states job = or_new (item_at states job)

-- where a job stands among those that wait: it isn't settled, and its open and spent attempts are
-- fewer than it may have
abbrev pub rank_of : ℕ → ℕ → JobState → Option Rank
rank_of most job state =
    if is_some state.ending || nat_le most (state.open_now + state.spent) then None
    else Some (record { open_now = state.open_now; job = job })

-- the ranks of the jobs, the first of which has this number
abbrev pub ranks_from : ℕ → ℕ → List JobState → List (Option Rank)
ranks_from most job [] = []
ranks_from most job (state ∷ rest) = rank_of most job state ∷ ranks_from most (suc job) rest
