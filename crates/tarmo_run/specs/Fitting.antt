-- Why a board refuses a job of a text.
use Rattle.std.specs.Prelude.{◌≡◌, ℕ, Bool, List, ◌∷◌, ◌++◌}
use Rattle.icnf_text.specs.Jobs.{Job}
use Rattle.entry_core.specs.declared.segments.Segment.{Segment}
use Rattle.board_core.specs.declared.faults.AddFault.{AddFault}
use Rattle.board_core.specs.declared.faults.AddFault.TheVariants as add
use Rattle.board_core.specs.Replies.{IsAddFault}
use Rattle.board_core.specs.State.{State}
use Rattle.tarmo_run.specs.Client.{clauses_on, queries_on, query_behind}
use Rattle.tarmo_run.specs.Output.{queries_in}

-- The board's jobs put the first queries of the text, and this segment puts the one behind them.
pub record IsNextJob (text : List ℕ) (ended : Bool) (board : State) (segment : Segment)
    : Type 0 where
  pub later : List Job
  pub queries : queries_in text ended
      ≡ queries_on board ++ query_behind (clauses_on board) segment ∷ later

-- the input was closed before, or there was no memory
abbrev pub IsOfNoLimit : AddFault → Type 0
IsOfNoLimit (add.Closed place) = Unit {0}
IsOfNoLimit add.TooManyJobs = ⊥
IsOfNoLimit add.TooManyClauses = ⊥
IsOfNoLimit add.TooManyLiterals = ⊥
IsOfNoLimit add.Memory = Unit {0}

-- No job of a text is refused because of a limit, however far the text has come.
abbrev pub TextsFitOnBoards : Type 0
TextsFitOnBoards = (text : List ℕ) (ended : Bool) (board : State) (segment : Segment)
    (fault : AddFault) → IsNextJob text ended board segment → IsAddFault board segment fault →
    IsOfNoLimit fault
