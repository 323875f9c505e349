-- How far a run has come in its text.
use Rattle.std.specs.Prelude.{◌≡◌, ℕ, Bool, false, Option, None, Some, Result, Ok, Err, List, []}
use Rattle.std.specs.Prelude.{◌++◌, OnOk, true, option_map}
use Rattle.std.specs.declared.alloc.AllocError.{AllocError}
use Rattle.run_io.specs.Bytes.{followed_by}
use Rattle.icnf_text.specs.declared.statements.Numbered.{Numbered}
use Rattle.icnf_text.specs.declared.faults.Fault.{Fault}
use Rattle.icnf_text.specs.Judgement.{statements, wrong}
use Rattle.icnf_text.specs.Jobs.{Job, clauses_of as clauses_stated}
use Rattle.icnf_text.specs.Machine.{State as ReaderState, HasRead}
use Rattle.board_core.specs.State.{State}
use Rattle.tarmo_run.specs.declared.endings.Ending.{Ending}
use Rattle.tarmo_run.specs.declared.endings.Ending.TheVariants.{Complete, Refused}
use Rattle.tarmo_run.specs.declared.endings.Ending.TheVariants.{Unread, Exhausted}
use Rattle.tarmo_run.specs.declared.client.Client.{Client}
use Rattle.tarmo_run.specs.Client.{Adds, AddsFirst, clauses_read, queries_on}
use Rattle.icnf_gen.specs.Drawn.{generated}
use Rattle.icnf_text.specs.Printed.{printed}
use Rattle.tarmo_run.specs.Output.{IsEnding, Reading, ReadsNoFurther, UnlessExhausted, queries_in}
use Rattle.tarmo_run.specs.Output.{reading_of, unnumbered}

-- how far a client has come: what it has read, and the board with its jobs
pub record Progress : Type 0 where
  pub client : Client
  pub board : State

-- nothing was read yet
pub record IsNew (progress : Progress) : Type 0 where
  pub journal : progress.board.journal ≡ []
  pub pending : progress.client.pending.items ≡ []

-- where a run stops behind statements with this fault
abbrev pub StopsBy : Ending → Option Fault → Progress → Progress → List Numbered → Type 0
StopsBy (Complete count) found old new list = ⊥
StopsBy (Refused fault) found old new list =
    (found ≡ Some fault) × Adds old.client old.board new.client new.board list
StopsBy Unread found old new list = ⊥
StopsBy Exhausted found old new list = AddsFirst old.client old.board new.board list

-- where a run stops behind statements: where memory ran out, or at a wrong place
abbrev pub ending_behind : Result Unit AllocError → Option Fault → Option Ending
ending_behind (Ok done) found = option_map Refused found
ending_behind (Err want) found = Some Exhausted

-- A reader has read these bytes and found no wrong place, and all of their queries are jobs.
pub record IsCaughtUp (reader : ReaderState) (progress : Progress) (bytes : List ℕ) : Type 0 where
  pub read : HasRead reader bytes
  pub right : wrong bytes false ≡ None
  pub queries : queries_on progress.board ≡ queries_in bytes false
  pub clauses : clauses_read progress.client progress.board
      ≡ clauses_stated (unnumbered (statements bytes false))

-- the jobs are the first queries of what was read
pub record AsksFirst (reading : Reading) (board : State) : Type 0 where
  pub left : List Job
  pub queries : queries_in reading.bytes reading.ended ≡ queries_on board ++ left

-- the run ends so, and all queries are jobs unless memory ran out
pub record IsThrough (ending : Ending) (reading : Reading) (board : State) : Type 0 where
  pub ends : IsEnding ending reading
  pub begun : AsksFirst reading board
  pub all : UnlessExhausted ending (begun.left ≡ [])

-- and this is what the source gave
pub record ReadsThrough (ending : Ending) (left_before left_after : Option (List ℕ))
    (ended failed : Bool) (board : State) : Type 0 where
  pub bytes : List ℕ
  pub gave : left_before ≡ followed_by bytes left_after
  pub no_further : ReadsNoFurther bytes
  pub through : IsThrough ending (record { bytes = bytes; ended = ended; failed = failed }) board

-- the run was broken off
pub record ReadsInPart (left_before left_after : Option (List ℕ)) (ended failed : Bool)
    (board : State) : Type 0 where
  pub bytes : List ℕ
  pub gave : left_before ≡ followed_by bytes left_after
  pub no_further : ReadsNoFurther bytes
  pub begun : AsksFirst (record { bytes = bytes; ended = ended; failed = failed }) board

-- All queries of the text that a number stands for are jobs; where memory ran out, the first ones.
pub record ReadsSum (number : ℕ) (added : Result Unit AllocError) (board : State) : Type 0 where
  pub first : AsksFirst (reading_of number) board
  pub all : OnOk added (queries_on board ≡ queries_in (printed (generated number)) true)
  pub accepted : OnOk added (wrong (printed (generated number)) true ≡ None)
