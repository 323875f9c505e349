-- What the sides of a run on many threads know of their passes.
use Rattle.std.specs.Prelude.{◌≡◌, ◌≤◌, ℕ, Bool, true, false, nat_lt, Option, List, []}
use Rattle.run_io.specs.Bytes.{IsEmptyWhereTold}
use Rattle.entry_core.specs.Journal.{jobs, segments}
use Rattle.entry_core.specs.Settled.{cancelled}
use Rattle.board_core.specs.State.{State}
use Rattle.service.specs.Passes.{BoardLock, BoardPass, IsClientPass, IsReady, Keeps, board_of}
use Rattle.worker_loop.specs.Slices.{IsAtWork}
use Rattle.worker_loop.specs.Work.{Rests}
use Rattle.tarmo_run.specs.declared.adder.Adder.{Adder}
use Rattle.tarmo_run.specs.declared.endings.Ending.{Ending}
use Rattle.tarmo_run.specs.declared.printer.Printer.{Printer}
use Rattle.tarmo_run.specs.Output.{UnlessCutShort}
use Rattle.tarmo_run.specs.Reading.{Progress, ReadsThrough}
use Rattle.tarmo_run.specs.Writer.{HasCounted, HasWritten, TookFront}

-- the board as a pass has seen it
abbrev pub seen_by : BoardLock → BoardPass → State
seen_by lock pass = board_of lock pass.seen

-- a pass's own entries, as if they were a board
abbrev pub own_of : BoardLock → BoardPass → State
own_of lock pass = board_of lock pass.own

-- The first client: it adds jobs, counts them, and cancels none.
pub record IsAdder (lock : BoardLock) (adder : Adder) : Type 0 where
  pub ready : IsReady lock adder.pass
  pub client : IsClientPass lock adder.pass
  pub number : adder.pass.number ≡ 1
  pub counted : adder.added ≡ jobs adder.pass.own
  pub none_cancelled : cancelled adder.pass.own ≡ []

-- how far it has come
abbrev pub progress_by : BoardLock → Adder → Progress
progress_by lock adder = record { client = adder.client; board = own_of lock adder.pass }

-- The first client has read a source's text, and so the reading ended: what the source gave, and
-- the jobs of it that were added. Where it ended well, the input that was read is the one with
-- this name.
pub record HasReadText {S : Type 0} (left : S → Option (List ℕ)) (faults : S → ℕ)
    (ended : S → Bool) (opened : S → Option (List ℕ) → Bool) (lock : BoardLock)
    (name : Option (List ℕ)) (ending : Ending) (adder : Adder) (before after : S)
    : Type 0 where
  pub ready : IsAdder lock adder
  pub through : ReadsThrough ending (left before) (left after) (ended after)
      (nat_lt (faults before) (faults after)) (own_of lock adder.pass)
  pub whole : ended after ≡ true → IsEmptyWhereTold (left after)
  pub later : faults before ≤ faults after
  pub named : UnlessCutShort ending (opened after name ≡ true)

-- The second client: it adds no job, and cancels none before the sink fails. The jobs that have
-- their blocks are the first ones that it has seen.
pub record IsPrinter (lock : BoardLock) (printer : Printer) : Type 0 where
  pub ready : IsReady lock printer.pass
  pub client : IsClientPass lock printer.pass
  pub number : printer.pass.number ≡ 2
  pub none_added : segments printer.pass.own ≡ []
  pub counted : HasCounted printer.writer (seen_by lock printer.pass)
  pub none_cancelled : printer.failed ≡ false → cancelled printer.pass.own ≡ []

-- its pass has seen more, and adds no job
pub record Moves (lock : BoardLock) (old new : Printer) : Type 0 where
  pub keeps : Keeps lock old.pass new.pass
  pub own : segments new.pass.own ≡ segments old.pass.own
  pub writer : new.writer ≡ old.writer

-- the blocks that it counts were taken; where the sink failed, a front of some
abbrev pub HasPrinted : Bool → BoardLock → Printer → Bool → Option (List ℕ) → Option (List ℕ) →
    Type 0
HasPrinted trace lock printer false before now =
    HasWritten trace printer.writer (seen_by lock printer.pass) before now
HasPrinted trace lock printer true before now =
    TookFront trace (seen_by lock printer.pass) before now

-- and this stays so, whatever was taken before
abbrev pub Prints : Bool → BoardLock → Printer → Printer → Option (List ℕ) → Option (List ℕ) →
    Type 0
Prints trace lock old new now after = (before : Option (List ℕ)) →
    HasPrinted trace lock old old.failed before now →
    HasPrinted trace lock new new.failed before after

-- a worker's pass that may begin: it has seen a legal journal, and has no open attempt
pub record MayWork (lock : BoardLock) (pass : BoardPass) : Type 0 where
  pub work : IsAtWork lock pass
  pub rests : Rests lock pass

-- it comes back with its number, and with no open attempt
pub record ComesBack (lock : BoardLock) (old new : BoardPass) : Type 0 where
  pub work : IsAtWork lock new
  pub rests : Rests lock new
  pub number : new.number ≡ old.number
