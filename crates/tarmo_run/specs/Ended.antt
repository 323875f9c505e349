-- How a run ended, over the board that it gives back.
use Rattle.std.specs.Prelude.{◌≡◌, ◌⊎◌, ◌++◌, ℕ, Bool, Option, Result, IsOk, List, []}
use Rattle.std.specs.Prelude.{take}
use Rattle.std.specs.declared.alloc.AllocError.{AllocError}
use Rattle.run_io.specs.Bytes.{followed_by, appended}
use Rattle.entry_core.specs.Settled.{cancelled}
use Rattle.board_core.specs.State.{State}
use Rattle.tarmo_run.specs.declared.endings.Ending.{Ending}
use Rattle.tarmo_run.specs.declared.endings.Ending.TheVariants.{Complete, Exhausted}
use Rattle.entry_core.specs.Journal.{jobs}
use Rattle.tarmo_run.specs.Body.{OfBlocks}
use Rattle.tarmo_run.specs.Output.{AreSettled, IsFirstOfSummary, IsOutput, ReadsNoFurther}
use Rattle.tarmo_run.specs.Output.{UnlessExhausted, last_line_of}
use Rattle.tarmo_run.specs.Reading.{AsksFirst}

-- a front of the last line was taken: of this ending, or of want of memory
pub record TookFrontOfLine (ending : Ending) (before after : Option (List ℕ)) : Type 0 where
  pub told : Ending
  pub which : (told ≡ ending) ⊎ (told ≡ Exhausted)
  pub size : ℕ
  pub taken : after ≡ appended before (take size (last_line_of told))

-- the whole output was taken
pub record Finished (trace : Bool) (ending : Ending) (left_before left_after : Option (List ℕ))
    (ended failed : Bool) (board : State) (before after : Option (List ℕ)) : Type 0 where
  pub bytes : List ℕ
  pub gave : left_before ≡ followed_by bytes left_after
  pub no_further : ReadsNoFurther bytes
  pub text : List ℕ
  pub output : IsOutput (OfBlocks trace) ending
      (record { bytes = bytes; ended = ended; failed = failed }) board text
  pub taken : after ≡ appended before text
  pub begun : AsksFirst (record { bytes = bytes; ended = ended; failed = failed }) board
  pub all : UnlessExhausted ending ((begun.left ≡ []) × AreSettled board)
  pub none_cancelled : cancelled board.journal ≡ []

-- a front of an output was taken
pub record FinishedInPart (trace : Bool) (left_before left_after : Option (List ℕ))
    (ended failed : Bool) (board : State) (before after : Option (List ℕ)) : Type 0 where
  pub bytes : List ℕ
  pub gave : left_before ≡ followed_by bytes left_after
  pub no_further : ReadsNoFurther bytes
  pub ending : Ending
  pub text : List ℕ
  pub output : IsOutput (OfBlocks trace) ending
      (record { bytes = bytes; ended = ended; failed = failed }) board text
  pub size : ℕ
  pub taken : after ≡ appended before (take size text)
  pub begun : AsksFirst (record { bytes = bytes; ended = ended; failed = failed }) board
  pub all : UnlessExhausted ending (begun.left ≡ [])

-- a run over a number's text ends with all its jobs answered, or for want of memory
abbrev pub EndsSum : Result Unit AllocError → Ending → State → Type 0
EndsSum settled ending board =
    (IsOk settled × (ending ≡ Complete (jobs board.journal))) ⊎ (ending ≡ Exhausted)

-- what the sink took of such a run: the summary, or a front of it, and the last line
pub record TookSummary (number : ℕ) (ending : Ending) (board : State)
    (before now : Option (List ℕ)) : Type 0 where
  pub lines : List ℕ
  pub right : IsFirstOfSummary number ending board lines
  pub taken : now ≡ appended before (lines ++ last_line_of ending)

-- a front of that
pub record TookFrontOfSummary (number : ℕ) (settled : Result Unit AllocError) (board : State)
    (before now : Option (List ℕ)) : Type 0 where
  pub ending : Ending
  pub ends : EndsSum settled ending board
  pub lines : List ℕ
  pub known : IsOk settled ⊎ ((lines ≡ []) × (ending ≡ Exhausted))
  pub right : IsFirstOfSummary number ending board lines
  pub size : ℕ
  pub taken : now ≡ appended before (take size (lines ++ last_line_of ending))
