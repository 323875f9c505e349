-- What the run alone has at hand between two pieces of a text.
use Rattle.std.specs.Prelude.{◌≡◌, ℕ, Bool, Option, None, Some, List, []}
use Rattle.entry_core.specs.declared.rules.Rules.{Rules}
use Rattle.entry_core.specs.Settled.{cancelled}
use Rattle.worker_loop.specs.Fits.{Fits}
use Rattle.worker_loop.specs.Working.{IsResting}
use Rattle.tarmo_run.specs.declared.desk.Desk.{Desk}
use Rattle.tarmo_run.specs.declared.endings.Ending.{Ending}
use Rattle.tarmo_run.specs.Output.{UnlessExhausted}
use Rattle.tarmo_run.specs.Reading.{Progress}
use Rattle.tarmo_run.specs.Writer.{HasAllBlocks, HasCounted, HasWritten, TookFront}

-- rules of a run with one client and one worker
pub record IsAlone (rules : Rules) : Type 0 where
  pub clients : rules.clients ≡ 1
  pub workers : rules.workers ≡ 1

-- No client cancelled a job, the bench fits the board, the worker has no open attempt, and the
-- blocks of some first jobs are written.
pub record IsBetweenPieces (desk : Desk) : Type 0 where
  pub alone : IsAlone desk.board.rules
  pub none_cancelled : cancelled desk.board.journal ≡ []
  pub fits : Fits desk.bench desk.board.journal
  pub resting : IsResting desk.board 2
  pub counted : HasCounted desk.writer desk.board

-- nothing was added or written yet
pub record IsFresh (desk : Desk) : Type 0 where
  pub journal : desk.board.journal ≡ []
  pub pending : desk.client.pending.items ≡ []
  pub written : desk.writer.written ≡ 0

-- how far the client of a desk has come
abbrev pub progress_of : Desk → Progress
progress_of desk = record { client = desk.client; board = desk.board }

-- Each job is settled and has its block, unless memory ran out where the run ended.
abbrev pub HasAnswered : Option Ending → Desk → Type 0
HasAnswered None desk = HasAllBlocks desk.writer desk.board
HasAnswered (Some ending) desk = UnlessExhausted ending (HasAllBlocks desk.writer desk.board)

-- what is written stays written, whatever was taken before
abbrev pub Shows : Bool → Desk → Desk → Option (List ℕ) → Option (List ℕ) → Type 0
Shows trace old new now after = (before : Option (List ℕ)) →
    HasWritten trace old.writer old.board before now →
    HasWritten trace new.writer new.board before after

-- only a front of the blocks was taken
abbrev pub ShowsFront : Bool → Desk → Desk → Option (List ℕ) → Option (List ℕ) → Type 0
ShowsFront trace old new now after = (before : Option (List ℕ)) →
    HasWritten trace old.writer old.board before now → TookFront trace new.board before after
