-- A service with its passes, before a run and after it.
use Rattle.std.specs.Prelude.{◌≡◌, ◌+◌, ◌<◌, ◌≤◌, ℕ, false, List, [], All, length, slice_index_or}
use Rattle.std.specs.Vec.{vec_capacity, vec_len}
use Rattle.entry_core.specs.declared.rules.Rules.{Rules}
use Rattle.entry_core.specs.Journal.{segments}
use Rattle.entry_core.specs.Legal.{IsLegal}
use Rattle.entry_core.specs.Settled.{cancelled}
use Rattle.board_core.specs.State.{State}
use Rattle.service.specs.Passes.{BoardPass}
use Rattle.tarmo_run.specs.declared.crew.Crew.{Crew}
use Rattle.tarmo_run.specs.declared.printer.Printer.{Printer}
use Rattle.tarmo_run.specs.Growth.{AllRest, IsLonger}
use Rattle.tarmo_run.specs.Reading.{IsNew}
use Rattle.tarmo_run.specs.Sides.{IsAdder, IsPrinter, MayWork, progress_by, seen_by}

-- All passes of the lock are there. The workers' ones have the numbers after the clients', and no
-- open attempt.
pub record IsWhole (crew : Crew) : Type 0 where
  pub clients : crew.service.lock.basis.clients ≡ 2
  pub adder : IsAdder crew.service.lock crew.adder
  pub printer : IsPrinter crew.service.lock crew.printer
  pub workers : (k : ℕ) (d : BoardPass) → k < length crew.workers.items →
      MayWork crew.service.lock (slice_index_or crew.workers.items k d)
      × ((slice_index_or crew.workers.items k d).number ≡ k + 3)
  pub passes : 2 + length crew.workers.items ≡ crew.service.lock.passes
  pub empty : (crew.room.items ≡ []) × (vec_len crew.room ≡ 0)
  pub room : 2 ≤ vec_capacity crew.room

-- nothing was read, added or written yet, and the workers may begin
pub record IsGathered (crew : Crew) : Type 0 where
  pub whole : IsWhole crew
  pub new : IsNew (progress_by crew.service.lock crew.adder)
  pub written : crew.printer.writer.written ≡ 0
  pub well : crew.printer.failed ≡ false
  pub may_work : All (MayWork crew.service.lock) crew.workers.items

-- The board that a crew leaves: with the adder's jobs, more entries than the printer has seen, no
-- open attempt, and no cancelled job where the sink didn't fail.
pub record IsLeft (crew : Crew) (board : State) : Type 0 where
  pub rules : board.rules ≡ crew.service.lock.basis
  pub legal : IsLegal board.rules board.journal
  pub jobs : segments board.journal ≡ segments crew.adder.pass.own
  pub longer : IsLonger (seen_by crew.service.lock crew.printer.pass) board
  pub none_open : AllRest board
  pub none_cancelled : crew.printer.failed ≡ false → cancelled board.journal ≡ []
