-- What a desk keeps when its board grows.
use Rattle.std.proofs.Common.{◌≡◌, ◌∙◌, List, [], ◌++◌, length, ap, sym, subst, arith}
use Rattle.entry_core.specs.Journal.{clauses_of, inputs_of, jobs}
use Rattle.entry_core.proofs.Inputs.{inputs_of_none}
use Rattle.board_core.specs.State.{State}
use Rattle.worker_loop.specs.Fits.{Fits}
use Rattle.worker_loop.specs.Working.{HasAttemptsMore, IsResting}
use Rattle.tarmo_run.specs.declared.desk.Desk.{Desk}
use Rattle.tarmo_run.specs.declared.writer.Writer.{Writer}
use Rattle.tarmo_run.specs.Desk.{IsAlone, IsBetweenPieces, IsFresh, progress_of}
use Rattle.tarmo_run.specs.Growth.{HasJobsMore, IsLonger}
use Rattle.tarmo_run.specs.Reading.{IsNew}
use Rattle.tarmo_run.specs.Variables.{AreWithinVariables}
use Rattle.tarmo_run.specs.Writer.{HasAllBlocks, HasCounted}
use Rattle.tarmo_run.proofs.Boards.{clauses_stay, fits_longer, inputs_stay, more_jobs}
use Rattle.tarmo_run.proofs.Boards.{work_adds_none}
use Rattle.tarmo_run.proofs.Variables.{within_none}
use Rattle.tarmo_run.proofs.Boards.{work_cancels_none}

-- nothing is counted yet
pub none_counted : (writer : Writer) (board : State) → writer.written ≡ 0 → writer.inputs ≡ 0 →
    HasCounted writer board
none_counted writer board none empty = record {
  few = omega (arith, none);
  inputs = empty ∙ ap length (sym (inputs_of_none board.journal))
      ∙ ap (λ n. length (inputs_of board.journal n)) (sym none);
  within = subst (λ n. AreWithinVariables (clauses_of board.journal n)) (sym none)
      (within_none board.journal);
}

-- what is counted of a board is counted of a longer one
pub counted_longer : (writer : Writer) (old new : State) → IsLonger old new →
    HasCounted writer old → HasCounted writer new
counted_longer writer old new longer counted =
    let more = more_jobs old new longer in
    record {
      few = omega (arith, counted.few, more);
      inputs = counted.inputs
          ∙ ap length (sym (inputs_stay old new writer.written longer counted.few));
      within = subst AreWithinVariables
          (sym (clauses_stay old new writer.written longer counted.few)) counted.within;
    }

-- jobs came
pub between_added : (old new : Desk) → HasJobsMore old.board new.board →
    new.bench ≡ old.bench → new.writer ≡ old.writer → IsBetweenPieces old → IsBetweenPieces new
between_added old new more bench writer between = record {
  alone = subst IsAlone (sym more.longer.rules) between.alone;
  none_cancelled = more.none_cancelled ∙ between.none_cancelled;
  fits = rw bench (fits_longer old.bench old.board new.board more.longer between.fits);
  resting = more.resting 2 between.resting;
  counted = subst (λ (w : Writer). HasCounted w new.board) (sym writer)
      (counted_longer old.writer old.board new.board more.longer between.counted);
}

-- attempts came, of which none is open
pub between_worked : (old new : Desk) → HasAttemptsMore old.board new.board 2 →
    IsResting new.board 2 → Fits new.bench new.board.journal →
    new.writer ≡ old.writer → IsBetweenPieces old → IsBetweenPieces new
between_worked old new work resting fits writer between =
    let none = work_adds_none old.board new.board 2 work in
    record {
      alone = subst IsAlone (sym work.rules) between.alone;
      none_cancelled = work_cancels_none old.board new.board 2 work ∙ between.none_cancelled;
      fits = fits;
      resting = resting;
      counted = subst (λ (w : Writer). HasCounted w new.board) (sym writer)
          (counted_longer old.writer old.board new.board none.longer between.counted);
    }

-- before anything is read, nothing is asked
pub new_at_first : (desk : Desk) → IsFresh desk → IsNew (progress_of desk)
new_at_first desk fresh = record { journal = fresh.journal; pending = fresh.pending }

-- and all of it is answered
pub all_at_first : (desk : Desk) → IsFresh desk → HasAllBlocks desk.writer desk.board
all_at_first desk fresh = record {
  settled = λ job there. absurd
      (omega (arith, there.from_one, there.added, ap jobs fresh.journal));
  written = fresh.written ∙ ap jobs (sym fresh.journal);
}
