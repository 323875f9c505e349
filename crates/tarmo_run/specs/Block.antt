-- The blocks of a board's verdicts.
use Rattle.std.specs.Prelude.{◌≡◌, ℕ, zero, suc, Bool, Some, List, [], ◌++◌, length}
use Rattle.entry_core.specs.declared.answers.Verdict.{Verdict}
use Rattle.entry_core.specs.Journal.{inputs_of}
use Rattle.entry_core.specs.Settled.{settled}
use Rattle.board_core.specs.State.{State}
use Rattle.verdict_text.specs.Block.{IsBlock, shown_of}

-- The text is the block of the job's verdict, over the job's clauses, with or without the trace of
-- a refuted part.
pub record IsBlockOf (trace : Bool) (board : State) (job : ℕ) (text : List ℕ) : Type 0 where
  pub given : Verdict
  pub is : settled board.rules board.journal job ≡ Some given
  pub block : IsBlock (length (inputs_of board.journal job))
      (record { job = job; shown = shown_of trace given }) text

-- the blocks of the jobs from 1 to the number, one after another
abbrev pub AreBlocks : Bool → State → ℕ → List ℕ → Type 0
AreBlocks trace board zero text = text ≡ []
AreBlocks trace board (suc job) text =
    (front : List ℕ) × (block : List ℕ) × AreBlocks trace board job front
    × IsBlockOf trace board (suc job) block × (text ≡ front ++ block)
