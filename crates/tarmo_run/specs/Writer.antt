-- What a writer has counted, and what its sink took.
use Rattle.std.specs.Prelude.{◌≡◌, ◌+◌, ◌≤◌, ℕ, Bool, Option, Some, List, length, take}
use Rattle.std.specs.Arc.{arc_value}
use Rattle.run_io.specs.Bytes.{appended}
use Rattle.trace_core.specs.Known.{item_at}
use Rattle.entry_core.specs.Journal.{clauses_of, inputs_of, jobs, segments}
use Rattle.entry_core.specs.Legal.{IsLegal}
use Rattle.board_core.specs.Replies.{HasVerdict}
use Rattle.board_core.specs.State.{State}
use Rattle.tarmo_run.specs.declared.writer.Writer.{Writer}
use Rattle.tarmo_run.specs.declared.writer.Due.{Due}
use Rattle.tarmo_run.specs.declared.writer.Halt.{Halt}
use Rattle.tarmo_run.specs.declared.writer.Halt.TheVariants.{Unwritten, Memory}
use Rattle.tarmo_run.specs.Block.{AreBlocks}
use Rattle.tarmo_run.specs.Variables.{AreWithinVariables}
use Rattle.tarmo_run.specs.Output.{AreSettled}

-- The jobs that have their blocks are the first ones of the board. Their clauses are counted, and
-- their variables are within the limit.
pub record HasCounted (writer : Writer) (board : State) : Type 0 where
  pub few : writer.written ≤ jobs board.journal
  pub inputs : writer.inputs ≡ length (inputs_of board.journal writer.written)
  pub within : AreWithinVariables (clauses_of board.journal writer.written)

-- each job is settled and has its block
pub record HasAllBlocks (writer : Writer) (board : State) : Type 0 where
  pub settled : AreSettled board
  pub written : writer.written ≡ jobs board.journal

-- the first job without a block, what was added with it and its verdict, on a legal board
pub record IsDue (writer : Writer) (board : State) (due : Due) : Type 0 where
  pub legal : IsLegal board.rules board.journal
  pub counted : HasCounted writer board
  pub next : due.job ≡ writer.written + 1
  pub added : item_at (segments board.journal) due.job ≡ Some (arc_value due.segment)
  pub verdict : HasVerdict board due.job due.verdict

-- the blocks of the first jobs of the board were taken
pub record TookBlocks (trace : Bool) (board : State) (count : ℕ)
    (before now : Option (List ℕ)) : Type 0 where
  pub blocks : List ℕ
  pub right : AreBlocks trace board count blocks
  pub taken : now ≡ appended before blocks

-- the blocks that the writer counts as written were taken
abbrev pub HasWritten : Bool → Writer → State → Option (List ℕ) → Option (List ℕ) → Type 0
HasWritten trace writer board before now = TookBlocks trace board writer.written before now

-- a front of the blocks of the first jobs of the board was taken
pub record TookFront (trace : Bool) (board : State) (before now : Option (List ℕ)) : Type 0 where
  pub count : ℕ
  pub few : count ≤ jobs board.journal
  pub blocks : List ℕ
  pub right : AreBlocks trace board count blocks
  pub size : ℕ
  pub within : size ≤ length blocks
  pub taken : now ≡ appended before (take size blocks)

-- what is written stays written, whatever was taken before
abbrev pub Writes : Bool → State → Writer → Writer → Option (List ℕ) → Option (List ℕ) → Type 0
Writes trace board old new now after = (before : Option (List ℕ)) →
    HasWritten trace old board before now → HasWritten trace new board before after

-- only a front of the blocks was taken
abbrev pub Breaks : Bool → State → Writer → Option (List ℕ) → Option (List ℕ) → Type 0
Breaks trace board old now after = (before : Option (List ℕ)) →
    HasWritten trace old board before now → TookFront trace board before after

-- what was taken of the blocks where writing them stopped
abbrev pub WritesUntil : Bool → Halt → State → Writer → Writer → Option (List ℕ) →
    Option (List ℕ) → Type 0
WritesUntil trace Unwritten board old new now after = Breaks trace board old now after
WritesUntil trace Memory board old new now after = Writes trace board old new now after
