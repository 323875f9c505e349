-- What a run promises, on one thread or on many.
use Rattle.std.specs.Prelude.{◌≡◌, ◌≢◌, ◌<◌, ◌≤◌, ◌⊎◌, ◌↔◌, ◌^◌, ℕ, Bool, true, false, nat_lt}
use Rattle.std.specs.Prelude.{◌==◌, Option, Some, None, IfSome, MatchOption, List, count_by}
use Rattle.sat_base.specs.Lit.{variables}
use Rattle.run_io.specs.Bytes.{IsEmptyWhereTold}
use Rattle.entry_core.specs.declared.answers.Verdict.{Verdict}
use Rattle.entry_core.specs.declared.answers.Verdict.TheVariants as verdict
use Rattle.entry_core.specs.declared.rules.Rules.{Rules}
use Rattle.entry_core.specs.Attempts.{Attempt, attempt, ended}
use Rattle.entry_core.specs.Causes.{HasCause}
use Rattle.entry_core.specs.Journal.{clauses_of, cube_of, is_closed}
use Rattle.entry_core.specs.Settled.{settled}
use Rattle.board_core.specs.State.{State}
use Rattle.words.specs.Accepted.{Asked, OfSum, OfText, accepted}
use Rattle.tarmo_run.specs.declared.alone.Finish.{Finish}
use Rattle.tarmo_run.specs.Output.{HadNoBoard, IsAnswered, IsRunOn}

-- each verdict of the board has its cause
abbrev pub HaveCauses : State → Type 0
HaveCauses board = (job : ℕ) (given : Verdict) →
    settled board.rules board.journal job ≡ Some given →
    HasCause board.rules board.journal job given

-- each attempt that was begun has one entry that ends it
abbrev pub HaveEnds : State → Type 0
HaveEnds board = (number : ℕ) (begun : Attempt) → attempt board.journal number ≡ Some begun →
    count_by (λ other. other == number) (ended board.journal) ≡ 1

-- no job is given up under a budget above the number of clauses over its variables
abbrev pub HaveBudgets : State → Type 0
HaveBudgets board = (job : ℕ) → settled board.rules board.journal job ≡ Some verdict.Spent →
    board.rules.conflicts ≤ 3 ^ variables (clauses_of board.journal job) (cube_of board.journal job)

-- The promise of a run over a source and a sink. Contracts see of a source which bytes are left,
-- its count of faults, whether it has ended, and which input it has open; and of a sink which bytes
-- it took, and its count of faults. The words of the command line give the rules of the board.
pub record KeepsPromise {S O : Type 0} (left : S → Option (List ℕ)) (source_faults : S → ℕ)
    (ended : S → Bool) (opened : S → Option (List ℕ) → Bool) (taken : O → Option (List ℕ))
    (sink_faults : O → ℕ) (rules : Asked → Rules) (line : List (List ℕ))
    (source_old source_new : S) (out_old out_new : O) (finish : Finish) : Type 0 where
  -- Words that aren't accepted are status 5, unless memory ran out first. Then nothing is read and
  -- nothing written.
  pub words : (finish.status ≡ 5) ↔ ((accepted line ≡ None)
      × (finish.status ≢ 4) × (finish.status ≢ 6))
  pub refused : accepted line ≡ None → finish.board ≡ None
  pub untouched : finish.status ≡ 5 →
      (source_new ≡ source_old) × (out_new ≡ out_old) × (finish.board ≡ None)
  -- Without a board the source isn't started.
  pub no_board : finish.board ≡ None → (finish.status ≡ 5)
      ⊎ HadNoBoard (left source_old) (left source_new) (taken out_old) (taken out_new)
      finish.status
  pub unstarted : finish.board ≡ None → source_new ≡ source_old
  -- What was written for the bytes that were read, what stands on the board, and which status that
  -- is. With `--sum` the source isn't started.
  pub run : (command : Asked) → accepted line ≡ Some command → MatchOption finish.board
      (HadNoBoard (left source_old) (left source_new) (taken out_old) (taken out_new)
      finish.status)
      (IsRunOn command.work (rules command) (left source_old) (left source_new)
      (ended source_new) (nat_lt (source_faults source_old) (source_faults source_new))
      (taken out_old) (taken out_new) finish.status)
  pub summed : (command : Asked) (number : ℕ) → accepted line ≡ Some command →
      command.work ≡ OfSum number → source_new ≡ source_old
  -- Unless something failed or memory ran out, the input that was read is the one of the words: the
  -- file with that name, or standard input.
  pub named : (command : Asked) (name : Option (List ℕ)) → accepted line ≡ Some command →
      command.work ≡ OfText name → finish.status ≢ 3 → finish.status ≢ 4 → finish.status ≢ 6 →
      opened source_new name ≡ true
  pub whole : ended source_new ≡ true → IsEmptyWhereTold (left source_new)
  -- Where nothing fails and memory is there, the text decides the rest.
  pub complete : (command : Asked) (name : Option (List ℕ)) (text : List ℕ) →
      accepted line ≡ Some command → command.work ≡ OfText name →
      left source_old ≡ Some text → source_faults source_new ≡ source_faults source_old →
      sink_faults out_new ≡ sink_faults out_old →
      MatchOption finish.board (finish.status ≡ 6)
      (λ board. IsAnswered command.trace text (taken out_old) (taken out_new)
      finish.status board ⊎ (finish.status ≡ 6))
  -- The board takes no more jobs, no attempt on it is open, and each verdict has its cause.
  pub closed : IfSome finish.board (λ board. is_closed board.journal ≡ true)
  pub none_open : IfSome finish.board HaveEnds
  pub causes : IfSome finish.board HaveCauses
  pub budget : IfSome finish.board HaveBudgets
  -- Status 4 is a fault of the sink, and status 3 one of the source.
  pub sink : (finish.status ≡ 4) ↔ (sink_faults out_old < sink_faults out_new)
  pub source : (finish.status ≡ 3) ↔ ((source_faults source_old < source_faults source_new)
      × (finish.status ≢ 4) × (finish.status ≢ 6))
  pub counts : (source_faults source_old ≤ source_faults source_new)
      × (sink_faults out_old ≤ sink_faults out_new)
