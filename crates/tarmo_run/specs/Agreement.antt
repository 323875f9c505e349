-- Two runs on one text.
use Rattle.std.specs.Prelude.{◌≡◌, ℕ, Bool, true, Option, Some, List}
use Rattle.run_io.specs.Bytes.{IsEmptyWhereTold}
use Rattle.entry_core.specs.declared.rules.Rules.{Rules}
use Rattle.entry_core.specs.Settled.{settled}
use Rattle.board_core.specs.Replies.{IsJob}
use Rattle.board_core.specs.State.{State}
use Rattle.tarmo_run.specs.Body.{is_satisfiable, is_unsatisfiable}
use Rattle.tarmo_run.specs.Output.{IsRun}

-- what a run showed: its rules, what its source and its sink told, its status and its board
pub record Shown : Type 0 where
  pub rules : Rules
  pub left : Option (List ℕ)
  pub ended : Bool
  pub failed : Bool
  pub taken_before : Option (List ℕ)
  pub taken_after : Option (List ℕ)
  pub status : ℕ
  pub board : State

-- A run over this text: what the clauses `run` and `whole` say of it.
pub record IsRunOver (text : List ℕ) (shown : Shown) : Type 0 where
  pub run : IsRun shown.rules (Some text) shown.left shown.ended shown.failed shown.taken_before
      shown.taken_after shown.status shown.board
  pub whole : shown.ended ≡ true → IsEmptyWhereTold shown.left

-- Of two runs over one text, on one thread or on many, none answers a job SATISFIABLE that the
-- other answers UNSATISFIABLE.
abbrev pub RunsAgree : Type 0
RunsAgree = (text : List ℕ) (first second : Shown) (job : ℕ) →
    IsRunOver text first → IsRunOver text second →
    IsJob first.board job → IsJob second.board job →
    is_satisfiable (settled first.board.rules first.board.journal job) ≡ true →
    ¬ (is_unsatisfiable (settled second.board.rules second.board.journal job) ≡ true)
