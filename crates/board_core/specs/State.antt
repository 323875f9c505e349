-- What callers see of a board.
use Rattle.std.specs.Prelude.{ℕ, List, [], ◌∷◌, ◌++◌}
use Rattle.entry_core.specs.declared.entries.Entry.{Entry}
use Rattle.entry_core.specs.declared.entries.Event.{Event}
use Rattle.entry_core.specs.declared.rules.Rules.{Rules}

-- its rules and its journal
pub record State : Type 0 where
  pub rules : Rules
  pub journal : List Entry

-- the board with one entry more
abbrev pub entered : State → ℕ → Event → State
entered board caller happened = record {
  rules = board.rules;
  journal = board.journal ++ record { caller = caller; event = happened } ∷ [];
}
