-- What a board keeps.
use Rattle.std.specs.Prelude.{◌≡◌, ◌+◌, ◌≤◌, List, length, vec_capacity}
use Rattle.sat_base.specs.Limits.{most_clauses, most_jobs, most_literals, most_packets}
use Rattle.entry_core.specs.declared.entries.Entry.{Entry}
use Rattle.entry_core.specs.Journal.{jobs, inputs, literals, packets}
use Rattle.entry_core.specs.Legal.{AreWithinLimits, IsLegal}
use Rattle.board_core.specs.declared.board.Board.TheInside.{Inside}
use Rattle.board_core.specs.State.{State}
use Rattle.board_core.specs.Index.{IsIndexOf, IsOrderly, ranks_from, room}

abbrev pub state_of : Inside → State
state_of a = record { rules = a.rules; journal = a.journal.items }

-- numbers within their limits
pub record AreFew (journal : List Entry) : Type 0 where
  pub jobs : jobs journal ≤ most_jobs
  pub clauses : length (inputs journal) ≤ most_clauses
  pub literals : literals journal ≤ most_literals
  pub packets : length (packets journal) ≤ most_packets

pub record IsKept (a : Inside) : Type 0 where
  pub limits : AreWithinLimits a.rules
  pub legal : IsLegal a.rules a.journal.items
  pub few : AreFew a.journal.items
  pub orderly : IsOrderly a.journal.items
  pub index : IsIndexOf a.rules a.journal.items a.index
  pub waiting : a.index.waiting ≡ ranks_from a.rules.attempts 1 a.index.jobs.items
  pub room : length a.journal.items + room a.index ≤ vec_capacity a.journal
