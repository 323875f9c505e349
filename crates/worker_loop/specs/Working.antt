-- What a worker does to a board.
use Rattle.std.specs.Prelude.{◌≡◌, ◌==◌, ℕ, Some, List, ◌++◌, All, count_by}
use Rattle.entry_core.specs.declared.entries.Entry.{Entry}
use Rattle.entry_core.specs.declared.entries.Event.{Event}
use Rattle.entry_core.specs.declared.entries.Event.TheVariants as event
use Rattle.entry_core.specs.Attempts.{Attempt, attempt, ended}
use Rattle.board_core.specs.State.{State}
use Rattle.board_core.specs.Replies.{IsOwn}

-- an entry that begins an attempt, or ends one with what came of it; dropping it is no such entry
abbrev pub IsOfAttempt : Event → Type 0
IsOfAttempt (event.Began job number) = Unit {0}
IsOfAttempt (event.Spent number learnt) = Unit {0}
IsOfAttempt (event.Decided number given) = Unit {0}
IsOfAttempt (event.Starved number) = Unit {0}
IsOfAttempt (event.Added segment) = ⊥
IsOfAttempt event.Closed = ⊥
IsOfAttempt (event.Cancelled job) = ⊥
IsOfAttempt (event.Shared packet) = ⊥
IsOfAttempt (event.Dropped number) = ⊥

-- Attempts of the caller came behind, none of which was dropped, and nothing else.
pub record HasAttemptsMore (old new : State) (caller : ℕ) : Type 0 where
  pub rules : new.rules ≡ old.rules
  pub more : List Entry
  pub is : new.journal ≡ old.journal ++ more
  pub own : All (λ entry. entry.caller ≡ caller) more
  pub attempts : All (λ entry. IsOfAttempt entry.event) more

-- the caller has no open attempt
abbrev pub IsResting : State → ℕ → Type 0
IsResting board caller = (number : ℕ) → IsOwn board caller number → ⊥

-- how many entries end the attempt of this number
abbrev pub ends_of : List Entry → ℕ → ℕ
ends_of journal number = count_by (λ other. other == number) (ended journal)

-- Each attempt that the caller began was ended, by one entry.
abbrev pub EndsEachOnce : State → ℕ → Type 0
EndsEachOnce board caller = (number : ℕ) (begun : Attempt)
    → attempt board.journal number ≡ Some begun → begun.worker ≡ caller
    → ends_of board.journal number ≡ 1
