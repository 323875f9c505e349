-- What a call did with the lock.
use Rattle.std.specs.Prelude.{◌≡◌, ℕ, ◌<◌, List, [], ◌∷◌, ◌++◌, map, All}
use Rattle.entry_core.specs.declared.entries.Entry.{Entry}
use Rattle.entry_core.specs.declared.entries.Event.{Event}
use Rattle.entry_core.specs.Settled.{settled_jobs}
use Rattle.entry_core.specs.Legal.{IsLegal}
use Rattle.turn_lock.specs.declared.view.Look.TheVariants.{Turn}
use Rattle.board_core.specs.Replies.{IsUnsettled}
use Rattle.service.specs.Passes.{BoardLock, BoardPass, Knows, board_of}

-- One hold: it showed this journal, and added these entries of the pass's own. The turn word was
-- found taken so often before it was found free.
pub record IsHold (lock : BoardLock) (before after : BoardPass) (taken : List ℕ)
    (shown added : List Entry) : Type 0 where
  pub known : Knows before (board_of lock shown)
  pub legal : IsLegal lock.basis (shown ++ added)
  pub left : after ≡ record before {
    seen = shown ++ added;
    own = before.own ++ added;
    floor = settled_jobs lock.basis (shown ++ added);
    looks = before.looks ++ map Turn taken ++ Turn 0 ∷ [];
  }

-- one hold, for which the call waited
pub record MadeHold (lock : BoardLock) (before after : BoardPass)
    (shown added : List Entry) : Type 0 where
  pub taken : List ℕ
  pub busy : All (λ word. 0 < word) taken
  pub hold : IsHold lock before after taken shown added

-- one hold that added this one entry
abbrev pub MadeEntry : BoardLock → BoardPass → BoardPass → List Entry → Event → Type 0
MadeEntry lock before after shown happened =
    MadeHold lock before after shown (record { caller = before.number; event = happened } ∷ [])

-- one hold that added nothing, so that all that it showed was seen
abbrev pub Looked : BoardLock → BoardPass → BoardPass → Type 0
Looked lock before after = MadeHold lock before after after.seen []

-- any number of holds, the passes after each of which these are: they added nothing, and the job
-- wasn't settled in any
abbrev pub LookedInVain : BoardLock → ℕ → BoardPass → List BoardPass → BoardPass → Type 0
LookedInVain lock job before [] after = before ≡ after
LookedInVain lock job before (next ∷ rest) after =
    Looked lock before next × IsUnsettled (board_of lock next.seen) job
    × LookedInVain lock job next rest after
