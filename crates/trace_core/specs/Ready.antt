-- A checker between two calls.
use Rattle.std.specs.Prelude.{◌≡◌, ℕ, List, [], length, Contains}
use Rattle.trace_core.specs.Known.{Known}
use Rattle.trace_core.specs.Marking.{AreFree, HasRoom}
use Rattle.trace_core.specs.declared.marks.Mark.{Mark}

-- so many marks have room for each of the known clauses
abbrev pub HaveRoomFor : ℕ → List Known → Type 0
HaveRoomFor size clauses = (named : Known) → Contains clauses named → HasRoom size named.clause

-- nothing holds, and each known clause has its marks
pub record IsReady (marks : List Mark) (set : List ℕ) (inputs steps : List Known) : Type 0 where
  pub free : AreFree marks
  pub empty : set ≡ []
  pub inputs_room : HaveRoomFor (length marks) inputs
  pub steps_room : HaveRoomFor (length marks) steps
