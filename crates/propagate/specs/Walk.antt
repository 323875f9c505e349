-- A walk along the list of a literal that became false.
use Rattle.std.specs.Prelude.{◌≡◌, ℕ, suc, ◌-◌, ◌<◌, ◌==◌, if◌then◌else◌, List, []}
use Rattle.std.specs.Prelude.{◌∷◌, ◌++◌, length, Contains, Option, None, Some, slice_index}
use Rattle.std.specs.Option.{option_map}
use Rattle.clause_arena.specs.Arena.{ArenaClause, clause_at}
use Rattle.trail_core.specs.Trail.{Entry, TrailView, lits_of}
use Rattle.trail_core.specs.UnderTrail.{IsTrueLit, IsFalseLit, IsUnassigned, IsFalseClause}
use Rattle.watch_ring.specs.Link.{pair_of, number_of}
use Rattle.watch_ring.specs.Ring.{RingView, list_of, first_of, last_behind}
use Rattle.propagate.specs.Pairing.{IsTrueUpTo, watched, other_side}
use Rattle.propagate.specs.Places.{IsFreePlace, AreFalseFrom}
use Rattle.propagate.specs.Lists.{IsConnected}
use Rattle.propagate.specs.declared.watches.Look.{Look}
use Rattle.propagate.specs.declared.watches.Look.TheVariants as look
use Rattle.propagate.specs.declared.watches.Step.{Step}
use Rattle.propagate.specs.declared.watches.Step.TheVariants as step

-- a clause that is false
pub record IsRefuted (clauses : List ArenaClause) (entries : List Entry) (id : ℕ) : Type 0 where
  pub known : id < length clauses
  pub is : IsFalseClause (lits_of entries) (clause_at clauses id).lits

-- the literal that is watched on the other side
abbrev pub other_lit : List ℕ → ℕ → ℕ
other_lit clause side = slice_index clause (1 - side)

-- what a look at a clause tells, whose watched literal on this side is false
abbrev pub IsSeen : List ℕ → List ℕ → ℕ → Look → Type 0
IsSeen trues clause side look.Satisfied = IsTrueLit trues (other_lit clause side)
IsSeen trues clause side (look.Free place lit) =
    IsFreePlace trues clause 2 place × (slice_index clause place ≡ lit)
IsSeen trues clause side (look.Forced lit) =
    (other_lit clause side ≡ lit) × IsUnassigned trues lit × AreFalseFrom trues clause 2
IsSeen trues clause side look.False =
    IsFalseLit trues (other_lit clause side) × AreFalseFrom trues clause 2

-- How far the walk is: the sides in front were dealt with, so the literals beside them are true;
-- `here` is the next side, and `before` the one behind which it stands.
pub record IsUnderway (clauses : List ArenaClause) (ring : RingView) (trail : TrailView)
    (gone : ℕ) (before here : Option (ℕ × ℕ)) : Type 0 where
  pub connected : IsConnected clauses [] ring trail
  pub front : List ℕ
  pub back : List ℕ
  pub list_is : list_of ring gone ≡ front ++ back
  pub here_is : here ≡ option_map pair_of (first_of back)
  pub before_is : last_behind None front ≡ option_map number_of before
  pub done : (side : ℕ) → Contains front side
      → IsTrueUpTo trail.entries (watched clauses (other_side side)) trail.depth
  pub gone_false : IsFalseLit (lits_of trail.entries) gone

-- how many sides of the list are left from the first such number on
abbrev pub left_behind : ℕ → List ℕ → ℕ
left_behind number [] = 0
left_behind number (other ∷ numbers) =
    if other == number then suc (length numbers) else left_behind number numbers

abbrev pub left_from : Option (ℕ × ℕ) → List ℕ → ℕ
left_from None numbers = 0
left_from (Some pair) numbers = left_behind (number_of pair) numbers

-- the walk went on, and less is left; or the clause is false
abbrev pub HasStepped : List ArenaClause → RingView → TrailView → ℕ → ℕ → ℕ → Step → Type 0
HasStepped clauses ring trail gone id left (step.On before here) =
    IsUnderway clauses ring trail gone before here
    × (left_from here (list_of ring gone) < left)
HasStepped clauses ring trail gone id left step.Refuted = IsRefuted clauses trail.entries id
