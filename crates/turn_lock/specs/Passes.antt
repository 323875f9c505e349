-- What the lock and a pass are seen as.
use Rattle.std.specs.Prelude.{◌≡◌, ℕ, ◌+◌, ◌<◌, ◌≤◌, Bool, true, false, List, [], ◌∷◌, Option, Some}
use Rattle.std.specs.Prelude.{None, length, slice_index_or}
use mathlib.Core.Option.{some}
use lib.ListN.{get_elem?}
use Rattle.atomic_table.specs.Table.{Me}
use Rattle.atomic_table.specs.Seated.{TableId}
use Rattle.turn_lock.specs.declared.view.Look.{Look}
use Rattle.turn_lock.specs.declared.view.PastView.{PastView}
use Rattle.turn_lock.specs.declared.view.SeatView.{SeatView}
use Rattle.turn_lock.specs.Entries.{StartsWith, entries_of}
use Rattle.turn_lock.specs.Turns.{FitsPast}

-- a lock: which one it is, its ground, and the number of its passes
pub record LockView (G : Type 0) : Type 0 where
  pub id : TableId
  pub basis : G
  pub passes : ℕ

-- a pass: its lock with that lock's ground, its number, the entries that it has seen, those of its
-- own, a number that the count never falls below, whether it has no hold, and what its looks found
pub record PassView (E G : Type 0) : Type 0 where
  pub lock : TableId
  pub basis : Option G
  pub number : ℕ
  pub seen : List E
  pub own : List E
  pub floor : ℕ
  pub idle : Bool
  pub looks : List Look

-- the pass was made with the lock
abbrev pub IsOf : {E G : Type 0} → LockView G → PassView E G → Type 0
IsOf lock pass = (pass.lock ≡ lock.id) × (pass.basis ≡ Some lock.basis)

-- a pass that has seen nothing
abbrev pub new_pass : {E G : Type 0} → LockView G → ℕ → ℕ → PassView E G
new_pass lock floor number = record {
  lock = lock.id;
  basis = Some lock.basis;
  number = number;
  seen = [];
  own = [];
  floor = floor;
  idle = true;
  looks = [];
}

-- these are new passes of the lock with the numbers from 1 on, and their floor is this count
abbrev pub AreNew : {E G : Type 0} → LockView G → ℕ → List (PassView E G) → Type 0
AreNew {E} {G} lock floor passes = (k : ℕ) (d : PassView E G) → k < length passes
    → slice_index_or passes k d ≡ new_pass lock floor (k + 1)

-- these are idle passes of the lock, with the numbers from 1 on
abbrev pub AreIdleInOrder : {E G : Type 0} → LockView G → List (PassView E G) → Type 0
AreIdleInOrder {E} {G} lock passes =
    (k : ℕ) (d : PassView E G) → k < length passes
    → IsOf lock (slice_index_or passes k d) × ((slice_index_or passes k d).number ≡ k + 1)
    × ((slice_index_or passes k d).idle ≡ true)

-- all that a pass knows is true of a value: it has the entries seen for its beginning, of the pass
-- exactly the pass's own entries, and a count of at least the floor
pub record AgreesWith {T E G : Type 0} (entries : T → List E) (caller : E → ℕ) (count : T → ℕ)
    (pass : PassView E G) (value : T) : Type 0 where
  pub seen : StartsWith (entries value) pass.seen
  pub own : entries_of caller pass.number (entries value) ≡ pass.own
  pub floor : pass.floor ≤ count value

-- what a pass shows of its seat
abbrev pub pass_view : {E G : Type 0} → TableId → SeatView E G → PassView E G
pass_view lock v = record {
  lock = lock;
  basis = v.basis;
  number = v.number;
  seen = v.seen;
  own = v.own;
  floor = v.floor;
  idle = v.idle;
  looks = v.looks;
}

-- what is remembered of a pass
abbrev pub remembered : {E G : Type 0} → PassView E G → PastView E
remembered pass = record {
  number = pass.number;
  seen = pass.seen;
  own = pass.own;
  floor = pass.floor;
}

-- each number that a lock of so many passes gave out is of a past pass
abbrev pub AllPast : {E : Type 0} → ℕ → List (PastView E) → Type 0
AllPast {E} passes pasts = (number : ℕ) → 0 < number → number ≤ passes
    → (k : ℕ) × (x : PastView E) × (get_elem? pasts k ≡ some x) × (x.number ≡ number)

-- all past passes fit a value
abbrev pub FitsPasts : {T E : Type 0} → (T → List E) → (E → ℕ) → (T → ℕ) → ℕ → List (PastView E)
    → T → Type 0
FitsPasts {T} {E} entries caller count passes pasts value = (k : ℕ) (x : PastView E)
    → get_elem? pasts k ≡ some x → FitsPast caller (entries value) (count value) passes x

-- A pass's seat has the pass's number and remembers no other pass. It has the slot out exactly
-- while it isn't idle: then the slot is empty, since the value is in the hold.
pub record IsPassSeat {T E G : Type 0} (caller : E → ℕ) (number : ℕ)
    (m : Me (Option T) (SeatView E G)) : Type 0 where
  pub number_is : m.0.number ≡ number
  pub least : 0 < number
  pub own_are : entries_of caller number m.0.seen ≡ m.0.own
  pub no_past : m.0.past ≡ []
  pub resting : m.0.idle ≡ true → m.1 ≡ []
  pub holding : m.0.idle ≡ false → m.1 ≡ (0, None) ∷ []
