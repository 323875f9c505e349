-- The rule of the lock's table: there is one history of entries, and all that any pass knows fits
-- it.
use Rattle.std.specs.Prelude.{◌≡◌, ◌≢◌, ℕ, ◌+◌, ◌<◌, ◌≤◌, true, false, List, [], ◌∷◌, ◌++◌, Option}
use Rattle.std.specs.Prelude.{Some, None, All}
use mathlib.Core.Option.{Option as Maybe, some, none}
use lib.ListN.{get_elem?}
use Rattle.atomic_table.specs.Table.{State, Me, Step, rest}
use Rattle.turn_lock.specs.declared.view.Look.TheVariants.{Turn, Count}
use Rattle.turn_lock.specs.declared.view.PastView.{PastView}
use Rattle.turn_lock.specs.declared.view.SeatView.{SeatView}
use Rattle.turn_lock.specs.Entries.{StartsWith, entries_of}

-- what the history so far, the turn, the count and the greatest number given out say of the pass
-- with the seat j
pub record FitsPass {E G : Type 0} (caller : E → ℕ) (g : G) (log : List E)
    (turn tally top numberer j : ℕ) (v : SeatView E G) : Type 0 where
  pub least : 0 < v.number
  pub most : v.number ≤ top
  pub idle : v.idle ≡ true → v.number ≢ turn
  pub busy : v.idle ≡ false → (v.number ≡ turn) × (v.seen ≡ log)
  pub seen : StartsWith log v.seen
  pub own : entries_of caller v.number log ≡ v.own
  pub floor : v.floor ≤ tally
  pub basis : v.basis ≡ Some g
  pub greatest : 0 < v.greatest → (j ≡ numberer) × (v.greatest ≡ top)

-- the same of a pass whose seat was given up
pub record FitsPast {E : Type 0} (caller : E → ℕ) (log : List E) (tally top : ℕ)
    (x : PastView E) : Type 0 where
  pub least : 0 < x.number
  pub most : x.number ≤ top
  pub seen : StartsWith log x.seen
  pub own : entries_of caller x.number log ≡ x.own
  pub floor : x.floor ≤ tally

module _ {E G : Type 0} where
  -- some seat is of the pass with this number
  abbrev pub IsSeated : List (SeatView E G) → ℕ → Type 0
  IsSeated views number = (j : ℕ) × (v : SeatView E G) × (get_elem? views j ≡ some v)
      × (v.number ≡ number)

  -- no seat is of a pass with this number
  abbrev pub IsGone : List (SeatView E G) → ℕ → Type 0
  IsGone views number = (j : ℕ) (v : SeatView E G) → get_elem? views j ≡ some v → v.number ≢ number

-- while nobody has the turn the value is at home, with the history for its entries; else the slot
-- is out
pub record FitsSlot {T E G : Type 0} (entries : T → List E) (basis : T → G) (g : G) (log : List E)
    (turn : ℕ) (homes : List (Maybe (Option T))) : Type 0 where
  pub home : turn ≡ 0
      → (value : T) × (get_elem? homes 0 ≡ some (some (Some value))) × (entries value ≡ log)
      × (basis value ≡ g)
  pub out : 0 < turn → get_elem? homes 0 ≡ some none

-- some value of the ground g has the history for its entries, and this count
pub record IsCountOf {T E G : Type 0} (entries : T → List E) (count : T → ℕ) (basis : T → G)
    (g : G) (log : List E) (tally : ℕ) : Type 0 where
  pub value : T
  pub entries_are : entries value ≡ log
  pub basis_is : basis value ≡ g
  pub count_is : count value ≡ tally

-- The rule. There is one history, whose entries are of callers with numbers that were given out. At
-- most one pass has the turn. Passes have different numbers; each has seen a beginning of the
-- history and has exactly its own entries there, and its floor is no more than the count.
pub record IsOneHistory {T E G : Type 0} (entries : T → List E) (caller : E → ℕ) (count : T → ℕ)
    (basis : T → G) (g : G) (most : ℕ) (s : State (Option T) (SeatView E G)) : Type 0 where
  pub log : List E
  pub turn : ℕ
  pub tally : ℕ
  pub top : ℕ
  pub numberer : ℕ
  pub words : s.words ≡ turn ∷ tally ∷ []
  pub known : All (λ e. (0 < caller e) × (caller e ≤ top)) log
  pub few : (top ≤ most) × (most ≤ 80)
  pub counted : IsCountOf entries count basis g log tally
  pub slot : FitsSlot entries basis g log turn s.homes
  pub holder : 0 < turn → IsSeated s.views turn
  pub each : (j : ℕ) (v : SeatView E G) → get_elem? s.views j ≡ some v → 0 < v.number
      → FitsPass caller g log turn tally top numberer j v
  pub apart : (i j : ℕ) (v w : SeatView E G) → get_elem? s.views i ≡ some v
      → get_elem? s.views j ≡ some w → 0 < v.number → v.number ≡ w.number → i ≡ j
  pub pasts : (j k : ℕ) (v : SeatView E G) (x : PastView E) → get_elem? s.views j ≡ some v
      → get_elem? v.past k ≡ some x → FitsPast caller log tally top x × IsGone s.views x.number

-- The views that the steps leave.
module _ {E G : Type 0} where
  -- a new pass
  abbrev pub fresh : Option G → ℕ → ℕ → SeatView E G
  fresh basis floor number = record {
    number = number;
    seen = [];
    own = [];
    floor = floor;
    idle = true;
    looks = [];
    basis = basis;
    greatest = number;
    past = [];
  }

  -- the first pass of a lock with this ground and count
  abbrev pub first_pass : G → ℕ → SeatView E G
  first_pass g count = fresh (Some g) count 1

  -- of no pass, with what it remembers of past ones
  abbrev pub keeper : List (PastView E) → SeatView E G
  keeper pasts = record {
    number = 0;
    seen = [];
    own = [];
    floor = 0;
    idle = true;
    looks = [];
    basis = None;
    greatest = 0;
    past = pasts;
  }

  -- of no pass, and never of one
  abbrev pub blank : SeatView E G
  blank = keeper []

  -- after the next pass was numbered, and that pass
  abbrev pub numbered : SeatView E G → SeatView E G
  numbered v = record v { greatest = 0 }

  abbrev pub newcomer : SeatView E G → SeatView E G
  newcomer v = fresh v.basis v.floor (v.greatest + 1)

  -- the turn is got, and all entries are seen
  abbrev pub holding : SeatView E G → List E → SeatView E G
  holding v log = record v { seen = log; idle = false; looks = v.looks ++ Turn 0 ∷ [] }

  -- the turn was found taken
  abbrev pub refused : SeatView E G → ℕ → SeatView E G
  refused v word = record v { looks = v.looks ++ Turn word ∷ [] }

  -- the entries of the hold and their count are known
  abbrev pub tallying : SeatView E G → List E → List E → ℕ → SeatView E G
  tallying v log own count = record v { seen = log; own = own; floor = count }

  abbrev pub leaving : SeatView E G → SeatView E G
  leaving v = record v { idle = true }

  abbrev pub counting : SeatView E G → ℕ → SeatView E G
  counting v count = record v { floor = count; looks = v.looks ++ Count count ∷ [] }

  abbrev pub past_of : SeatView E G → PastView E
  past_of v = record { number = v.number; seen = v.seen; own = v.own; floor = v.floor }

  abbrev pub remembering : SeatView E G → SeatView E G → SeatView E G
  remembering v w = record v { past = past_of w ∷ v.past }

-- a value shows a pass its ground, all entries that the pass saw before, exactly its own ones, and
-- no lower count
pub record Shows {T E G : Type 0} (entries : T → List E) (caller : E → ℕ) (count : T → ℕ)
    (basis : T → G) (v : SeatView E G) (value : T) : Type 0 where
  pub seen : StartsWith (entries value) v.seen
  pub own : entries_of caller v.number (entries value) ≡ v.own
  pub floor : v.floor ≤ count value
  pub basis_is : v.basis ≡ Some (basis value)

-- What each kind of step tells its seat, of the step, the seat before, the number found or stored,
-- and the seat after.
module _ {T E : Type 0} (entries : T → List E) where
  abbrev pub value_entries : Option T → List E
  value_entries None = []
  value_entries (Some value) = entries value

  -- the entries of the value in the slot that the seat took last
  abbrev pub in_hand : List (ℕ × Option T) → List E
  in_hand [] = []
  in_hand (x ∷ xs) = value_entries x.1

module _ {T E G : Type 0} where
  abbrev pub acquired : (T → List E) → (E → ℕ) → (T → ℕ) → (T → G) → Step (Option T)
      → Me (Option T) (SeatView E G) → ℕ → Me (Option T) (SeatView E G) → Type 0
  acquired entries caller count basis step m found n =
      (found ≡ 0
      → (value : T) × (n ≡ (holding m.0 (entries value), (0, Some value) ∷ m.1))
      × Shows entries caller count basis m.0 value)
      × (found ≢ 0 → (found ≤ 80) × (n ≡ (refused m.0 found, m.1)))

  abbrev pub count_stored : (T → List E) → (E → ℕ) → Step (Option T) → Me (Option T) (SeatView E G)
      → ℕ → Me (Option T) (SeatView E G) → Type 0
  count_stored entries caller step m count n =
      n ≡ (
        tallying m.0 (in_hand entries m.1)
            (entries_of caller m.0.number (in_hand entries m.1)) count,
        m.1,
      )

  abbrev pub released : Step (Option T) → Me (Option T) (SeatView E G) → ℕ
      → Me (Option T) (SeatView E G) → Type 0
  released step m stored n = n ≡ (leaving m.0, rest m.1)

  abbrev pub count_loaded : Step (Option T) → Me (Option T) (SeatView E G) → ℕ
      → Me (Option T) (SeatView E G) → Type 0
  count_loaded step m found n = (n ≡ (counting m.0 found, m.1)) × (m.0.floor ≤ found)

  abbrev pub observed : Step (Option T) → Me (Option T) (SeatView E G) → ℕ
      → Me (Option T) (SeatView E G) → Type 0
  observed step m found n = n ≡ (blank, [])
