-- A binary heap of variables in the front of an order of all variables.
use Rattle.std.specs.Prelude.{◌≡◌, ℕ, ◌+◌, ◌-◌, ◌*◌, ◌/◌, ◌<◌, ◌≤◌, Bool, true, false, List, length}
use Rattle.std.specs.Prelude.{slice_index_or}
use Rattle.trail_core.specs.Trail.{Entry, IsFree}
use Rattle.pick_core.specs.declared.heap.Item.{Item}

abbrev pub item_in : List Item → ℕ → Item
item_in items index = slice_index_or items index (record { score = 0; rank = 0; place = 0 })

-- variables count from 1
abbrev pub item_at : List Item → ℕ → Item
item_at items var = item_in items (var - 1)

abbrev pub score_at : List Item → ℕ → ℕ
score_at items var = (item_at items var).score

abbrev pub rank_at : List Item → ℕ → ℕ
rank_at items var = (item_at items var).rank

abbrev pub place_at : List Item → ℕ → ℕ
place_at items var = (item_at items var).place

abbrev pub var_at : List ℕ → ℕ → ℕ
var_at order place = slice_index_or order place 0

-- a greater score weighs more, and of equal ones a greater rank
abbrev pub weight_at : List Item → ℕ → ℕ
weight_at items var = 4294967296 * score_at items var + rank_at items var

abbrev pub weight_in : List Item → List ℕ → ℕ → ℕ
weight_in items order place = weight_at items (var_at order place)

-- scores and ranks stayed
pub record HasSameKeys (old new : List Item) : Type 0 where
  pub size : length new ≡ length old
  pub score : (var : ℕ) → score_at new var ≡ score_at old var
  pub rank : (var : ℕ) → rank_at new var ≡ rank_at old var

-- each variable stands once in the order, and its place is known
pub record IsPlaced (items : List Item) (order : List ℕ) : Type 0 where
  pub low : (place : ℕ) → place < length items → 1 ≤ var_at order place
  pub high : (place : ℕ) → place < length items → var_at order place ≤ length items
  pub known : (place : ℕ) → place < length items → place_at items (var_at order place) ≡ place
  pub within : (var : ℕ) → 1 ≤ var → var ≤ length items → place_at items var < length items
  pub stands : (var : ℕ) → 1 ≤ var → var ≤ length items
      → var_at order (place_at items var) ≡ var
  pub room : length items ≤ length order
  pub few : length items ≤ 2147483647
  pub ranked : (var : ℕ) → rank_at items var < 4294967296

-- a variable was put at a place
pub record IsPut (items : List Item) (order : List ℕ) (items' : List Item) (order' : List ℕ)
    (place var : ℕ) : Type 0 where
  pub var_is : var_at order' place ≡ var
  pub place_is : place_at items' var ≡ place
  pub other_vars : (k : ℕ) → (k ≡ place → ⊥) → var_at order' k ≡ var_at order k
  pub other_places : (v : ℕ) → 1 ≤ v → (v ≡ var → ⊥) → place_at items' v ≡ place_at items v
  pub keys : HasSameKeys items items'
  pub room : length order' ≡ length order

-- the variables at two places changed places
pub record IsExchanged (items : List Item) (order : List ℕ) (items' : List Item)
    (order' : List ℕ) (first second : ℕ) : Type 0 where
  pub first_is : var_at order' first ≡ var_at order second
  pub second_is : var_at order' second ≡ var_at order first
  pub others : (k : ℕ) → (k ≡ first → ⊥) → (k ≡ second → ⊥) → var_at order' k ≡ var_at order k
  pub keys : HasSameKeys items items'
  pub placed : IsPlaced items' order'

-- the variable is one of the first `count`
pub record IsIn (items : List Item) (count var : ℕ) : Type 0 where
  pub low : 1 ≤ var
  pub high : var ≤ length items
  pub front : place_at items var < count

-- no weight is above that of its parent
abbrev pub IsHeaped : (ℕ → ℕ) → ℕ → Type 0
IsHeaped weight count = (parent child : ℕ) → 2 * parent + 1 ≤ child → child ≤ 2 * parent + 2
    → child < count → weight child ≤ weight parent

-- the same, but that this one may be above its parent
pub record IsHeapedBelow (weight : ℕ → ℕ) (count at : ℕ) : Type 0 where
  pub each : (parent child : ℕ) → 2 * parent + 1 ≤ child → child ≤ 2 * parent + 2
      → child < count → (child ≡ at → ⊥) → weight child ≤ weight parent
  pub around : (parent child : ℕ) → 2 * parent + 1 ≤ at → at ≤ 2 * parent + 2
      → 2 * at + 1 ≤ child → child ≤ 2 * at + 2 → child < count → weight child ≤ weight parent

-- the same, but that this one may be below its children
pub record IsHeapedAbove (weight : ℕ → ℕ) (count at : ℕ) : Type 0 where
  pub each : (parent child : ℕ) → 2 * parent + 1 ≤ child → child ≤ 2 * parent + 2
      → child < count → (parent ≡ at → ⊥) → weight child ≤ weight parent
  pub around : (parent child : ℕ) → 2 * parent + 1 ≤ at → at ≤ 2 * parent + 2
      → 2 * at + 1 ≤ child → child ≤ 2 * at + 2 → child < count → weight child ≤ weight parent

pub record IsHeap (items : List Item) (order : List ℕ) (count : ℕ) : Type 0 where
  pub placed : IsPlaced items order
  pub count_within : count ≤ length items
  pub heaped : IsHeaped (weight_in items order) count

pub record IsUpHeap (items : List Item) (order : List ℕ) (count at : ℕ) : Type 0 where
  pub placed : IsPlaced items order
  pub count_within : count ≤ length items
  pub at_within : at < count
  pub heaped : IsHeapedBelow (weight_in items order) count at

pub record IsDownHeap (items : List Item) (order : List ℕ) (count at : ℕ) : Type 0 where
  pub placed : IsPlaced items order
  pub count_within : count ≤ length items
  pub at_within : at ≤ count
  pub heaped : IsHeapedAbove (weight_in items order) count at

-- a child of a place that no other child outweighs
pub record IsBestChild (items : List Item) (order : List ℕ) (count at child : ℕ) : Type 0 where
  pub low : 2 * at + 1 ≤ child
  pub high : child ≤ 2 * at + 2
  pub within : child < count
  pub best : (other : ℕ) → 2 * at + 1 ≤ other → other ≤ 2 * at + 2 → other < count
      → weight_in items order other ≤ weight_in items order child

-- the variable is free, and no free one outweighs it
pub record IsBest (entries : List Entry) (items : List Item) (var : ℕ) : Type 0 where
  pub low : 1 ≤ var
  pub high : var ≤ length items
  pub free : IsFree entries var
  pub best : (other : ℕ) → 1 ≤ other → other ≤ length items → IsFree entries other
      → weight_at items other ≤ weight_at items var

-- the score of one variable grew, and nothing else changed
pub record IsScored (old new : List Item) (var : ℕ) : Type 0 where
  pub size : length new ≡ length old
  pub more : score_at old var ≤ score_at new var
  pub others : (v : ℕ) → 1 ≤ v → (v ≡ var → ⊥) → score_at new v ≡ score_at old v
  pub rank : (v : ℕ) → rank_at new v ≡ rank_at old v
  pub place : (v : ℕ) → place_at new v ≡ place_at old v

-- all scores were divided by 2^40
pub record IsScaled (old new : List Item) : Type 0 where
  pub size : length new ≡ length old
  pub score : (i : ℕ) → (item_in new i).score ≡ (item_in old i).score / 1099511627776
  pub rank : (i : ℕ) → (item_in new i).rank ≡ (item_in old i).rank
  pub place : (i : ℕ) → (item_in new i).place ≡ (item_in old i).place

-- the variables above `from` up to `to` are among the first `count`
abbrev pub AreIn : List Item → ℕ → ℕ → ℕ → Type 0
AreIn items count from to = (var : ℕ) → from < var → var ≤ to → IsIn items count var

-- The rank with which a variable enters: at the end above all others, and at the front below them.
abbrev pub entry_rank : Bool → ℕ → ℕ
entry_rank true var = 2147483648 + var
entry_rank false var = 2147483648 - var

-- the places from `from` on are those of new variables
pub record IsFilled (items : List Item) (order : List ℕ) (items' : List Item) (order' : List ℕ)
    (from : ℕ) (at_end : Bool) : Type 0 where
  pub size : length items' ≡ length items
  pub room : length order' ≡ length order
  pub old : (i : ℕ) → i < from → item_in items' i ≡ item_in items i
  pub old_var : (i : ℕ) → i < from → var_at order' i ≡ var_at order i
  pub score : (i : ℕ) → from ≤ i → i < length items → (item_in items' i).score ≡ 0
  pub rank : (i : ℕ) → from ≤ i → i < length items
      → (item_in items' i).rank ≡ entry_rank at_end (i + 1)
  pub place : (i : ℕ) → from ≤ i → i < length items → (item_in items' i).place ≡ i
  pub var : (i : ℕ) → from ≤ i → i < length items → var_at order' i ≡ i + 1
