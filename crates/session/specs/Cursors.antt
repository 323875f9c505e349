-- How far the walk over the cube has come, at each level.
use Rattle.std.specs.Prelude.{ℕ, ◌<◌, List, take, All, Contains, slice_index_or}
use Rattle.trail_core.specs.Trail.{TrailView, lits_of, up_to}
use Rattle.session.specs.declared.search.Cursor.{Cursor}

-- a cursor passes true literals of the cube
abbrev pub PassesTrue : List ℕ → List ℕ → Cursor → Type 0
PassesTrue cube trues cursor = All (Contains trues) (take cursor.literals cube)

-- the cursor with which the level above this one was opened
abbrev pub cursor_at : List Cursor → ℕ → Cursor
cursor_at cursors level = slice_index_or cursors level (record { literals = 0 })

-- The present cursor passes what it may under the trail, and the one with which a level was opened
-- passed it under the levels below.
pub record AreCursors (Passes : List ℕ → Cursor → Type 0) (trail : TrailView) (now : Cursor)
    (cursors : List Cursor) : Type 0 where
  pub present : Passes (lits_of trail.entries) now
  pub below : (level : ℕ) → level < trail.depth
      → Passes (lits_of (up_to level trail.entries)) (cursor_at cursors level)
