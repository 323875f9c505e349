-- A source in memory.
use Rattle.std.specs.Prelude.{List, [], ◌∷◌, ℕ, Bool, ◌||◌, length, drop, min, max}
use Rattle.run_io.specs.Bytes.{is_end_at}
use Rattle.run_io.specs.Script.{ScriptState, after_answer, after_fault}

-- the bytes still to come, the sizes of the next reads, the planned faults, and whether a read has
-- found the end
pub record SourceState : Type 0 where
  pub left : List ℕ
  pub cuts : List ℕ
  pub script : ScriptState
  pub ended : Bool

-- The most that a read into this much room gives: what the next cut says, where 0 counts as 1, and
-- what fits.
abbrev pub most_by_cut : List ℕ → ℕ → ℕ
most_by_cut [] room = room
most_by_cut (cut ∷ cuts) room = min (max cut 1) room

-- how many bytes a read into this much room gives
abbrev pub read_count : SourceState → ℕ → ℕ
read_count source room = min (most_by_cut source.cuts room) (length source.left)

-- after a read into this much room that gave so many bytes
abbrev pub after_read : SourceState → ℕ → ℕ → SourceState
after_read source room count = record {
  left = drop count source.left;
  cuts = drop 1 source.cuts;
  script = after_answer source.script;
  ended = source.ended || is_end_at count room;
}

-- after a start
abbrev pub after_start : SourceState → SourceState
after_start source = record source { script = after_answer source.script }

-- after a call that failed
abbrev pub after_source_fault : SourceState → SourceState
after_source_fault source = record source { script = after_fault source.script }
