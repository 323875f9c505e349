-- A sink in memory.
use Rattle.std.specs.Prelude.{List, ◌++◌, ℕ, ◌⊎◌, ◌<◌, ◌≤◌, ◌-◌, length, min, max}
use Rattle.run_io.specs.Script.{ScriptState, NextFails, after_answer, after_fault}

-- the bytes taken so far, room for how many in all, the most for one write, and the planned faults
pub record SinkState : Type 0 where
  pub taken : List ℕ
  pub room : ℕ
  pub most : ℕ
  pub script : ScriptState

-- A write of this piece fails: by plan, or since there is something to write and no room.
abbrev pub WriteFails : SinkState → List ℕ → Type 0
WriteFails sink piece = NextFails sink.script
    ⊎ ((0 < length piece) × (sink.room ≤ length sink.taken))

-- how many bytes of a piece of this length a write takes; the most for one write counts as 1 where
-- it is 0
abbrev pub write_count : SinkState → ℕ → ℕ
write_count sink size = min (min size (max sink.most 1)) (sink.room - length sink.taken)

-- after a write that took these bytes
abbrev pub after_write : SinkState → List ℕ → SinkState
after_write sink bytes = record sink {
  taken = sink.taken ++ bytes;
  script = after_answer sink.script;
}

-- after a flush
abbrev pub after_flush : SinkState → SinkState
after_flush sink = record sink { script = after_answer sink.script }

-- after a call that failed
abbrev pub after_sink_fault : SinkState → SinkState
after_sink_fault sink = record sink { script = after_fault sink.script }
