-- Objects in memory whose calls fail as it was planned.
use Rattle.std.specs.Prelude.{List, ℕ, Contains}
use Rattle.run_io.specs.Fault.{one_more}

-- the numbers of the calls that fail, how many calls there were, and how many of them failed
pub record ScriptState : Type 0 where
  pub fails : List ℕ
  pub calls : ℕ
  pub faults : ℕ

abbrev pub new_script : List ℕ → ScriptState
new_script fails = record { fails = fails; calls = 0; faults = 0 }

-- The next call is one that fails. Calls are numbered from 1.
abbrev pub NextFails : ScriptState → Type 0
NextFails script = Contains script.fails (one_more script.calls)

-- after a call that was answered
abbrev pub after_answer : ScriptState → ScriptState
after_answer script = record script { calls = one_more script.calls }

-- after a call that failed
abbrev pub after_fault : ScriptState → ScriptState
after_fault script = record script {
  calls = one_more script.calls;
  faults = one_more script.faults;
}
