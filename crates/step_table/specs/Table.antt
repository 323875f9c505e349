-- Steps by their places.
use Rattle.std.specs.Prelude.{ℕ, List, [], slice_index_or}
use Rattle.trace_core.specs.declared.derivation.Step.{Step}

-- what stands for a step at a place without one
abbrev pub no_step : Step
no_step = record { clause = []; hints = []; tag = 0 }

-- the step at a place, counted from 0
abbrev pub step_at : List Step → ℕ → Step
step_at steps index = slice_index_or steps index no_step
