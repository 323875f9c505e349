-- The worked job of the tests, the step that its clauses prove, and jobs without clauses.
use Rattle.std.specs.Prelude.{◌≡◌, List, [], ◌∷◌, All}
use Rattle.sat_base.specs.declared.origins.Ref.TheVariants.{Input}
use Rattle.trace_core.specs.declared.derivation.Step.{Step}
use Rattle.entry_core.specs.declared.entries.Entry.{Entry}
use Rattle.entry_core.specs.declared.segments.Segment.{Segment}
use Rattle.entry_core.specs.Journal.{segments}

-- the clauses 1 2 and -1, and the empty cube
abbrev pub worked_job : Segment
worked_job = record { clauses = (2 ∷ 4 ∷ []) ∷ (3 ∷ []) ∷ []; cube = [] }

-- the clause 2 from both
abbrev pub worked_step : Step
worked_step = record { clause = 4 ∷ []; hints = Input 1 ∷ Input 2 ∷ []; tag = 1 }

-- no clauses, and the empty cube
abbrev pub empty_job : Segment
empty_job = record { clauses = []; cube = [] }

-- each job is without clauses
abbrev pub AreEmpty : List Entry → Type 0
AreEmpty journal = All (λ segment. segment ≡ empty_job) (segments journal)
