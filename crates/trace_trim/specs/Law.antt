-- What derivations that are ok are worth.
use Rattle.std.specs.Prelude.{◌≡◌, ℕ, ◌↔◌, Some, List, [], map, Contains}
use Rattle.sat_base.specs.Lit.{opposite}
use Rattle.trace_core.specs.Known.{Known, item_at, AgreeUpTo}
use Rattle.trace_core.specs.Trace.{AreOkSteps, AreOkPackets, known_of, IsTrace}
use Rattle.trace_core.specs.declared.derivation.Step.{Step}

-- Where packets and own steps are ok over all inputs, each own step has a trace: over any inputs
-- among which those up to the step's tag stand at the same places, there are steps that refute each
-- part whose negation is the step's clause.
abbrev pub OkStepsHaveTraces : Type 0
OkStepsHaveTraces = (all inputs : List Known) (packets : List (List Step)) (own : List Step)
    (number : ℕ) (step : Step) (part : List ℕ)
    → AreOkPackets all [] packets
    → AreOkSteps all (map (λ packet. map known_of packet) packets) [] own
    → item_at own number ≡ Some step → AgreeUpTo step.tag all inputs
    → ((lit : ℕ) → Contains step.clause lit ↔ Contains part (opposite lit))
    → (trace : List Step) × IsTrace inputs part trace
