-- Ok steps and traces.
use Rattle.std.specs.Prelude.{◌≡◌, ℕ, ◌↔◌, max, Option, IsSome, List, [], ◌∷◌, ◌++◌, map, All}
use Rattle.std.specs.Prelude.{Contains}
use Rattle.sat_base.specs.Lit.{opposite}
use Rattle.sat_base.specs.declared.origins.Ref.{Ref}
use Rattle.trace_core.specs.Known.{Known, known, clause_of, tag_of}
use Rattle.trace_core.specs.Propagation.{IsProved}
use Rattle.trace_core.specs.declared.derivation.Step.{Step}

-- the greatest of the numbers, 0 if there is none
abbrev pub greatest : List ℕ → ℕ
greatest [] = 0
greatest (number ∷ numbers) = max number (greatest numbers)

-- A step is ok over a table of known clauses where each of its hints names one, these prove its
-- clause, and its tag is exact: the greatest tag among them, 0 without hints.
pub record IsOkStep (table : Ref → Option Known) (step : Step) : Type 0 where
  pub all_known : All (λ hint. IsSome (table hint)) step.hints
  pub proved : IsProved (map (λ hint. clause_of (table hint)) step.hints) step.clause
  pub exact_tag : step.tag ≡ greatest (map (λ hint. tag_of (table hint)) step.hints)

-- what a step adds to the known clauses
abbrev pub known_of : Step → Known
known_of step = record { clause = step.clause; tag = step.tag }

-- Each step is ok over the inputs, the packets, the own steps so far, and the steps before it.
abbrev pub AreOkSteps : List Known → List (List Known) → List Known → List Step → Type 0
AreOkSteps inputs packets own [] = Unit {0}
AreOkSteps inputs packets own (step ∷ steps) =
    IsOkStep (known inputs packets own) step
    × AreOkSteps inputs packets (own ++ known_of step ∷ []) steps

-- Each packet's steps are ok over the inputs, the packets before it, and its own earlier steps.
abbrev pub AreOkPackets : List Known → List (List Known) → List (List Step) → Type 0
AreOkPackets inputs before [] = Unit {0}
AreOkPackets inputs before (packet ∷ packets) =
    AreOkSteps inputs before [] packet
    × AreOkPackets inputs (before ++ map known_of packet ∷ []) packets

-- A trace: the evidence that the inputs entail the clause of a part's negated literals. No hint
-- names a shared packet.
pub record IsTrace (inputs : List Known) (part : List ℕ) (steps : List Step) : Type 0 where
  pub front : List Step
  pub last : Step
  pub ends : steps ≡ front ++ last ∷ []
  pub ok : AreOkSteps inputs [] [] steps
  pub refutes : (lit : ℕ) → Contains last.clause lit ↔ Contains part (opposite lit)
