-- What a refuted part is.
use Rattle.std.specs.Prelude.{◌≡◌, ℕ, ◌↔◌, ◌⊎◌, List, [], map, length, Contains, Option}
use Rattle.sat_base.specs.Lit.{opposite, IsTautology}
use Rattle.sat_base.specs.declared.origins.Ref.{Ref}
use Rattle.trace_core.specs.Known.{Known, clause_of}
use Rattle.trace_core.specs.Propagation.{StandsInOneOf}
use Rattle.trace_core.specs.Trace.{IsOkStep}
use Rattle.trace_core.specs.declared.derivation.Step.{Step}
use Rattle.trail_core.specs.Trail.{Entry}
use Rattle.analyze.specs.Graph.{IsDecision}

-- the literal and some of the decisions
pub record IsPart (entries : List Entry) (lit : ℕ) (part : List ℕ) : Type 0 where
  pub stands : Contains part lit
  pub others : (other : ℕ) → Contains part other → (other ≡ lit) ⊎ IsDecision entries other

-- the clause of the part's negated literals
abbrev pub IsNegationOf : List ℕ → List ℕ → Type 0
IsNegationOf part clause = (lit : ℕ) → Contains clause lit ↔ Contains part (opposite lit)

-- Over the table the step is ok with exact tag, and where it has hints, each literal of its clause
-- stands in a clause that a hint names.
pub record IsRefutedBy (table : Ref → Option Known) (step : Step) : Type 0 where
  pub ok : IsOkStep table step
  pub covered : (IsTautology step.clause × (step.hints ≡ []))
      ⊎ ((lit : ℕ) → Contains step.clause lit
      → StandsInOneOf (map (λ hint. clause_of (table hint)) step.hints) lit)

-- the two literals of a variable as the part, and the tautology of them, which needs no hint
pub record IsExcludedOf (lit : ℕ) (part : List ℕ) (step : Step) : Type 0 where
  pub members : (other : ℕ) → Contains part other ↔ ((other ≡ lit) ⊎ (other ≡ opposite lit))
  pub same : step.clause ≡ part
  pub two : length step.clause ≡ 2
  pub no_hints : step.hints ≡ []
  pub no_tag : step.tag ≡ 0
