-- Steps by name, and which steps a step rests on.
use Rattle.std.specs.Prelude.{◌≡◌, ◌<◌, ◌⊎◌, Option, None, Some, IsSome, List, option_and_then}
use Rattle.sat_base.specs.declared.origins.Ref.{Ref}
use Rattle.sat_base.specs.declared.origins.Ref.TheVariants.{Input, Shared, Own}
use Rattle.trace_core.specs.Known.{item_at}
use Rattle.trace_core.specs.declared.derivation.Step.{Step}
use Rattle.trace_trim.specs.Reached.{LeadTo}

-- the step that a name names: a step of a packet, or an own step
abbrev pub step_named : List (List Step) → List Step → Ref → Option Step
step_named packets own (Input number) = None
step_named packets own (Shared packet step) =
    option_and_then (λ steps. item_at steps step) (item_at packets packet)
step_named packets own (Own number) = item_at own number

-- The name of the step that a hint names, none where it names an input. In a packet `Own(i)` is the
-- packet's own i-th step.
abbrev pub cited : Ref → Ref → Option Ref
cited user (Input number) = None
cited user (Shared packet step) = Some (Shared packet step)
cited (Input n) (Own number) = Some (Own number)
cited (Shared packet step) (Own number) = Some (Shared packet number)
cited (Own n) (Own number) = Some (Own number)

-- one of these hints, of the step of that name, names the other step
abbrev pub AreCiting : Ref → List Ref → Ref → Type 0
AreCiting user hints other = LeadTo (cited user) hints other

-- the step of the first name has a hint that names the other step
abbrev pub Cites : List (List Step) → List Step → Ref → Ref → Type 0
Cites packets own user other =
    (step : Step) × (step_named packets own user ≡ Some step) × AreCiting user step.hints other

-- The order of names: inputs, the steps of the packets one packet after the other, and own steps.
abbrev pub IsBefore : Ref → Ref → Type 0
IsBefore (Input m) (Input n) = m < n
IsBefore (Input m) (Shared packet step) = Unit {0}
IsBefore (Input m) (Own n) = Unit {0}
IsBefore (Shared packet step) (Input n) = ⊥
IsBefore (Shared packet step) (Shared later next) =
    (packet < later) ⊎ ((packet ≡ later) × (step < next))
IsBefore (Shared packet step) (Own n) = Unit {0}
IsBefore (Own m) (Input n) = ⊥
IsBefore (Own m) (Shared packet step) = ⊥
IsBefore (Own m) (Own n) = m < n

-- Hints look back: each step that a hint names is there, and stands before the step with the hint.
abbrev pub CiteEarlierSteps : List (List Step) → List Step → Type 0
CiteEarlierSteps packets own =
    (user other : Ref) → Cites packets own user other
    → IsSome (step_named packets own other) × IsBefore other user
