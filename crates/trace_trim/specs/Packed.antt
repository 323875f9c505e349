-- The packet of an own step: that step and the own steps that it rests on, as far as the shared
-- database doesn't have them.
use Rattle.std.specs.Prelude.{◌≡◌, ℕ, ◌<◌, ◌≤◌, Option, None, Some, IsSome, is_none, if◌then◌else◌}
use Rattle.std.specs.Prelude.{MatchOption, List, [], map, length, Contains}
use Rattle.std.specs.Option.{option_flatten}
use Rattle.std.specs.List.{AllZip}
use Rattle.sat_base.specs.declared.origins.Ref.{Ref}
use Rattle.sat_base.specs.declared.origins.Ref.TheVariants.{Input, Shared, Own}
use Rattle.trace_core.specs.Known.{Known, known, item_at, tag_of}
use Rattle.trace_core.specs.Trace.{AreOkSteps, known_of}
use Rattle.trace_core.specs.declared.derivation.Step.{Step}
use Rattle.trace_trim.specs.Reached.{LeadTo, AreReached}
use Rattle.trace_trim.specs.Trimmed.{IsStepWithHints}

-- the name of an own step in the shared database, none where it isn't there
abbrev pub name_of : List (Option Ref) → ℕ → Option Ref
name_of names number = option_flatten (item_at names number)

-- the own step that a hint names, where that step has no name in the shared database
abbrev pub unnamed : List (Option Ref) → Ref → Option ℕ
unnamed names (Input number) = None
unnamed names (Shared packet step) = None
unnamed names (Own number) = if is_none (name_of names number) then Some number else None

-- own step `user` has a hint that names the other own step, which has no name in the shared
-- database
abbrev pub RestsOn : List Step → List (Option Ref) → ℕ → ℕ → Type 0
RestsOn own names user other =
    (step : Step) × (item_at own user ≡ Some step) × LeadTo (unnamed names) step.hints other

-- Hints that name own steps look back.
abbrev pub CiteEarlierOwn : List Step → Type 0
CiteEarlierOwn own =
    (user other : ℕ) (step : Step) → item_at own user ≡ Some step → Contains step.hints (Own other)
    → (1 ≤ other) × (other < user)

-- The numbers of exactly those own steps, each once, ascending: the last one, and what is reached
-- from it over steps without a name.
abbrev pub AreNumbersPacked : List Step → List (Option Ref) → ℕ → List ℕ → Type 0
AreNumbersPacked own names last numbers = AreReached (RestsOn own names) (λ m n. m < n) last numbers

-- A hint in the packet: inputs and shared steps stay, an own step is named by its name in the
-- shared database, and without one by its place among the numbers.
abbrev pub IsPackedHint : List (Option Ref) → List ℕ → Ref → Ref → Type 0
IsPackedHint names numbers (Input number) packed = packed ≡ Input number
IsPackedHint names numbers (Shared packet step) packed = packed ≡ Shared packet step
IsPackedHint names numbers (Own number) packed =
    MatchOption (name_of names number)
    ((place : ℕ) × (item_at numbers place ≡ Some number) × (packed ≡ Own place))
    (λ name. packed ≡ name)

-- the own step of that number, with the hints of the packet
abbrev pub IsPackedStep : List Step → List (Option Ref) → List ℕ → ℕ → Step → Type 0
IsPackedStep own names numbers number packed =
    (step : Step) × (item_at own number ≡ Some step)
    × IsStepWithHints (IsPackedHint names numbers) step packed

-- exactly the last step and what it rests on without a name, each once, in their order, with the
-- hints of the packet
pub record IsPack (own : List Step) (names : List (Option Ref)) (last : ℕ)
    (packet : List Step) : Type 0 where
  pub numbers : List ℕ
  pub reached : AreNumbersPacked own names last numbers
  pub packed : AllZip (IsPackedStep own names numbers) numbers packet

-- Each name of an own step is that of a step of a shared packet, which has its clause and its tag.
abbrev pub AreNamesRight : List Known → List (List Known) → List Step → List (Option Ref) → Type 0
AreNamesRight inputs packets own names =
    (number : ℕ) (name : Ref) → IsSome (item_at own number) → name_of names number ≡ Some name
    → (packet step : ℕ) × (name ≡ Shared packet step)
    × (known inputs packets [] name ≡ item_at (map known_of own) number)

-- Over inputs and packets for which the own steps are ok and their names are right, the packet's
-- steps are ok.
abbrev pub IsOkWhereOwnAreOk : List Step → List (Option Ref) → List Step → Type 0
IsOkWhereOwnAreOk own names packet =
    (inputs : List Known) (packets : List (List Known)) → AreOkSteps inputs packets [] own
    → AreNamesRight inputs packets own names → AreOkSteps inputs packets [] packet

-- the clause and the tag of the last step of a packet
abbrev pub ends_in : List Step → Option Known
ends_in packet = item_at (map known_of packet) (length packet)

-- Over inputs and packets for which the own steps are ok, no tag in the packet is above that of its
-- last step.
abbrev pub HasGreatestTagLast : List Step → List Step → Type 0
HasGreatestTagLast own packet =
    (inputs : List Known) (packets : List (List Known)) → AreOkSteps inputs packets [] own
    → (step : Step) → Contains packet step → step.tag ≤ tag_of (ends_in packet)

-- each step of the packet has the clause and the tag of an own step
abbrev pub AreOfOwn : List Step → List Step → Type 0
AreOfOwn own packet =
    (step : Step) → Contains packet step → Contains (map known_of own) (known_of step)
