-- The known places of the shared database.
use Rattle.std.specs.Prelude.{◌≡◌, ℕ, ◌<◌, List, map, get_or, Option, None, IsSome, option_map}
use Rattle.std.specs.Arc.{arc_value}
use Rattle.std.specs.declared.sync.Arc.{Arc}
use Rattle.std.specs.declared.alloc.Global.{Global}
use Rattle.trace_core.specs.declared.derivation.Packet.{Packet}
use Rattle.trace_core.specs.declared.derivation.Step.{Step}

-- the packet of each place that is known; item n - 1 is that of place n
abbrev pub Packets : Type 0
Packets = List (Option (Arc Packet Global))

-- of each packet its steps
abbrev pub steps_by_place : Packets → List (Option (List Step))
steps_by_place packets = map (option_map arc_value) packets

-- each of so many first items is there
abbrev pub AreThere : {X : Type 0} → List (Option X) → ℕ → Type 0
AreThere items front = (index : ℕ) → index < front → IsSome (get_or items index None)

-- so many first items are there, and the one behind them isn't
pub record IsFrontOf {X : Type 0} (items : List (Option X)) (front : ℕ) : Type 0 where
  pub there : AreThere items front
  pub behind : get_or items front None ≡ None
