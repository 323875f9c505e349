use Rattle.std.proofs.Common.{◌≡◌, ◌+◌, ℕ, ◌≤◌, None, subst}
use Rattle.std.specs.Prelude.{IsSome}
use Rattle.std.specs.Arc.{arc_value}
use Rattle.session.specs.Solver.{packet_at}
use Rattle.session.specs.Places.{Packets, steps_by_place}
use Rattle.session.proofs.KnownPlaces.{known_first, next_unknown}
use Rattle.session.proofs.places.Places.front.Goals as goal

pub returns-clause-known : goal.returns-clause-known
returns-clause-known c =
    subst (λ (packets : Packets). (place : ℕ) → 1 ≤ place → place ≤ c.self.inside.front
    → IsSome (packet_at (steps_by_place packets) place)) c.self.view_is
    (known_first arc_value c.self.inside.packets.items c.self.inside.front c.self.invariant.there)

pub returns-clause-next : goal.returns-clause-next
returns-clause-next c =
    subst (λ (packets : Packets). packet_at (steps_by_place packets) (c.self.inside.front + 1)
    ≡ None) c.self.view_is
    (next_unknown arc_value c.self.inside.packets.items c.self.inside.front c.self.invariant.behind)
