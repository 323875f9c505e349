use Rattle.std.proofs.Common.{◌≡◌, ℕ, ◌++◌, ◌-◌, length, None}
use Rattle.std.specs.Prelude.{replicate}
use Rattle.session.proofs.places.push_places.Given as goal

abbrev pub invariant-loop-packets : goal.invariant-loop-packets
invariant-loop-packets l = (count : ℕ) × (l.packets.items ≡ l.fn.packets.items
    ++ replicate count None)

abbrev pub decreases-loop-packets : goal.decreases-loop-packets
decreases-loop-packets l = l.places - length l.packets.items
