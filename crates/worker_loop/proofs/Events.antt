-- Events that end attempts.
use Rattle.std.proofs.Common.{◌≡◌, ℕ, Some, refl}
use Rattle.entry_core.specs.declared.entries.Event.{Event}
use Rattle.entry_core.specs.declared.entries.Event.TheVariants as event
use Rattle.entry_core.specs.Attempts.{ended_by}
use Rattle.board_core.proofs.Ended.{IsEnd}

-- An event that ends an attempt begins none, and says nothing of jobs, packets and the closing.
pub ends_one : (caller number : ℕ) (happened : Event) → ended_by happened ≡ Some number → IsEnd caller happened number
ends_one caller number (event.Spent n learnt) is = record { begins = refl; ends = is; adds = refl; shares = refl; closes = refl }
ends_one caller number (event.Dropped n) is = record { begins = refl; ends = is; adds = refl; shares = refl; closes = refl }
ends_one caller number (event.Decided n given) is = record { begins = refl; ends = is; adds = refl; shares = refl; closes = refl }
ends_one caller number (event.Starved n) is = record { begins = refl; ends = is; adds = refl; shares = refl; closes = refl }
ends_one caller number (event.Added segment) is = absurd (cc)
ends_one caller number event.Closed is = absurd (cc)
ends_one caller number (event.Cancelled job) is = absurd (cc)
ends_one caller number (event.Began job n) is = absurd (cc)
ends_one caller number (event.Shared packet) is = absurd (cc)
