-- What a hold lends.
use Rattle.std.specs.Borrow.{Lends, MutBor, Fml}
use denote.RattleType.{RattleType}
use Rattle.turn_lock.specs.declared.lock.Held.{Held}
use Rattle.turn_lock.specs.contracts.lock.Held.{the_row}

-- the hold ends with what was last written through the reference
abbrev pub LendsValue : (R : RattleType) → MutBor (Held R.Denot) → MutBor R.Denot → Fml
LendsValue R held r = Lends (the_row R) R held r (λ w. record { value = w })
