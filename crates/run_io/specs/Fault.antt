-- Faults of the outside, and their count.
use Rattle.std.specs.Prelude.{◌≡◌, ◌<◌, ◌≤◌, ◌+◌, ◌⊎◌, ℕ, Result, OnOk, OnErr, min}

-- the last number of a count, at which it stands still
abbrev pub last_count : ℕ
last_count = 18446744073709551615

-- a count that rises by one
abbrev pub one_more : ℕ → ℕ
one_more count = min (count + 1) last_count

-- A call fails only where its object's count of faults rose in the call or stands at its last
-- number, and a call that succeeds leaves the count.
pub record HasCause {T E : Type 0} (before now : ℕ) (result : Result T E) : Type 0 where
  pub later : before ≤ now
  pub ok : OnOk result (now ≡ before)
  pub failed : OnErr result ((before < now) ⊎ (now ≡ last_count))
