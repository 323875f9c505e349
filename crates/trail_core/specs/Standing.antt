-- What is kept of an assigned variable.
use Rattle.std.specs.Prelude.{◌≡◌, ℕ, ◌/◌, ◌%◌, ◌==◌, if◌then◌else◌, List, Option, None, Some}
use Rattle.trail_core.specs.declared.standing.Standing.{Standing}
use Rattle.trail_core.specs.Trail.{Entry, StandsAt, entry_at}

abbrev pub place_of : Standing → ℕ
place_of standing = standing.mark / 2

abbrev pub reason_of : Standing → Option ℕ
reason_of standing = if standing.mark % 2 == 1 then Some standing.reason else None

-- it tells the place, the level and the reason of the entry that assigns the variable
pub record IsStandingOf (entries : List Entry) (var : ℕ) (standing : Standing) : Type 0 where
  pub stands : StandsAt entries var (place_of standing)
  pub level : (entry_at entries (place_of standing)).level ≡ standing.level
  pub reason : (entry_at entries (place_of standing)).reason ≡ reason_of standing
