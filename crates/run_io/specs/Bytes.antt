-- The bytes of a source or a sink, where the object tells them.
use Rattle.std.specs.Prelude.{◌≡◌, List, [], ◌++◌, ℕ, Option, Some, None, Bool, false, Result, Ok}
use Rattle.std.specs.Prelude.{Err, nat_lt, nat_eq, ◌&&◌, IfSome}

-- these bytes first, and then the rest
abbrev pub followed_by : List ℕ → Option (List ℕ) → Option (List ℕ)
followed_by bytes None = None
followed_by bytes (Some rest) = Some (bytes ++ rest)

-- what was taken so far, and then these bytes
abbrev pub appended : Option (List ℕ) → List ℕ → Option (List ℕ)
appended None bytes = None
appended (Some taken) bytes = Some (taken ++ bytes)

-- nothing is left
abbrev pub IsEmptyWhereTold : Option (List ℕ) → Type 0
IsEmptyWhereTold left = IfSome left (λ bytes. bytes ≡ [])

-- a read that gave so many bytes into this much room has found the end
abbrev pub is_end_at : ℕ → ℕ → Bool
is_end_at count room = nat_eq count 0 && nat_lt 0 room

-- a read into this much room has answered `Ok(0)` although there was room
abbrev pub is_end : {E : Type 0} → Result ℕ E → ℕ → Bool
is_end (Ok count) room = is_end_at count room
is_end (Err fault) room = false
