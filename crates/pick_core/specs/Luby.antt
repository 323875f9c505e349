-- The sequence of Luby, Sinclair and Zuckerman, with its own definition.
use Rattle.std.specs.Prelude.{◌≡◌, ℕ, ◌+◌, ◌-◌, ◌*◌, ◌^◌, ◌<◌, ◌≤◌}

-- At place 2^(k+1) - 1 stands 2^k; at any other place i from 2^k on, below that one, stands what
-- stands at i - 2^k + 1.
pub data IsLuby : ℕ → ℕ → Type 0 where
  Whole : (k i : ℕ) → i + 1 ≡ 2 * 2 ^ k → IsLuby i (2 ^ k)
  Part : (k i item : ℕ) → 2 ^ k ≤ i → i + 1 < 2 * 2 ^ k → IsLuby (i - 2 ^ k + 1) item
      → IsLuby i item
