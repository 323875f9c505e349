-- The numbers that a seed draws, and the literals that they stand for.
use Rattle.std.specs.Prelude.{ℕ, zero, suc, ◌+◌, ◌*◌, ◌/◌, ◌%◌}

-- one step of Knuth's linear congruential generator for MMIX, modulo 2^64
abbrev pub next_state : ℕ → ℕ
next_state state = (state * 6364136223846793005 + 1442695040888963407) % 18446744073709551616

-- the state behind so many draws; it starts as the seed
abbrev pub state_after : ℕ → ℕ → ℕ
state_after seed zero = seed
state_after seed (suc draws) = next_state (state_after seed draws)

-- the number that is drawn with this state behind it: its upper 31 bits
abbrev pub number_of : ℕ → ℕ
number_of state = state / 8589934592

-- the code of the literal that a number stands for: its variable is 1 to 100, and it is negative
-- where the hundreds are odd
abbrev pub lit_of_number : ℕ → ℕ
lit_of_number number = 2 * (1 + number % 100) + number / 100 % 2

-- the literal of one draw, counted from 1
abbrev pub drawn_lit : ℕ → ℕ → ℕ
drawn_lit seed draw = lit_of_number (number_of (state_after seed draw))
