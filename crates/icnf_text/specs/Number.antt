-- Tokens of a statement.
use Rattle.std.specs.Prelude.{ℕ, ◌+◌, ◌*◌, nat_lt, nat_le, ◌&&◌, Bool, if◌then◌else◌, List, take}
use Rattle.std.specs.Prelude.{drop, codes, slice_index}
use Rattle.std.specs.Str.{all_ascii_digits, bytes_eq}
use Rattle.std.specs.Str.Parse.{digits_value}
use Rattle.sat_base.specs.Limits.{greatest_variable}

-- the token that ends a statement
abbrev pub is_zero : List ℕ → Bool
is_zero bytes = bytes_eq bytes (codes "0")

-- the token that begins a cube
abbrev pub is_mark : List ℕ → Bool
is_mark bytes = bytes_eq bytes (codes "a")

abbrev pub is_minus : List ℕ → Bool
is_minus bytes = bytes_eq (take 1 bytes) (codes "-")

-- what stands behind the minus sign, if there is one
abbrev pub digits_of : List ℕ → List ℕ
digits_of bytes = if is_minus bytes then drop 1 bytes else bytes

-- an optional minus sign, a digit 1 to 9 and any number of digits
abbrev pub is_literal : List ℕ → Bool
is_literal bytes = all_ascii_digits (digits_of bytes) && nat_lt 48 (slice_index (digits_of bytes) 0)

-- the variable of a literal token, however large
abbrev pub variable_of : List ℕ → ℕ
variable_of bytes = digits_value 10 (digits_of bytes)

-- the code of a literal token
abbrev pub code_of : List ℕ → ℕ
code_of bytes = 2 * variable_of bytes + (if is_minus bytes then 1 else 0)

-- a literal's variable is at most the greatest one
abbrev pub is_variable : ℕ → Bool
is_variable variable = nat_le variable greatest_variable
