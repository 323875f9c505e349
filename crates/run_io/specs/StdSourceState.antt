-- A source over a file or standard input.
use Rattle.std.specs.Prelude.{◌&&◌, ℕ, Bool, true, false, not, List, Option, Some, None}
use Rattle.run_io.specs.declared.std_source.Opened.{Opened}
use Rattle.run_io.specs.declared.std_source.Opened.TheVariants as opened

-- whether its input is open, whether that is a file, the bytes that the open input will give where
-- the system's object tells them, the count of its faults, and whether a read has found the end
pub record StdSourceState : Type 0 where
  pub is_open : Bool
  pub is_file : Bool
  pub remaining : Option (List ℕ)
  pub faults : ℕ
  pub ended : Bool

-- Whether what is open, and a file or not, may be the input of this name: a file where there is a
-- name, and standard input where there is none. Nobody knows which file the system opened.
abbrev pub may_be : Bool → Bool → Option (List ℕ) → Bool
may_be is_open is_file None = is_open && not is_file
may_be is_open is_file (Some name) = is_open && is_file

-- whether what is open is a file
abbrev pub is_file_of : {F I : Type 0} → Option (Opened F I) → Bool
is_file_of (Some (opened.File file)) = true
is_file_of _ = false

module _ {F I : Type 0} (of_file : F → Option (List ℕ)) (of_reader : I → Option (List ℕ)) where
  -- the bytes that what is open will give, where it tells them
  abbrev pub remaining_of : Option (Opened F I) → Option (List ℕ)
  remaining_of None = None
  remaining_of (Some (opened.File file)) = of_file file
  remaining_of (Some (opened.Input reader)) = of_reader reader
