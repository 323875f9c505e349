-- Names of clauses in one number of four bytes.
use Rattle.std.specs.Prelude.{ℕ, ◌-◌, ◌/◌, ◌%◌, ◌<◌, ◌≤◌, nat_lt, if◌then◌else◌, List, length}
use Rattle.std.specs.Prelude.{slice_index_or}
use Rattle.sat_base.specs.declared.origins.Ref.{Ref}
use Rattle.sat_base.specs.declared.origins.Ref.TheVariants as name

-- the name that a number stands for, where these are the listed names
abbrev pub ref_of : List Ref → ℕ → Ref
ref_of listed code =
    if nat_lt code 1073741824 then name.Input code
    else if nat_lt code 2147483648 then name.Own (code - 1073741824)
    else if nat_lt code 3221225472
    then name.Shared ((code - 2147483648) / 256) ((code - 2147483648) % 256)
    else slice_index_or listed (code - 3221225472) (name.Own 0)

-- a number that says that its name is listed says where
abbrev pub IsAmong : List Ref → ℕ → Type 0
IsAmong listed code = 3221225472 ≤ code → code - 3221225472 < length listed
