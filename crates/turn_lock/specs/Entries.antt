-- Lists of entries, and whose they are.
use Rattle.std.specs.Prelude.{◌≡◌, ℕ, ◌==◌, List, ◌++◌, All, filter}

-- a list begins with what was seen
abbrev pub StartsWith : {E : Type 0} → List E → List E → Type 0
StartsWith {E} log seen = (more : List E) × (log ≡ seen ++ more)

-- the entries of the caller with this number, in order
abbrev pub entries_of : {E : Type 0} → (E → ℕ) → ℕ → List E → List E
entries_of caller number log = filter (λ e. caller e == number) log

-- a list goes on from what was seen by entries of this one caller alone
abbrev pub AddsOwn : {E : Type 0} → (E → ℕ) → ℕ → List E → List E → Type 0
AddsOwn {E} caller number seen log = (added : List E) × (log ≡ seen ++ added)
    × All (λ e. caller e ≡ number) added
