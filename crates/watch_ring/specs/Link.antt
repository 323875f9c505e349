-- Links of four bytes, and sides as pairs.
use Rattle.std.specs.Prelude.{◌≡◌, ◌≢◌, ℕ, ◌+◌, ◌*◌, ◌/◌, ◌%◌, ◌==◌, if◌then◌else◌, true, false}
use Rattle.std.specs.Prelude.{Option, None, Some, ◌⊎◌}
use Rattle.std.proofs.Common.{◌∙◌, sym, ap, inl, inr}
use Rattle.std.proofs.lemmas.Bool.Decides.{eqb_tells}

-- the clause and the side, 0 or 1, of a number
abbrev pub pair_of : ℕ → ℕ × ℕ
pair_of number = (number / 2, number % 2)

-- the number of a side of a clause
abbrev pub number_of : ℕ × ℕ → ℕ
number_of pair = 2 * pair.0 + pair.1

-- the greatest number of four bytes stands for no side
abbrev pub link_of : ℕ → Option ℕ
link_of raw = if raw == 4294967295 then None else Some raw

abbrev pub raw_of : Option ℕ → ℕ
raw_of None = 4294967295
raw_of (Some number) = number

-- a link is the number that its side gives back
pub raw_of-link_of : (raw : ℕ) → raw_of (link_of raw) ≡ raw
raw_of-link_of raw = by (eqb_tells raw 4294967295)
  where
    by : (((raw == 4294967295) ≡ true) × (raw ≡ 4294967295))
        ⊎ (((raw == 4294967295) ≡ false) × (raw ≢ 4294967295))
        → raw_of (link_of raw) ≡ raw
    by (inl e) = ap (λ b. raw_of (if b then None else Some raw)) e.0 ∙ sym e.1
    by (inr e) = ap (λ b. raw_of (if b then None else Some raw)) e.0
