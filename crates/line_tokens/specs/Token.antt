-- Tokens of a line: numbers and literals in one exact spelling.
use Rattle.std.specs.Prelude.{ℕ, ◌+◌, ◌*◌, nat_lt, nat_le, ◌==◌, ◌&&◌, ◌||◌, if◌then◌else◌, Bool}
use Rattle.std.specs.Prelude.{Option, Some, None, List, [], ◌∷◌, ◌++◌, take, drop, codes, decimal}
use Rattle.std.specs.Prelude.{slice_index, option_and_then}
use Rattle.std.specs.Option.{option_map}
use Rattle.std.specs.List.{slice_split}
use Rattle.std.specs.Str.{all_ascii_digits, bytes_eq}
use Rattle.std.specs.Str.Parse.{digits_value}
use Rattle.sat_base.specs.Limits.{greatest_variable}
use Rattle.sat_base.specs.Lit.{is_negative, variable}

-- the tokens of a line: one space stands between two of them
abbrev pub tokens_of : List ℕ → List (List ℕ)
tokens_of line = slice_split (λ byte. byte == 32) line

-- what stands before and between the line feeds of a text, and behind the last one
abbrev pub lines_of : List ℕ → List (List ℕ)
lines_of text = slice_split (λ byte. byte == 10) text

-- decimal digits without a leading zero, of any number
abbrev pub token_is_decimal : List ℕ → Bool
token_is_decimal token =
    all_ascii_digits token && (bytes_eq token (48 ∷ []) || nat_lt 48 (slice_index token 0))

-- the number from 1 to 2^64 - 1 that digits write, the first one not 0
unfoldable pub number_of : List ℕ → Option ℕ
number_of digits =
    if all_ascii_digits digits && nat_lt 48 (slice_index digits 0) && nat_le
    (digits_value 10 digits) 18446744073709551615
    then Some (digits_value 10 digits)
    else None

-- the variable that digits write, where it is at most the greatest variable
unfoldable pub variable_of : List ℕ → Option ℕ
variable_of digits = option_and_then
    (λ number. if nat_le number greatest_variable then Some number else None) (number_of digits)

-- the code of the literal that a variable, or `-` and a variable, writes
unfoldable pub lit_of : List ℕ → Option ℕ
lit_of token =
    if bytes_eq (take 1 token) (45 ∷ [])
    then option_map (λ variable. 2 * variable + 1) (variable_of (drop 1 token))
    else option_map (λ variable. 2 * variable) (variable_of token)

-- what each token before the first `0` is judged to be, and the tokens behind that one, of which
-- there is one at least
pub record Front (X : Type 0) : Type 0 where
  pub items : List X
  pub rest : List (List ℕ)

abbrev pub until_zero : {X : Type 0} → (List ℕ → Option X) → List (List ℕ) → Option (Front X)
until_zero judge [] = None
until_zero judge (token ∷ []) = None
until_zero judge (token ∷ next ∷ tokens) =
    if bytes_eq token (48 ∷ [])
    then Some (record { items = []; rest = next ∷ tokens })
    else option_and_then (λ item. option_map (λ front. record {
      items = item
          ∷ front.items;
      rest = front.rest;
    }) (until_zero judge (next ∷ tokens))) (judge token)

-- what each token but the last is judged to be, where the last token is `0`
abbrev pub all_then_zero : {X : Type 0} → (List ℕ → Option X) → List (List ℕ) → Option (List X)
all_then_zero judge [] = None
all_then_zero judge (token ∷ []) = if bytes_eq token (48 ∷ []) then Some [] else None
all_then_zero judge (token ∷ next ∷ tokens) =
    option_and_then
    (λ item. option_map (λ items. item ∷ items) (all_then_zero judge (next ∷ tokens))) (judge token)

-- a literal as DIMACS writes it, and a space
abbrev pub lit_text : ℕ → List ℕ
lit_text lit =
    if is_negative lit then codes "-" ++ decimal (variable lit) ++ codes " "
    else decimal (variable lit) ++ codes " "
