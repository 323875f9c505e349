-- A trace line: an LRAT addition with the letter `t` in front, in one exact spelling.
use Rattle.std.specs.Prelude.{ℕ, if◌then◌else◌, Option, None, List, [], ◌∷◌, ◌++◌, codes, decimal}
use Rattle.std.specs.Prelude.{option_and_then}
use Rattle.std.specs.Option.{option_map}
use Rattle.std.specs.List.{flat_map}
use Rattle.std.specs.Str.{bytes_eq}
use Rattle.sat_base.specs.Lit.{is_ascending}
use Rattle.line_tokens.specs.Token.{number_of, lit_of, until_zero, all_then_zero, tokens_of}
use Rattle.line_tokens.specs.Token.{lit_text}

-- what a line says: its identifier, the literals of a clause, and hints
pub record Line : Type 0 where
  pub id : ℕ
  pub lits : List ℕ
  pub hints : List ℕ

-- strictly ascending literals and `0`, hints and `0`
unfoldable pub fields_of : ℕ → List (List ℕ) → Option Line
fields_of id tokens =
    option_and_then (λ front. if is_ascending front.items
    then option_map (λ hints. record { id = id; lits = front.items; hints = hints })
    (all_then_zero number_of front.rest)
    else None)
    (until_zero lit_of tokens)

-- the letter `t`, an identifier, and the fields
unfoldable pub line_of_tokens : List (List ℕ) → Option Line
line_of_tokens [] = None
line_of_tokens (letter ∷ []) = None
line_of_tokens (letter ∷ id ∷ tokens) =
    if bytes_eq letter (codes "t")
    then option_and_then (λ number. fields_of number tokens) (number_of id) else None

abbrev pub line_of : List ℕ → Option Line
line_of line = line_of_tokens (tokens_of line)

abbrev pub hint_text : ℕ → List ℕ
hint_text hint = decimal hint ++ codes " "

-- the line, with its line feed
abbrev pub line_text : Line → List ℕ
line_text line =
    codes "t " ++ decimal line.id ++ codes " " ++ flat_map lit_text line.lits ++ codes "0 "
    ++ flat_map hint_text line.hints ++ codes "0\n"
