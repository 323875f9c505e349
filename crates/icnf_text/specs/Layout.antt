-- Lines, comments and tokens of a text.
use Rattle.std.specs.Prelude.{ℕ, ◌+◌, ◌-◌, ◌==◌, ◌||◌, nat_lt, Bool, false, if◌then◌else◌, List, []}
use Rattle.std.specs.Prelude.{◌∷◌, ◌++◌, map, filter, length, take, slice_index, count_by}
use Rattle.std.specs.List.{slice_split}

-- space, tab and carriage return
abbrev pub is_blank : ℕ → Bool
is_blank byte = byte == 32 || byte == 9 || byte == 13

abbrev pub is_line_feed : ℕ → Bool
is_line_feed byte = byte == 10

-- the lines; the last one is what stands behind the last line feed, maybe nothing
abbrev pub lines_of : List ℕ → List (List ℕ)
lines_of text = slice_split is_line_feed text

abbrev pub is_word : List ℕ → Bool
is_word bytes = nat_lt 0 (length bytes)

-- the longest runs of bytes that are no blanks
abbrev pub words_of : List ℕ → List (List ℕ)
words_of line = filter is_word (slice_split is_blank line)

-- those that a blank ends: what stands behind the last blank isn't among them
abbrev pub ended_words_of : List ℕ → List (List ℕ)
ended_words_of line =
    let pieces = slice_split is_blank line in filter is_word (take (length pieces - 1) pieces)

-- the first byte that is no blank is `c`
abbrev pub begins_with_c : List (List ℕ) → Bool
begins_with_c [] = false
begins_with_c (word ∷ words) = slice_index word 0 == 99

abbrev pub is_comment : List ℕ → Bool
is_comment line = begins_with_c (words_of line)

-- a token and the number of its line
pub record Token : Type 0 where
  pub line : ℕ
  pub bytes : List ℕ

-- the tokens of a line, from its words: a comment has none
abbrev pub tokens_on : ℕ → List ℕ → List (List ℕ) → List Token
tokens_on number line words =
    if is_comment line then [] else map (λ word. record { line = number; bytes = word }) words

-- the tokens of lines, the first of which has this number; the end of the last line ends a token
-- only where the text is ended
abbrev pub tokens_from : Bool → ℕ → List (List ℕ) → List Token
tokens_from ended number [] = []
tokens_from ended number (line ∷ []) =
    tokens_on number line (if ended then words_of line else ended_words_of line)
tokens_from ended number (line ∷ more ∷ lines) =
    tokens_on number line (words_of line) ++ tokens_from ended (number + 1) (more ∷ lines)

-- the tokens of a text that have ended, in order; lines are numbered from 1
abbrev pub tokens_of : List ℕ → Bool → List Token
tokens_of text ended = tokens_from ended 1 (lines_of text)

-- the line on which the byte behind the text would stand
abbrev pub line_behind : List ℕ → ℕ
line_behind text = count_by is_line_feed text + 1

-- the number of the last line: the line feeds, and one more where the text doesn't end with one
abbrev pub last_line : List ℕ → ℕ
last_line text =
    count_by is_line_feed text +
    (if is_line_feed (slice_index text (length text - 1)) then 0 else 1)
