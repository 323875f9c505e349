-- What one line of a block says: the form of each kind of line.
use Rattle.std.specs.Prelude.{ℕ, ◌+◌, ◌==◌, ◌&&◌, not, if◌then◌else◌, Bool, false, true, Option}
use Rattle.std.specs.Prelude.{Some, None, List, [], ◌∷◌, map, codes, option_and_then}
use Rattle.std.specs.Option.{option_map}
use Rattle.std.specs.Str.{bytes_eq}
use Rattle.sat_base.specs.Lit.{is_ascending, is_negative, variable}
use Rattle.line_tokens.specs.Token.{token_is_decimal, number_of, lit_of, all_then_zero, tokens_of}
use Rattle.verdict_text.specs.declared.lines.JobLine.{JobLine}
use Rattle.verdict_text.specs.declared.lines.Status.{Status}
use Rattle.verdict_text.specs.declared.lines.Status.TheVariants as status

-- the word of each status
unfoldable pub status_of : List ℕ → Option Status
status_of word =
    if bytes_eq word (codes "SATISFIABLE") then Some status.Satisfiable
    else if bytes_eq word (codes "UNSATISFIABLE") then Some status.Unsatisfiable
    else if bytes_eq word (codes "UNKNOWN") then Some status.Unknown
    else if bytes_eq word (codes "CANCELLED") then Some status.Cancelled
    else if bytes_eq word (codes "NOMEMORY") then Some status.NoMemory
    else None

-- the first line of a block: `j`, the number of a job and the word of its status
unfoldable pub job_line_of_tokens : List (List ℕ) → Option JobLine
job_line_of_tokens (letter ∷ number ∷ word ∷ []) =
    if bytes_eq letter (codes "j") && token_is_decimal number
    then option_map (λ (s : Status). record { number = number_of number; status = s })
    (status_of word)
    else None
job_line_of_tokens _ = None

abbrev pub job_line_of : List ℕ → Option JobLine
job_line_of line = job_line_of_tokens (tokens_of line)

-- whether the first token is this letter
abbrev pub is_letter : ℕ → List (List ℕ) → Bool
is_letter letter [] = false
is_letter letter (first ∷ tokens) = bytes_eq first (letter ∷ [])

-- this letter, literals and `0`
abbrev pub lits_of_tokens : ℕ → List (List ℕ) → Option (List ℕ)
lits_of_tokens letter [] = None
lits_of_tokens letter (first ∷ tokens) =
    if bytes_eq first (letter ∷ []) then all_then_zero lit_of tokens else None

-- literals of this variable, the next one, and so on
abbrev pub are_variables_from : ℕ → List ℕ → Bool
are_variables_from var [] = true
are_variables_from var (lit ∷ lits) = variable lit == var && are_variables_from (var + 1) lits

-- the values that make literals of the variables 1, 2 and so on true
abbrev pub values_of : List ℕ → Option (List Bool)
values_of lits =
    if are_variables_from 1 lits then Some (map (λ lit. not (is_negative lit)) lits) else None

-- a model: the letter `v`, and a literal for each variable
abbrev pub model_line_of : List ℕ → Option (List Bool)
model_line_of line = option_and_then values_of (lits_of_tokens 118 (tokens_of line))

-- a part: the letter `f`, and literals in strictly ascending order
abbrev pub part_line_of : List ℕ → Option (List ℕ)
part_line_of line =
    option_and_then (λ lits. if is_ascending lits then Some lits else None)
    (lits_of_tokens 102 (tokens_of line))

-- a line of a trace begins with the letter `t`
abbrev pub is_trace_line_of : List ℕ → Bool
is_trace_line_of line = is_letter 116 (tokens_of line)
