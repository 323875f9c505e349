-- The statements of a text, and its first wrong place.
use Rattle.std.specs.Prelude.{ℕ, nat_lt, nat_le, ◌==◌, ◌&&◌, ◌||◌, not, Bool, true, false}
use Rattle.std.specs.Prelude.{if◌then◌else◌, Option, Some, None, is_some, List, [], ◌∷◌, ◌++◌, map}
use Rattle.std.specs.Prelude.{filter, length, take, codes, count_by}
use Rattle.std.specs.Option.{option_or, option_map}
use Rattle.std.specs.Str.{bytes_eq}
use Rattle.sat_base.specs.Limits.{most_clauses, most_jobs, most_literals}
use Rattle.sat_base.specs.Lit.{in_order}
use Rattle.icnf_text.specs.declared.statements.Statement.{Statement}
use Rattle.icnf_text.specs.declared.statements.Statement.TheVariants.{Clause, Cube}
use Rattle.icnf_text.specs.declared.statements.Numbered.{Numbered}
use Rattle.icnf_text.specs.declared.faults.Reason.{Reason}
use Rattle.icnf_text.specs.declared.faults.Reason.TheVariants as reason
use Rattle.icnf_text.specs.declared.faults.Fault.{Fault}
use Rattle.icnf_text.specs.Layout.{Token, tokens_of, line_behind, last_line}
use Rattle.icnf_text.specs.Number.{is_zero, is_mark, is_literal, is_variable, variable_of, code_of}

-- The tokens of each statement, its `0` with them, where these tokens stand before; what stands
-- behind the last `0` belongs to none.
abbrev pub groups_after : List Token → List Token → List (List Token)
groups_after before [] = []
groups_after before (token ∷ tokens) =
    if is_zero token.bytes then (before ++ token ∷ []) ∷ groups_after [] tokens
    else groups_after (before ++ token ∷ []) tokens

-- the tokens behind the last `0`: those of a statement that has no `0` yet
abbrev pub open_after : List Token → List Token → List Token
open_after before [] = before
open_after before (token ∷ tokens) =
    if is_zero token.bytes then open_after [] tokens else open_after (before ++ token ∷ []) tokens

abbrev pub groups_of : List Token → List (List Token)
groups_of tokens = groups_after [] tokens

abbrev pub open_of : List Token → List Token
open_of tokens = open_after [] tokens

-- the codes of the literal tokens among these
abbrev pub lits_of : List Token → List ℕ
lits_of tokens =
    map (λ (token : Token). code_of token.bytes)
    (filter (λ (token : Token). is_literal token.bytes) tokens)

abbrev pub begins_cube : List Token → Bool
begins_cube [] = false
begins_cube (token ∷ tokens) = is_mark token.bytes

abbrev pub first_line : List Token → ℕ
first_line [] = 0
first_line (token ∷ tokens) = token.line

-- the statement of a group: a cube where its first token is `a`; its line is that of its first
-- token
abbrev pub statement_of : List Token → Numbered
statement_of group = record {
  line = first_line group;
  statement =
      if begins_cube group then Cube (in_order (lits_of group))
      else Clause (in_order (lits_of group));
}

abbrev pub statements_of : List Token → List Numbered
statements_of tokens = map statement_of (groups_of tokens)

abbrev pub is_clause : Statement → Bool
is_clause (Clause _) = true
is_clause (Cube _) = false

abbrev pub count_clauses : List Numbered → ℕ
count_clauses numbered = count_by (λ (n : Numbered). is_clause n.statement) numbered

abbrev pub count_cubes : List Numbered → ℕ
count_cubes numbered = count_by (λ (n : Numbered). not (is_clause n.statement)) numbered

abbrev pub count_literals : List Token → ℕ
count_literals tokens = count_by (λ (token : Token). is_literal token.bytes) tokens

-- A statement begins where no other is open.
abbrev pub is_begin : List Token → Bool
is_begin before = length (open_of before) == 0

-- one clause, cube or literal more than there may be
abbrev pub is_one_too_many : List Token → List ℕ → Bool
is_one_too_many before bytes =
    if is_mark bytes
    then nat_le most_jobs (count_cubes (statements_of before))
    else (is_begin before && nat_le most_clauses (count_clauses (statements_of before))) ||
    (is_literal bytes && nat_le most_literals (count_literals before))

-- what is wrong with a token of the statements, if these right ones stand before it
abbrev pub reason_of : List Token → List ℕ → Option Reason
reason_of before bytes =
    if not (is_zero bytes || is_literal bytes || is_mark bytes && is_begin before)
    then Some reason.Token
    else if is_literal bytes && not (is_variable (variable_of bytes)) then Some reason.Variable
    else if is_one_too_many before bytes then Some reason.TooMany
    else None

-- Tokens are judged in order: the tokens before the first wrong one,
abbrev pub right_after : List Token → List Token → List Token
right_after before [] = before
right_after before (token ∷ tokens) =
    if is_some (reason_of before token.bytes) then before
    else right_after (before ++ token ∷ []) tokens

abbrev pub fault_on : ℕ → Option Reason → Option Fault
fault_on line why = option_map (λ r. record { line = line; reason = r }) why

-- and that one's fault.
abbrev pub wrong_after : List Token → List Token → Option Fault
wrong_after before [] = None
wrong_after before (token ∷ tokens) =
    option_or (fault_on token.line (reason_of before token.bytes))
    (wrong_after (before ++ token ∷ []) tokens)

-- What the first tokens say: no header yet, none on this line, or a header with these tokens on the
-- lines behind it.
pub data Header : Type 0 where
  Missing : Header
  Broken : ℕ → Header
  Found : List Token → Header

abbrev pub is_behind : ℕ → Token → Bool
is_behind line token = nat_lt line token.line

-- the first line with a token must have `p` first and `inccnf` second; here a text stands on this
-- line
abbrev pub header_of : ℕ → List Token → Header
header_of line [] = Missing
header_of line (first ∷ []) =
    if bytes_eq first.bytes (codes "p") && not (nat_lt first.line line) then Missing
    else Broken first.line
header_of line (first ∷ second ∷ tokens) =
    if bytes_eq first.bytes (codes "p") && first.line == second.line && bytes_eq second.bytes
    (codes "inccnf")
    then Found (filter (is_behind first.line) tokens)
    else Broken first.line

-- the statements before the first wrong token
abbrev pub statements_under : Header → List Numbered
statements_under Missing = []
statements_under (Broken line) = []
statements_under (Found tokens) = statements_of (right_after [] tokens)

-- the first wrong token
abbrev pub wrong_under : Header → Option Fault
wrong_under Missing = None
wrong_under (Broken line) = Some (record { line = line; reason = reason.Header })
wrong_under (Found tokens) = wrong_after [] tokens

-- what is wrong where the text ends on this line
abbrev pub wrong_end : ℕ → Header → Option Fault
wrong_end line Missing = Some (record { line = line; reason = reason.Header })
wrong_end line (Broken _) = None
wrong_end line (Found tokens) =
    if length (open_of tokens) == 0 then None
    else Some (record { line = line; reason = reason.Unfinished })

-- a text may have that many bytes
abbrev pub is_too_long : List ℕ → Bool
is_too_long text = nat_lt 4294967296 (length text)

abbrev pub within : List ℕ → List ℕ
within text = take 4294967296 text

-- what the tokens say that have ended; the byte after the last one that may be there ends none
abbrev pub header : List ℕ → Bool → Header
header text ended =
    header_of (line_behind (within text))
    (tokens_of (within text) (ended && not (is_too_long text)))

-- The statements before the first wrong place, with the lines of their first tokens. Of a text that
-- isn't ended only a prefix has come.
unfoldable pub statements : List ℕ → Bool → List Numbered
statements text ended = statements_under (header text ended)

-- the first wrong place
unfoldable pub wrong : List ℕ → Bool → Option Fault
wrong text ended = option_or (wrong_under (header text ended))
    (if is_too_long text then Some (record {
      line = line_behind (within text);
      reason = reason.TooLong;
    })
    else if ended then wrong_end (last_line text) (header text ended)
    else None)
