-- The states of a reader that sees one byte after another and keeps no token and no line.
-- What they say of the text so far is stated without them, in `Judgement`.
use Rattle.std.specs.Prelude.{◌≡◌, ℕ, ◌+◌, ◌-◌, ◌*◌, nat_lt, nat_le, ◌==◌, ◌&&◌, Bool, true, false}
use Rattle.std.specs.Prelude.{if◌then◌else◌, Option, Some, None, List, [], ◌∷◌, ◌++◌, slice_index}
use Rattle.std.specs.Prelude.{codes, IsTrue}
use Rattle.std.specs.Char.{is_ascii_digit}
use Rattle.sat_base.specs.Limits.{greatest_variable, most_clauses, most_jobs, most_literals}
use Rattle.sat_base.specs.Lit.{in_order}
use Rattle.icnf_text.specs.declared.statements.Statement.{Statement}
use Rattle.icnf_text.specs.declared.statements.Statement.TheVariants as statement
use Rattle.icnf_text.specs.declared.statements.Numbered.{Numbered}
use Rattle.icnf_text.specs.declared.faults.Reason.{Reason}
use Rattle.icnf_text.specs.declared.faults.Reason.TheVariants as reason
use Rattle.icnf_text.specs.declared.faults.Fault.{Fault}
use Rattle.icnf_text.specs.declared.words.Word.{Word}
use Rattle.icnf_text.specs.declared.words.Word.TheVariants as word
use Rattle.icnf_text.specs.declared.parser.Phase.{Phase}
use Rattle.icnf_text.specs.declared.parser.Phase.TheVariants as phase
use Rattle.icnf_text.specs.declared.parser.Open.{Open}
use Rattle.icnf_text.specs.declared.parser.Open.TheVariants as open_as
use Rattle.icnf_text.specs.declared.places.Place.{Place}
use Rattle.icnf_text.specs.declared.places.Place.TheVariants as place
use Rattle.icnf_text.specs.Layout.{is_blank}
use Rattle.icnf_text.specs.Judgement.{fault_on}

-- a word of one byte
abbrev pub first_byte : ℕ → Word
first_byte byte =
    if byte == 48 then word.Zero
    else if byte == 45 then word.Minus
    else if byte == 97 then word.Mark
    else if byte == 112 then word.P
    else if byte == 105 then word.Inccnf 1
    else if is_ascii_digit byte then word.Number false (byte - 48)
    else word.Strange

abbrev pub first_digit : ℕ → Word
first_digit byte =
    if is_ascii_digit byte && nat_lt 48 byte then word.Number true (byte - 48) else word.Strange

-- a number with one more digit; once it is above the greatest variable it stays there
abbrev pub next_digit : Bool → ℕ → ℕ → Word
next_digit negative variable byte =
    if is_ascii_digit byte
    then word.Number negative
    (if nat_lt greatest_variable variable then variable else variable * 10 + (byte - 48))
    else word.Strange

abbrev pub next_letter : ℕ → ℕ → Word
next_letter count byte =
    if nat_lt count 6 && byte == slice_index (codes "inccnf") count then word.Inccnf (count + 1)
    else word.Strange

abbrev pub extended : Word → ℕ → Word
extended word.Nothing byte = first_byte byte
extended word.Zero byte = word.Strange
extended word.Minus byte = first_digit byte
extended word.Mark byte = word.Strange
extended (word.Number negative variable) byte = next_digit negative variable byte
extended word.P byte = word.Strange
extended (word.Inccnf count) byte = next_letter count byte
extended word.Strange byte = word.Strange

-- the word with more bytes
abbrev pub extended_by : Word → List ℕ → Word
extended_by w [] = w
extended_by w (byte ∷ bytes) = extended_by (extended w byte) bytes

abbrev pub lit_code : Bool → ℕ → Option ℕ
lit_code negative variable =
    if nat_lt 0 variable && nat_le variable greatest_variable
    then Some (2 * variable + (if negative then 1 else 0))
    else None

-- what a reader knows of the tokens so far
pub record Parse : Type 0 where
  pub phase : Phase
  pub opened : Open
  pub start : ℕ
  pub lits : List ℕ
  pub clauses : ℕ
  pub cubes : ℕ
  pub literals : ℕ

-- what comes of a token: a new state, what is wrong with the token, and the statement that it ends
pub record Taken : Type 0 where
  pub parse : Parse
  pub reason : Option Reason
  pub given : List Numbered

abbrev pub goes_on : Parse → Taken
goes_on parse = record { parse = parse; reason = None; given = [] }

abbrev pub stops : Parse → Reason → Taken
stops parse why = record { parse = parse; reason = Some why; given = [] }

-- `a`
abbrev pub mark_at : Open → Parse → ℕ → Taken
mark_at open_as.Nothing parse line =
    if nat_le most_jobs parse.cubes
    then stops parse reason.TooMany
    else goes_on (record parse { opened = open_as.Cube; start = line; cubes = parse.cubes + 1 })
mark_at open_as.Clause parse line = stops parse reason.Token
mark_at open_as.Cube parse line = stops parse reason.Token

-- a clause begins where no statement is open
abbrev pub begun_at : Open → Parse → ℕ → Taken
begun_at open_as.Nothing parse line =
    if nat_le most_clauses parse.clauses
    then stops parse reason.TooMany
    else goes_on (record parse {
      opened = open_as.Clause;
      start = line;
      clauses = parse.clauses + 1;
    })
begun_at open_as.Clause parse line = goes_on parse
begun_at open_as.Cube parse line = goes_on parse

abbrev pub begun : Parse → ℕ → Taken
begun parse line = begun_at parse.opened parse line

-- a literal
abbrev pub pushed_unless : Option Reason → Parse → ℕ → Taken
pushed_unless (Some why) parse code = stops parse why
pushed_unless None parse code =
    if nat_le most_literals parse.literals
    then stops parse reason.TooMany
    else goes_on (record parse { lits = parse.lits ++ code ∷ []; literals = parse.literals + 1 })

abbrev pub literal_taken : Option ℕ → Parse → ℕ → Taken
literal_taken None parse line = stops parse reason.Variable
literal_taken (Some code) parse line =
    pushed_unless (begun parse line).reason (begun parse line).parse code

abbrev pub statement_as : Open → List ℕ → Statement
statement_as open_as.Nothing lits = statement.Clause lits
statement_as open_as.Clause lits = statement.Clause lits
statement_as open_as.Cube lits = statement.Cube lits

-- `0`
abbrev pub closed_unless : Option Reason → Parse → Taken
closed_unless (Some why) parse = stops parse why
closed_unless None parse = record {
  parse = record parse { opened = open_as.Nothing; lits = [] };
  reason = None;
  given = record {
    line = parse.start;
    statement = statement_as parse.opened (in_order parse.lits);
  } ∷ [];
}

abbrev pub zero_taken : Parse → ℕ → Taken
zero_taken parse line = closed_unless (begun parse line).reason (begun parse line).parse

abbrev pub token_taken : Parse → ℕ → Word → Taken
token_taken parse line word.Zero = zero_taken parse line
token_taken parse line word.Mark = mark_at parse.opened parse line
token_taken parse line (word.Number negative variable) =
    literal_taken (lit_code negative variable) parse line
token_taken parse line word.Nothing = stops parse reason.Token
token_taken parse line word.Minus = stops parse reason.Token
token_taken parse line word.P = stops parse reason.Token
token_taken parse line (word.Inccnf count) = stops parse reason.Token
token_taken parse line word.Strange = stops parse reason.Token

-- the first word of the header's line, and the second
abbrev pub is_p : Word → Bool
is_p word.P = true
is_p word.Nothing = false
is_p word.Zero = false
is_p word.Minus = false
is_p word.Mark = false
is_p (word.Number negative variable) = false
is_p (word.Inccnf count) = false
is_p word.Strange = false

abbrev pub is_inccnf : Word → Bool
is_inccnf (word.Inccnf count) = count == 6
is_inccnf word.Nothing = false
is_inccnf word.Zero = false
is_inccnf word.Minus = false
is_inccnf word.Mark = false
is_inccnf (word.Number negative variable) = false
is_inccnf word.P = false
is_inccnf word.Strange = false

abbrev pub word_at : Phase → Parse → ℕ → Word → Taken
word_at phase.Nothing parse line w =
    if is_p w then goes_on (record parse { phase = phase.AfterP }) else stops parse reason.Header
word_at phase.AfterP parse line w =
    if is_inccnf w then goes_on (record parse { phase = phase.Rest }) else stops parse reason.Header
word_at phase.Rest parse line w = goes_on parse
word_at phase.Body parse line w = token_taken parse line w

-- a line feed
abbrev pub line_at : Phase → Parse → Taken
line_at phase.Nothing parse = goes_on parse
line_at phase.AfterP parse = stops parse reason.Header
line_at phase.Rest parse = goes_on (record parse { phase = phase.Body })
line_at phase.Body parse = goes_on parse

-- the end of the text
abbrev pub is_open : Open → Option Reason
is_open open_as.Nothing = None
is_open open_as.Clause = Some reason.Unfinished
is_open open_as.Cube = Some reason.Unfinished

abbrev pub end_at : Phase → Parse → Option Reason
end_at phase.Nothing parse = Some reason.Header
end_at phase.AfterP parse = Some reason.Header
end_at phase.Rest parse = None
end_at phase.Body parse = is_open parse.opened

-- a reader: how many bytes it has seen, on which line it stands, where on that line, and in which
-- word
pub record State : Type 0 where
  pub parse : Parse
  pub bytes : ℕ
  pub line : ℕ
  pub place : Place
  pub word : Word
  pub fault : Option Fault
  pub lost : Bool

-- a state, and the statements given on the way to it
pub record Step : Type 0 where
  pub state : State
  pub given : List Numbered

abbrev pub quiet : State → Step
quiet state = record { state = state; given = [] }

-- the end of a word, if one stands here
abbrev pub word_ended_at : Place → State → Step
word_ended_at place.Start state = quiet state
word_ended_at place.Margin state = quiet state
word_ended_at place.Comment state = quiet state
word_ended_at place.Gap state = quiet state
word_ended_at place.Word state =
    let taken = word_at state.parse.phase state.parse state.line state.word in record {
      state = record state {
        parse = taken.parse;
        place = place.Gap;
        word = word.Nothing;
        fault = fault_on state.line taken.reason;
      };
      given = taken.given;
    }

abbrev pub word_ended : State → Step
word_ended state = word_ended_at state.place state

abbrev pub line_ended : State → State
line_ended state =
    let taken = line_at state.parse.phase state.parse in
    record state {
      parse = taken.parse;
      place = place.Start;
      line = state.line + 1;
      fault = fault_on state.line taken.reason;
    }

abbrev pub line_ended_unless : Option Fault → State → State
line_ended_unless (Some fault) state = state
line_ended_unless None state = line_ended state

abbrev pub margin : Place → Place
margin place.Start = place.Margin
margin place.Margin = place.Margin
margin place.Comment = place.Comment
margin place.Gap = place.Gap
margin place.Word = place.Word

abbrev pub begin_line : State → ℕ → State
begin_line state byte =
    if byte == 99 then record state { place = place.Comment }
    else record state { place = place.Word; word = extended state.word byte }

abbrev pub put_at : Place → State → ℕ → State
put_at place.Start state byte = begin_line state byte
put_at place.Margin state byte = begin_line state byte
put_at place.Comment state byte = state
put_at place.Gap state byte = record state { place = place.Word; word = extended state.word byte }
put_at place.Word state byte = record state { place = place.Word; word = extended state.word byte }

abbrev pub with_byte : State → ℕ → Step
with_byte state byte =
    if byte == 10
    then (let step = word_ended state in
    record step { state = line_ended_unless step.state.fault step.state })
    else if is_blank byte
    then (let step = word_ended state in
    record step { state = record step.state { place = margin step.state.place } })
    else quiet (put_at state.place state byte)

abbrev pub read_unless : Option Fault → State → ℕ → Step
read_unless (Some fault) state byte = quiet state
read_unless None state byte =
    if nat_le 4294967296 state.bytes
    then quiet (record state {
      fault = Some
          (record { line = state.line; reason = reason.TooLong });
    })
    else with_byte (record state { bytes = state.bytes + 1 }) byte

-- one byte more
unfoldable pub read_byte : State → ℕ → Step
read_byte state byte = read_unless state.fault state byte

abbrev pub and_then : Step → ℕ → Step
and_then step byte =
    let next = read_byte step.state byte
    in record { state = next.state; given = step.given ++ next.given }

abbrev pub read_bytes : Step → List ℕ → Step
read_bytes step [] = step
read_bytes step (byte ∷ bytes) = read_bytes (and_then step byte) bytes

-- the end of the text
abbrev pub last_at : Place → ℕ → ℕ
last_at place.Start line = if nat_lt 1 line then line - 1 else line
last_at place.Margin line = line
last_at place.Comment line = line
last_at place.Gap line = line
last_at place.Word line = line

abbrev pub ended_unless : Option Fault → State → State
ended_unless (Some fault) state = state
ended_unless None state = record state {
  fault = fault_on (last_at state.place state.line)
      (end_at state.parse.phase state.parse);
}

abbrev pub finished_unless : Option Fault → State → Step
finished_unless (Some fault) state = quiet state
finished_unless None state =
    let step = word_ended state in record step { state = ended_unless step.state.fault step.state }

unfoldable pub finished : State → Step
finished state = finished_unless state.fault state

abbrev pub start : State
start = record {
  parse = record {
    phase = phase.Nothing;
    opened = open_as.Nothing;
    start = 0;
    lits = [];
    clauses = 0;
    cubes = 0;
    literals = 0;
  };
  bytes = 0;
  line = 1;
  place = place.Start;
  word = word.Nothing;
  fault = None;
  lost = false;
}

-- a reader that has read this text, in whatever pieces it came
unfoldable pub HasRead : State → List ℕ → Type 0
HasRead state text = state ≡ (read_bytes (quiet start) text).state

-- a reader that memory was refused to
abbrev pub IsLost : State → Type 0
IsLost state = IsTrue state.lost
