-- A literal at the front of bytes, and what reading it leaves.
use Rattle.std.specs.Prelude.{◌≡◌, ℕ, ◌+◌, ◌<◌, ◌≤◌, ◌==◌, Bool, true, false, Option, Some, None}
use Rattle.std.specs.Prelude.{List, [], ◌∷◌, ◌++◌, length, take, slice_index, All, IsTrue}
use Rattle.std.specs.Char.{is_ascii_digit}
use Rattle.icnf_text.specs.declared.faults.Fault.{Fault}
use Rattle.icnf_text.specs.declared.words.Word.TheVariants as word
use Rattle.icnf_text.specs.declared.parser.Phase.TheVariants as phase
use Rattle.icnf_text.specs.declared.places.Place.{Place}
use Rattle.icnf_text.specs.declared.places.Place.TheVariants as place
use Rattle.icnf_text.specs.Layout.{is_blank, is_line_feed}
use Rattle.icnf_text.specs.Judgement.{fault_on}
use Rattle.icnf_text.specs.Machine.{State, extended, extended_by, lit_code, literal_taken}
use Rattle.icnf_text.specs.Machine.{zero_taken}

-- so many digits at the front, of this value
pub record AreDigits (bytes : List ℕ) (value count : ℕ) : Type 0 where
  pub within : count ≤ length bytes
  pub each : All (λ byte. IsTrue (is_ascii_digit byte)) (take count bytes)
  pub number : (negative : Bool)
      → extended_by (word.Number negative 0) (take count bytes) ≡ word.Number negative value

-- the same, the first one not 0, and a space behind them
pub record AreEnded (bytes : List ℕ) (value count : ℕ) : Type 0 where
  pub digits : AreDigits bytes value count
  pub some : 0 < count
  pub first : 48 < slice_index bytes 0
  pub behind : count < length bytes
  pub space : slice_index bytes count ≡ 32

-- a byte of a word that begins no comment
pub record IsInk (byte : ℕ) : Type 0 where
  pub no_blank : is_blank byte ≡ false
  pub no_feed : is_line_feed byte ≡ false
  pub no_comment : (byte == 99) ≡ false

-- the word of a literal and a space behind it, so many bytes together
pub record IsNumber (bytes : List ℕ) (negative : Bool) (variable size : ℕ) : Type 0 where
  pub first : ℕ
  pub rest : List ℕ
  pub front : take size bytes ≡ first ∷ (rest ++ 32 ∷ [])
  pub counted : length rest + 2 ≡ size
  pub within : size ≤ length bytes
  pub first_ink : IsInk first
  pub ink : All IsInk rest
  pub value : extended_by (extended word.Nothing first) rest ≡ word.Number negative variable

-- the token `0` and a line feed
pub record IsEnd (bytes : List ℕ) : Type 0 where
  pub within : 2 ≤ length bytes
  pub zero : slice_index bytes 0 ≡ 48
  pub feed : slice_index bytes 1 ≡ 10

abbrev pub is_between : Place → Bool
is_between place.Start = true
is_between place.Margin = true
is_between place.Comment = false
is_between place.Gap = true
is_between place.Word = false

-- the next byte of a text may begin a word of a statement
pub record IsBetween (state : State) : Type 0 where
  pub right : state.fault ≡ None
  pub body : state.parse.phase ≡ phase.Body
  pub between : is_between state.place ≡ true
  pub no_word : state.word ≡ word.Nothing

-- behind a literal and a space of this size
abbrev pub number_read : State → Bool → ℕ → ℕ → State
number_read state negative variable size =
    let taken = literal_taken (lit_code negative variable) state.parse state.line in
    record state {
      parse = taken.parse;
      bytes = state.bytes + size;
      place = place.Gap;
      word = word.Nothing;
      fault = fault_on state.line taken.reason;
    }

-- the next line, where nothing is wrong
abbrev pub next_line : Option Fault → State → State
next_line (Some fault) state = state
next_line None state = record state { place = place.Start; line = state.line + 1 }

-- behind the end of a statement and of its line
abbrev pub end_read : State → State
end_read state =
    let taken = zero_taken state.parse state.line in
    next_line (fault_on state.line taken.reason) (record state {
      parse = taken.parse;
      bytes = state.bytes + 2;
      place = place.Gap;
      word = word.Nothing;
      fault = fault_on state.line taken.reason;
    })
