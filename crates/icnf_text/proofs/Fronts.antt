-- A text that goes on, or ends: statements come behind those that stand, and a wrong place stays.
use Rattle.std.proofs.Common.{◌≡◌, ◌∙◌, ℕ, ◌+◌, ◌≤◌, List, [], ◌∷◌, ◌++◌, length, Bool, true, false, cond, refl, ap, sym, arith, append-nil, inl, inr}
use Rattle.std.specs.Prelude.{◌==◌, nat_le, Option, Some, None}
use Rattle.std.proofs.lemmas.List.{length-append}
use Rattle.icnf_text.specs.declared.statements.Numbered.{Numbered}
use Rattle.icnf_text.specs.declared.faults.Reason.{Reason}
use Rattle.icnf_text.specs.declared.faults.Fault.{Fault}
use Rattle.icnf_text.specs.declared.words.Word.{Word}
use Rattle.icnf_text.specs.declared.words.Word.TheVariants as word
use Rattle.icnf_text.specs.declared.parser.Phase.{Phase}
use Rattle.icnf_text.specs.declared.parser.Phase.TheVariants as phase
use Rattle.icnf_text.specs.declared.parser.Open.{Open}
use Rattle.icnf_text.specs.declared.parser.Open.TheVariants as open_as
use Rattle.icnf_text.specs.declared.places.Place.{Place}
use Rattle.icnf_text.specs.declared.places.Place.TheVariants as place
use Rattle.icnf_text.specs.Layout.{is_blank}
use Rattle.icnf_text.specs.Judgement.{statements, wrong}
use Rattle.icnf_text.specs.Machine.{State, Step, Parse, Taken, quiet, start, mark_at, begun, pushed_unless, literal_taken, lit_code, closed_unless, token_taken, is_p, is_inccnf, word_at, word_ended_at, with_byte, read_unless, read_byte, and_then, read_bytes, finished, HasRead}
use Rattle.icnf_text.proofs.Truth.{run, tells, ends, is_at, settled_end, IsAt}
use Rattle.icnf_text.proofs.Runs.{feed_given, feed_fault, feed_after_fault}

has_read : (text : List ℕ) → HasRead (run text).state text
unfolding HasRead
has_read text = refl

-- the statements that more of a text adds to those of its front
pub more_statements : List ℕ → List ℕ → List Numbered
more_statements text more = (read_bytes (quiet (run text).state) more).given

pub longer_statements : (text more : List ℕ) → statements (text ++ more) false ≡ statements text false ++ more_statements text more
unfolding more_statements
longer_statements text more = sym (feed_given (run text).state text more _ refl (has_read text))

-- the statements that the end of a text adds
pub last_statements : List ℕ → List Numbered
last_statements text = (finished (run text).state).given

pub ended_statements : (text : List ℕ) → statements text true ≡ statements text false ++ last_statements text
unfolding last_statements
ended_statements text = sym (ends text).1

pub wrong_stays : (text more : List ℕ) (fault : Fault) → wrong text false ≡ Some fault → wrong (text ++ more) false ≡ Some fault
wrong_stays text more fault is =
    let state : State = (run text).state in
    let next : State = (read_bytes (quiet state) more).state in
    sym (feed_fault state next text more refl (has_read text)) ∙ (feed_after_fault state next text more _ fault refl refl (has_read text) is).1

-- no statement comes behind a wrong place
pub none_behind_wrong : (text more : List ℕ) (fault : Fault) → wrong text false ≡ Some fault → statements (text ++ more) false ≡ statements text false
unfolding more_statements
none_behind_wrong text more fault is =
    let state : State = (run text).state in
    longer_statements text more
    ∙ ap (λ (list : List Numbered). statements text false ++ list) (feed_after_fault state (read_bytes (quiet state) more).state text more (more_statements text more) fault refl refl (has_read text) is).0
    ∙ append-nil (statements text false)

pub none_at_end_behind_wrong : (text : List ℕ) (fault : Fault) → wrong text false ≡ Some fault → statements text true ≡ statements text false
none_at_end_behind_wrong text fault is = (settled_end text fault is).1

pub wrong_stays_at_end : (text : List ℕ) (fault : Fault) → wrong text false ≡ Some fault → wrong text true ≡ Some fault
wrong_stays_at_end text fault is = (settled_end text fault is).0

pub nothing_wrong : wrong [] false ≡ None
nothing_wrong = sym (tells []).0

pub nothing_stated : statements [] false ≡ []
nothing_stated = sym (tells []).1

either : (found : Option Fault) (fault : Fault) → found ≡ None → found ≡ Some fault → ⊥
either found fault none some = cc

-- A reader that found no wrong place has counted all bytes, and there are not too many.
pub all_counted : (state : State) (text : List ℕ) → HasRead state text → wrong text false ≡ None → (state.bytes ≡ length text) × (length text ≤ 4294967296)
unfolding HasRead
all_counted state text has right = by (is_at text)
  where
    by : IsAt text (run text) → (state.bytes ≡ length text) × (length text ≤ 4294967296)
    by (inl reads) = (ap (λ (s : State). s.bytes) has ∙ reads.bytes, reads.short)
    by (inr stopped) = absurd (either (wrong text false) stopped.fault right stopped.wrong_is)

none_of : (c : Bool) (a b : Taken) → a.given ≡ [] → b.given ≡ [] → length (cond c a b).given ≤ 1
none_of true a b left right = omega (arith, ap length left)
none_of false a b left right = omega (arith, ap length right)

mark_few : (opened : Open) (parse : Parse) (line : ℕ) → length (mark_at opened parse line).given ≤ 1
mark_few open_as.Nothing parse line = none_of (nat_le 1048576 parse.cubes) _ _ refl refl
mark_few open_as.Clause parse line = omega arith
mark_few open_as.Cube parse line = omega arith

pushed_few : (why : Option Reason) (parse : Parse) (code : ℕ) → length (pushed_unless why parse code).given ≤ 1
pushed_few (Some r) parse code = omega arith
pushed_few None parse code = none_of (nat_le 33554432 parse.literals) _ _ refl refl

literal_few : (code : Option ℕ) (parse : Parse) (line : ℕ) → length (literal_taken code parse line).given ≤ 1
literal_few None parse line = omega arith
literal_few (Some code) parse line = pushed_few (begun parse line).reason (begun parse line).parse code

closed_few : (why : Option Reason) (parse : Parse) → length (closed_unless why parse).given ≤ 1
closed_few (Some r) parse = omega arith
closed_few None parse = omega arith

token_few : (parse : Parse) (line : ℕ) (w : Word) → length (token_taken parse line w).given ≤ 1
token_few parse line word.Zero = closed_few (begun parse line).reason (begun parse line).parse
token_few parse line word.Mark = mark_few parse.opened parse line
token_few parse line (word.Number negative variable) = literal_few (lit_code negative variable) parse line
token_few parse line word.Nothing = omega arith
token_few parse line word.Minus = omega arith
token_few parse line word.P = omega arith
token_few parse line (word.Inccnf count) = omega arith
token_few parse line word.Strange = omega arith

word_few : (at : Phase) (parse : Parse) (line : ℕ) (w : Word) → length (word_at at parse line w).given ≤ 1
word_few phase.Nothing parse line w = none_of (is_p w) _ _ refl refl
word_few phase.AfterP parse line w = none_of (is_inccnf w) _ _ refl refl
word_few phase.Rest parse line w = omega arith
word_few phase.Body parse line w = token_few parse line w

ended_few : (at : Place) (state : State) → length (word_ended_at at state).given ≤ 1
ended_few place.Start state = omega arith
ended_few place.Margin state = omega arith
ended_few place.Comment state = omega arith
ended_few place.Gap state = omega arith
ended_few place.Word state = word_few state.parse.phase state.parse state.line state.word

one_of : (c : Bool) (a b : Step) → length a.given ≤ 1 → length b.given ≤ 1 → length (cond c a b).given ≤ 1
one_of true a b left right = left
one_of false a b left right = right

byte_few : (state : State) (byte : ℕ) → length (with_byte state byte).given ≤ 1
byte_few state byte =
    one_of (byte == 10) _ _ (ended_few state.place state)
    (one_of (is_blank byte) _ _ (ended_few state.place state) (omega arith))

unless_few : (fault : Option Fault) (state : State) (byte : ℕ) → length (read_unless fault state byte).given ≤ 1
unless_few (Some fault) state byte = omega arith
unless_few None state byte = one_of (nat_le 4294967296 state.bytes) _ _ (omega arith) (byte_few (record state { bytes = state.bytes + 1 }) byte)

read_few : (state : State) (byte : ℕ) → length (read_byte state byte).given ≤ 1
unfolding read_byte
read_few state byte = unless_few state.fault state byte

bytes_few : (step : Step) (bytes : List ℕ) → length (read_bytes step bytes).given ≤ length step.given + length bytes
bytes_few step [] = omega arith
bytes_few step (byte ∷ bytes) =
    let rest = bytes_few (and_then step byte) bytes in
    omega (arith, rest, read_few step.state byte, length-append step.given (read_byte step.state byte).given)

-- a text has at most as many statements as bytes
pub few_statements : (text : List ℕ) → length (statements text false) ≤ length text
few_statements text = omega (arith, bytes_few (quiet start) text, ap length (tells text).1)
