-- Literals that are read in one go.
use Rattle.std.proofs.Common.{◌≡◌, ◌∙◌, ℕ, zero, suc, ◌+◌, ◌-◌, ◌*◌, ◌^◌, ◌<◌, ◌≤◌, List, [], ◌∷◌, ◌++◌, length, take, drop, get_or, Bool, true, false, refl, ap, sym, subst, arith, append_assoc}
use Rattle.std.specs.Prelude.{All, IsTrue, nat_lt, nat_le, ◌==◌, Option, Some, None, is_some, if◌then◌else◌, slice_index}
use Rattle.std.specs.Char.{is_ascii_digit}
use Rattle.std.proofs.Math.Nat.{pow-suc, pow-le-pow_right}
use Rattle.std.proofs.Math.Seq.{take-add}
use Rattle.std.proofs.lemmas.Bool.{false≢true}
use Rattle.std.proofs.lemmas.Bool.Decides.{nat_tests}
use Rattle.std.proofs.lemmas.List.{take_more, length-take-le}
use Rattle.std.proofs.lemmas.List.Elements.{All-nil, All-push, All-head, All-tail, All-weaker}
use Rattle.sat_base.specs.Limits.{greatest_variable, most_clauses, most_literals}
use Rattle.icnf_text.specs.declared.statements.Numbered.{Numbered}
use Rattle.icnf_text.specs.declared.faults.Fault.{Fault}
use Rattle.icnf_text.specs.declared.faults.Reason.{Reason}
use Rattle.icnf_text.specs.declared.faults.Reason.TheVariants as reason
use Rattle.icnf_text.specs.declared.words.Word.{Word}
use Rattle.icnf_text.specs.declared.words.Word.TheVariants as word
use Rattle.icnf_text.specs.declared.places.Place.{Place}
use Rattle.icnf_text.specs.declared.places.Place.TheVariants as place
use Rattle.icnf_text.specs.declared.parser.Phase.TheVariants as phase
use Rattle.icnf_text.specs.declared.parser.Open.{Open}
use Rattle.icnf_text.specs.declared.parser.Open.TheVariants as open_as
use Rattle.icnf_text.specs.Layout.{is_blank, is_line_feed}
use Rattle.icnf_text.specs.Judgement.{fault_on}
use Rattle.icnf_text.specs.Ahead.{AreDigits, AreEnded, IsInk, IsNumber, IsBetween, IsEnd, is_between, next_line, end_read, number_read}
use Rattle.icnf_text.specs.Machine.{State, Step, Parse, Taken, goes_on, stops, quiet, read_byte, read_unless, with_byte, read_bytes, extended, extended_by, next_digit, first_byte, first_digit, word_at, literal_taken, pushed_unless, begun, lit_code, put_at, line_ended_unless, line_at, zero_taken, closed_unless, begun_at}
use Rattle.icnf_text.proofs.Runs.{read_bytes-append, state_after, given_after, one_more, byte_state, byte_given}

-- more bytes of a word
extended_by-push : (w : Word) (bytes : List ℕ) (byte : ℕ) → extended_by w (bytes ++ byte ∷ []) ≡ extended (extended_by w bytes) byte
extended_by-push w [] byte = refl
extended_by-push w (b ∷ bytes) byte = extended_by-push (extended w b) bytes byte

-- one digit more
digit_next : (negative : Bool) (value byte : ℕ) → is_ascii_digit byte ≡ true → nat_lt greatest_variable value ≡ false → next_digit negative value byte ≡ word.Number negative (value * 10 + (byte - 48))
digit_next negative value byte digit small = rw digit (rw small refl)

pub digits_none : (bytes : List ℕ) → AreDigits bytes 0 0
digits_none bytes = record {
  within = omega arith;
  each = All-nil (λ byte. IsTrue (is_ascii_digit byte));
  number = λ negative. refl;
}

pub digits_more : (bytes : List ℕ) (value count next : ℕ) → AreDigits bytes value count → count < length bytes → is_ascii_digit (get_or bytes count 0) ≡ true → value ≤ 8388607
    → next ≡ value * 10 + (get_or bytes count 0 - 48) → AreDigits bytes next (count + 1)
digits_more bytes value count next are within digit small is =
    let more = take_more bytes count 0 within in record {
      within = omega (arith, within);
      each = subst (All (λ byte. IsTrue (is_ascii_digit byte))) (sym more) (All-push (λ byte. IsTrue (is_ascii_digit byte)) (take count bytes) (get_or bytes count 0) are.each (told (get_or bytes count 0) digit));
      number = λ negative.
          ap (extended_by (word.Number negative 0)) more
          ∙ extended_by-push (word.Number negative 0) (take count bytes) (get_or bytes count 0)
          ∙ ap (λ w. extended w (get_or bytes count 0)) (are.number negative)
          ∙ digit_next negative value (get_or bytes count 0) digit (not_above value small)
          ∙ ap (λ v. word.Number negative v) (sym is);
    }
  where
    not_above : (value : ℕ) → value ≤ 8388607 → nat_lt greatest_variable value ≡ false
    not_above value small = grind (arith, nat_tests)

    told : (byte : ℕ) → is_ascii_digit byte ≡ true → IsTrue (is_ascii_digit byte)
    told byte is = is

-- a digit is no blank, no line feed and no `c`
digit_ink : (byte : ℕ) → IsTrue (is_ascii_digit byte) → IsInk byte
digit_ink byte is = record { no_blank = blank byte is; no_feed = feed byte is; no_comment = comment byte is }
  where
    blank : (byte : ℕ) → is_ascii_digit byte ≡ true → is_blank byte ≡ false
    blank byte is = grind (arith, nat_tests)

    feed : (byte : ℕ) → is_ascii_digit byte ≡ true → is_line_feed byte ≡ false
    feed byte is = grind (arith, nat_tests)

    comment : (byte : ℕ) → is_ascii_digit byte ≡ true → (byte == 99) ≡ false
    comment byte is = grind (arith, nat_tests)

-- a first digit begins a number as any other goes on with it
first_goes_on : (negative : Bool) (byte : ℕ) → is_ascii_digit byte ≡ true → next_digit negative 0 byte ≡ word.Number negative (byte - 48)
first_goes_on negative byte digit = let e : 0 * 10 + (byte - 48) ≡ byte - 48 = omega arith in rw digit (ap (word.Number negative) e)

first_plain : (byte : ℕ) → is_ascii_digit byte ≡ true → 48 < byte → first_byte byte ≡ word.Number false (byte - 48)
first_plain byte digit above =
    rw (other byte 48 above) (rw (apart byte 45 digit (omega arith)) (rw (past byte 97 digit (omega arith)) (rw (past byte 112 digit (omega arith)) (rw (past byte 105 digit (omega arith)) (rw digit refl)))))
  where
    other : (byte n : ℕ) → n < byte → (byte == n) ≡ false
    other byte n above = grind (arith, nat_tests)

    apart : (byte n : ℕ) → is_ascii_digit byte ≡ true → n < 48 → (byte == n) ≡ false
    apart byte n digit below = grind (arith, nat_tests)

    past : (byte n : ℕ) → is_ascii_digit byte ≡ true → 57 < n → (byte == n) ≡ false
    past byte n digit above = grind (arith, nat_tests)

first_minus : (byte : ℕ) → is_ascii_digit byte ≡ true → 48 < byte → first_digit byte ≡ word.Number true (byte - 48)
first_minus byte digit above = rw digit (rw (greater byte above) refl)
  where
    greater : (byte : ℕ) → 48 < byte → nat_lt 48 byte ≡ true
    greater byte above = grind (arith, nat_tests)

-- the digits of a number whose sign has come, or that has none
abbrev goes_on_as : Word → Bool → Type 0
goes_on_as begun negative = (byte : ℕ) → is_ascii_digit byte ≡ true → 48 < byte → extended begun byte ≡ word.Number negative (byte - 48)

number_value : (begun : Word) (negative : Bool) (bytes : List ℕ) (value count : ℕ) → goes_on_as begun negative → AreEnded bytes value count → extended_by begun (take count bytes) ≡ word.Number negative value
number_value begun negative [] value count goes ended = absurd (let h = ended.behind in omega (arith, h))
number_value begun negative (b ∷ bs) value zero goes ended = absurd (let h = ended.some in omega (arith, h))
number_value begun negative (b ∷ bs) value (suc k) goes ended =
    let digit = All-head (λ byte. IsTrue (is_ascii_digit byte)) b (take k bs) ended.digits.each in
    ap (λ w. extended_by w (take k bs)) (goes b digit ended.first ∙ sym (first_goes_on negative b digit)) ∙ ended.digits.number negative

ended_front : (bytes : List ℕ) (value count : ℕ) → AreEnded bytes value count → take (count + 1) bytes ≡ take count bytes ++ 32 ∷ []
ended_front bytes value count ended = take_more bytes count 0 ended.behind ∙ ap (λ x. take count bytes ++ x ∷ []) ended.space

ended_ink : (bytes : List ℕ) (value count : ℕ) → AreEnded bytes value count → All IsInk (take count bytes)
ended_ink bytes value count ended = All-weaker (λ byte. IsTrue (is_ascii_digit byte)) IsInk digit_ink (take count bytes) ended.digits.each

pub number_plain : (bytes : List ℕ) (value count : ℕ) → AreEnded bytes value count → IsNumber bytes false value (count + 1)
number_plain [] value count ended = absurd (let h = ended.behind in omega (arith, h))
number_plain (b ∷ bs) value zero ended = absurd (let h = ended.some in omega (arith, h))
number_plain (b ∷ bs) value (suc k) ended =
    let ink = ended_ink (b ∷ bs) value (suc k) ended in record {
      first = b;
      rest = take k bs;
      front = ended_front (b ∷ bs) value (suc k) ended;
      counted = (let h = ended.behind in omega (arith, h, length-take-le k bs (omega (arith, h))));
      within = (let h = ended.behind in omega (arith, h));
      first_ink = All-head IsInk b (take k bs) ink;
      ink = All-tail IsInk b (take k bs) ink;
      value = number_value word.Nothing false (b ∷ bs) value (suc k) first_plain ended;
    }

pub number_minus : (bytes digits : List ℕ) (value count : ℕ) → get_or bytes 0 0 ≡ 45 → digits ≡ drop 1 bytes → AreEnded digits value count → IsNumber bytes true value (count + 2)
number_minus [] digits value count minus is ended = absurd (omega (arith, minus))
number_minus (b ∷ bs) digits value count minus is ended =
    let here : AreEnded bs value count = subst (λ (ds : List ℕ). AreEnded ds value count) is ended in
    let behind = here.behind in
    let more : count + 2 ≡ suc (count + 1) = omega arith in record {
      first = 45;
      rest = take count bs;
      front = ap (λ n. take n (b ∷ bs)) more ∙ ap (λ x. x ∷ take (count + 1) bs) minus ∙ ap (λ (r : List ℕ). 45 ∷ r) (ended_front bs value count here);
      counted = omega (arith, length-take-le count bs (omega (arith, behind)));
      within = omega (arith, behind);
      first_ink = record { no_blank = refl; no_feed = refl; no_comment = refl };
      ink = ended_ink bs value count here;
      value = number_value word.Minus true bs value count first_minus here;
    }

-- a state in a word, behind so many bytes
abbrev inside : State → ℕ → Word → State
inside s bytes w = record s { bytes = bytes; place = place.Word; word = w }

-- a state behind a word and a blank
abbrev behind : State → ℕ → Taken → Step
behind s bytes taken = record {
  state = record s {
    parse = taken.parse;
    bytes = bytes;
    place = place.Gap;
    word = word.Nothing;
    fault = fault_on s.line taken.reason;
  };
  given = taken.given;
}

room : (n : ℕ) → n < 4294967296 → nat_le 4294967296 n ≡ false
room n few = grind (arith, nat_tests)

one_byte : (s : State) (byte : ℕ) → s.fault ≡ None → s.bytes < 4294967296 → read_byte s byte ≡ with_byte (record s { bytes = s.bytes + 1 }) byte
unfolding read_byte
one_byte s byte right few = ap (λ (f : Option Fault). read_unless f s byte) right ∙ rw (room s.bytes few) refl

one_ink : (s : State) (byte : ℕ) → IsInk byte → with_byte s byte ≡ quiet (put_at s.place s byte)
one_ink s byte ink = rw ink.no_feed (rw ink.no_blank refl)

ink_more : (s : State) (bytes : ℕ) (w : Word) (byte : ℕ) → s.fault ≡ None → bytes < 4294967296 → IsInk byte → read_byte (inside s bytes w) byte ≡ quiet (inside s (bytes + 1) (extended w byte))
ink_more s bytes w byte right few ink = one_byte (inside s bytes w) byte right few ∙ one_ink (inside s (bytes + 1) w) byte ink

inks : (s : State) (bytes : ℕ) (w : Word) (inked : List ℕ) → s.fault ≡ None → bytes + length inked ≤ 4294967296 → All IsInk inked → read_bytes (quiet (inside s bytes w)) inked ≡ quiet (inside s (bytes + length inked) (extended_by w inked))
inks s bytes w [] right few ink = let e : bytes ≡ bytes + 0 = omega arith in ap (λ n. quiet (inside s n w)) e
inks s bytes w (b ∷ bs) right few ink =
    let e : bytes + 1 + length bs ≡ bytes + suc (length bs) = omega arith in
    ap (λ (t : Step). read_bytes (record { state = t.state; given = [] ++ t.given }) bs) (ink_more s bytes w b right (omega (arith, few)) (All-head IsInk b bs ink))
    ∙ inks s (bytes + 1) (extended w b) bs right (omega (arith, few)) (All-tail IsInk b bs ink)
    ∙ ap (λ n. quiet (inside s n (extended_by w (b ∷ bs)))) e

put_between : (p : Place) (s : State) (byte : ℕ) → is_between p ≡ true → (byte == 99) ≡ false → s.word ≡ word.Nothing → put_at p s byte ≡ record s { place = place.Word; word = extended word.Nothing byte }
put_between place.Start s byte between ink none = rw ink (ap (λ w. record s { place = place.Word; word = extended w byte }) none)
put_between place.Margin s byte between ink none = rw ink (ap (λ w. record s { place = place.Word; word = extended w byte }) none)
put_between place.Comment s byte between ink none = absurd (false≢true between)
put_between place.Gap s byte between ink none = ap (λ w. record s { place = place.Word; word = extended w byte }) none
put_between place.Word s byte between ink none = absurd (false≢true between)

ink_first : (s : State) (byte : ℕ) → IsBetween s → s.bytes < 4294967296 → IsInk byte → read_byte s byte ≡ quiet (inside s (s.bytes + 1) (extended word.Nothing byte))
ink_first s byte is few ink =
    one_byte s byte is.right few
    ∙ one_ink (record s { bytes = s.bytes + 1 }) byte ink
    ∙ ap quiet (put_between s.place (record s { bytes = s.bytes + 1 }) byte is.between ink.no_comment is.no_word)

space_more : (s : State) (bytes : ℕ) (w : Word) → s.fault ≡ None → bytes < 4294967296 → read_byte (inside s bytes w) 32 ≡ behind s (bytes + 1) (word_at s.parse.phase s.parse s.line w)
space_more s bytes w right few = one_byte (inside s bytes w) 32 right few

-- a literal ends no statement
pushed_quiet : (why : Option Reason) (parse : Parse) (code : ℕ) → (pushed_unless why parse code).given ≡ []
pushed_quiet (Some why) parse code = refl
pushed_quiet None parse code = by (nat_le most_literals parse.literals)
  where
    by : (full : Bool) → (if full then stops parse reason.TooMany else goes_on (record parse { lits = parse.lits ++ code ∷ []; literals = parse.literals + 1 })).given ≡ []
    by true = refl
    by false = refl

literal_quiet : (code : Option ℕ) (parse : Parse) (line : ℕ) → (literal_taken code parse line).given ≡ []
literal_quiet None parse line = refl
literal_quiet (Some code) parse line = pushed_quiet (begun parse line).reason (begun parse line).parse code

pub number_step : (s : State) (bytes : List ℕ) (negative : Bool) (variable size : ℕ) → IsBetween s → IsNumber bytes negative variable size → s.bytes + size ≤ 4294967296
    → read_bytes (quiet s) (take size bytes) ≡ quiet (number_read s negative variable size)
number_step s bytes negative variable size is number few =
    let counted = number.counted in
    let rest = number.rest in
    let first = extended word.Nothing number.first in
    let after : s.bytes + 1 + length rest + 1 ≡ s.bytes + size = omega (arith, counted) in
    let taken = literal_taken (lit_code negative variable) s.parse s.line in
    ap (read_bytes (quiet s)) number.front
    ∙ ap (λ (t : Step). read_bytes (record { state = t.state; given = [] ++ t.given }) (rest ++ 32 ∷ [])) (ink_first s number.first is (omega (arith, few, counted)) number.first_ink)
    ∙ read_bytes-append (quiet (inside s (s.bytes + 1) first)) rest (32 ∷ [])
    ∙ ap (λ (t : Step). read_bytes t (32 ∷ [])) (inks s (s.bytes + 1) first rest is.right (omega (arith, few, counted)) number.ink)
    ∙ ap (λ (t : Step). let step : Step = record { state = t.state; given = [] ++ t.given } in step) (space_more s (s.bytes + 1 + length rest) (extended_by first rest) is.right (omega (arith, few, counted)))
    ∙ ap (λ w. behind s (s.bytes + 1 + length rest + 1) (word_at s.parse.phase s.parse s.line w)) number.value
    ∙ ap (λ p. behind s (s.bytes + 1 + length rest + 1) (word_at p s.parse s.line (word.Number negative variable))) is.body
    ∙ ap (λ n. behind s n taken) after
    ∙ ap (λ (g : List Numbered). let step : Step = record { state = number_read s negative variable size; given = g } in step) (literal_quiet (lit_code negative variable) s.parse s.line)

-- a `0` leaves the header as it is
begun_phase : (opened : Open) (parse : Parse) (line : ℕ) → (begun_at opened parse line).parse.phase ≡ parse.phase
begun_phase open_as.Nothing parse line = by (nat_le most_clauses parse.clauses)
  where
    by : (full : Bool) → (if full then stops parse reason.TooMany else goes_on (record parse { opened = open_as.Clause; start = line; clauses = parse.clauses + 1 })).parse.phase ≡ parse.phase
    by true = refl
    by false = refl
begun_phase open_as.Clause parse line = refl
begun_phase open_as.Cube parse line = refl

closed_phase : (why : Option Reason) (parse : Parse) → (closed_unless why parse).parse.phase ≡ parse.phase
closed_phase (Some why) parse = refl
closed_phase None parse = refl

zero_phase : (parse : Parse) (line : ℕ) → (zero_taken parse line).parse.phase ≡ parse.phase
zero_phase parse line = closed_phase (begun parse line).reason (begun parse line).parse ∙ begun_phase parse.opened parse line

line_next : (s : State) (parse : Parse) (bytes : ℕ) (why : Option Reason) → parse.phase ≡ phase.Body →
    line_ended_unless (fault_on s.line why) (record s { parse = parse; bytes = bytes; place = place.Gap; word = word.Nothing; fault = fault_on s.line why })
    ≡ next_line (fault_on s.line why) (record s { parse = parse; bytes = bytes; place = place.Gap; word = word.Nothing; fault = fault_on s.line why })
line_next s parse bytes (Some why) body = refl
line_next s parse bytes None body =
    ap (λ p. let taken = line_at p parse in record s { parse = taken.parse; bytes = bytes; place = place.Start; word = word.Nothing; line = s.line + 1; fault = fault_on s.line taken.reason }) body

-- the end of a statement and of its line
pub end_step : (s : State) (bytes : List ℕ) → IsBetween s → IsEnd bytes → s.bytes + 2 ≤ 4294967296
    → read_bytes (quiet s) (take 2 bytes) ≡ record { state = end_read s; given = (zero_taken s.parse s.line).given }
end_step s [] is end few = absurd (let h = end.within in omega (arith, h))
end_step s (b ∷ []) is end few = absurd (let h = end.within in omega (arith, h))
end_step s (b ∷ d ∷ bytes) is end few =
    let zero_ink : IsInk 48 = record { no_blank = refl; no_feed = refl; no_comment = refl } in
    let more : s.bytes + 1 + 1 ≡ s.bytes + 2 = omega arith in
    ap (λ x. read_bytes (quiet s) (x ∷ d ∷ [])) end.zero
    ∙ ap (λ x. read_bytes (quiet s) (48 ∷ x ∷ [])) end.feed
    ∙ ap (λ (t : Step). read_bytes (record { state = t.state; given = [] ++ t.given }) (10 ∷ [])) (ink_first s 48 is (omega (arith, few)) zero_ink)
    ∙ ap (λ (t : Step). let step : Step = record { state = t.state; given = [] ++ t.given } in step) (one_byte (inside s (s.bytes + 1) word.Zero) 10 is.right (omega (arith, few)))
    ∙ ap (λ p. fed (s.bytes + 1 + 1) (word_at p s.parse s.line word.Zero)) is.body
    ∙ ap (λ n. fed n (zero_taken s.parse s.line)) more
    ∙ ap (λ (t : State). let step : Step = record { state = t; given = (zero_taken s.parse s.line).given } in step)
    (line_next s (zero_taken s.parse s.line).parse (s.bytes + 2) (zero_taken s.parse s.line).reason (zero_phase s.parse s.line ∙ is.body))
  where
    fed : ℕ → Taken → Step
    fed bytes taken = record {
      state = line_ended_unless (behind s bytes taken).state.fault (behind s bytes taken).state;
      given = taken.given;
    }

-- behind a literal or the end of a statement the next word may begin, where nothing is wrong
pushed_phase : (why : Option Reason) (parse : Parse) (code : ℕ) → (pushed_unless why parse code).parse.phase ≡ parse.phase
pushed_phase (Some why) parse code = refl
pushed_phase None parse code = by (nat_le most_literals parse.literals)
  where
    by : (full : Bool) → (if full then stops parse reason.TooMany else goes_on (record parse { lits = parse.lits ++ code ∷ []; literals = parse.literals + 1 })).parse.phase ≡ parse.phase
    by true = refl
    by false = refl

literal_phase : (code : Option ℕ) (parse : Parse) (line : ℕ) → (literal_taken code parse line).parse.phase ≡ parse.phase
literal_phase None parse line = refl
literal_phase (Some code) parse line = pushed_phase (begun parse line).reason (begun parse line).parse code ∙ begun_phase parse.opened parse line

pub number_between : (s : State) (negative : Bool) (variable size : ℕ) → IsBetween s → (number_read s negative variable size).fault ≡ None → IsBetween (number_read s negative variable size)
number_between s negative variable size is right = record {
  right = right;
  body = literal_phase (lit_code negative variable) s.parse s.line ∙ is.body;
  between = refl;
  no_word = refl;
}

next_between : (fault : Option Fault) (s : State) → (next_line fault s).fault ≡ None → s.parse.phase ≡ phase.Body → is_between s.place ≡ true → s.word ≡ word.Nothing → IsBetween (next_line fault s)
next_between (Some fault) s right body between no_word = record { right = right; body = body; between = between; no_word = no_word }
next_between None s right body between no_word = record { right = right; body = body; between = refl; no_word = no_word }

pub end_between : (s : State) → IsBetween s → (end_read s).fault ≡ None → IsBetween (end_read s)
end_between s is right =
    let taken = zero_taken s.parse s.line in
    next_between (fault_on s.line taken.reason) (record s { parse = taken.parse; bytes = s.bytes + 2; place = place.Gap; word = word.Nothing; fault = fault_on s.line taken.reason }) right (zero_phase s.parse s.line ∙ is.body) refl refl

next_bytes : (fault : Option Fault) (s : State) → (next_line fault s).bytes ≡ s.bytes
next_bytes (Some fault) s = refl
next_bytes None s = refl

pub end_bytes : (s : State) → (end_read s).bytes ≡ s.bytes + 2
end_bytes s =
    let taken = zero_taken s.parse s.line in
    next_bytes (fault_on s.line taken.reason) (record s { parse = taken.parse; bytes = s.bytes + 2; place = place.Gap; word = word.Nothing; fault = fault_on s.line taken.reason })

pub none_by : (fault : Option Fault) → false ≡ is_some fault → fault ≡ None
none_by None is = refl
none_by (Some fault) is = absurd (false≢true is)

-- one byte more, and then more of a piece
pub byte_then : (old now mid : State) (piece : List ℕ) (at : ℕ) → at < length piece → now ≡ (read_bytes (quiet old) (take at piece)).state → mid ≡ (read_byte now (get_or piece at 0)).state
    → mid ≡ (read_bytes (quiet old) (take (at + 1) piece)).state
byte_then old now mid piece at within was made = byte_state mid now (get_or piece at 0) (read_bytes (quiet old) (take at piece)) (read_bytes (quiet old) (take (at + 1) piece)) made was (one_more (quiet old) piece at within)

pub byte_then_given : (old now : State) (given held new : List Numbered) (piece : List ℕ) (at : ℕ) → at < length piece → now ≡ (read_bytes (quiet old) (take at piece)).state
    → held ≡ given ++ (read_bytes (quiet old) (take at piece)).given → new ≡ held ++ (read_byte now (get_or piece at 0)).given
    → new ≡ given ++ (read_bytes (quiet old) (take (at + 1) piece)).given
byte_then_given old now given held new piece at within was has made =
    byte_given given held new now (get_or piece at 0) (read_bytes (quiet old) (take at piece)) (read_bytes (quiet old) (take (at + 1) piece)) made has was (one_more (quiet old) piece at within)

-- some bytes more of a piece
pub more_state : (old now new : State) (piece front : List ℕ) (at count : ℕ) → now ≡ (read_bytes (quiet old) (take at piece)).state → front ≡ drop at piece → new ≡ (read_bytes (quiet now) (take count front)).state
    → new ≡ (read_bytes (quiet old) (take (at + count) piece)).state
more_state old now new piece front at count was is made =
    made
    ∙ ap (λ (bs : List ℕ). (read_bytes (quiet now) (take count bs)).state) is
    ∙ ap (λ (t : State). (read_bytes (quiet t) (take count (drop at piece))).state) was
    ∙ sym (state_after (read_bytes (quiet old) (take at piece)) (take count (drop at piece)))
    ∙ ap (λ (t : Step). t.state) (sym (read_bytes-append (quiet old) (take at piece) (take count (drop at piece))))
    ∙ ap (λ (bs : List ℕ). (read_bytes (quiet old) bs).state) (sym (take-add at count piece))

pub more_given : (old now : State) (given held new : List Numbered) (piece front : List ℕ) (at count : ℕ) → now ≡ (read_bytes (quiet old) (take at piece)).state → held ≡ given ++ (read_bytes (quiet old) (take at piece)).given
    → front ≡ drop at piece → new ≡ held ++ (read_bytes (quiet now) (take count front)).given
    → new ≡ given ++ (read_bytes (quiet old) (take (at + count) piece)).given
more_given old now given held new piece front at count was has is made =
    let first = read_bytes (quiet old) (take at piece) in
    let later = take count (drop at piece) in
    made
    ∙ ap (λ (bs : List ℕ). held ++ (read_bytes (quiet now) (take count bs)).given) is
    ∙ ap (λ (t : State). held ++ (read_bytes (quiet t) later).given) was
    ∙ ap (λ (g : List Numbered). g ++ (read_bytes (quiet first.state) later).given) has
    ∙ append_assoc given first.given (read_bytes (quiet first.state) later).given
    ∙ ap (λ (g : List Numbered). given ++ g) (sym (given_after first later))
    ∙ ap (λ (t : Step). given ++ t.given) (sym (read_bytes-append (quiet old) (take at piece) later))
    ∙ ap (λ (bs : List ℕ). given ++ (read_bytes (quiet old) bs).given) (sym (take-add at count piece))

pub is_digit : (byte : ℕ) → 48 ≤ byte → byte ≤ 57 → is_ascii_digit byte ≡ true
is_digit byte low high = grind (arith, nat_tests)

pub digit_bound : (byte : ℕ) → is_ascii_digit byte ≡ true → byte ≤ 57
digit_bound byte digit = grind (arith, nat_tests)

pub first_above : (bytes : List ℕ) (value count : ℕ) → AreDigits bytes value count → (count ≡ 0 → ⊥) → count < length bytes → (get_or bytes 0 0 ≡ 48 → ⊥) → 48 < slice_index bytes 0
first_above [] value count are some within other = absurd (omega (arith, within))
first_above (b ∷ bs) value zero are some within other = absurd (some refl)
first_above (b ∷ bs) value (suc k) are some within other = above b (All-head (λ byte. IsTrue (is_ascii_digit byte)) b (take k bs) are.each) other
  where
    low : (byte : ℕ) → is_ascii_digit byte ≡ true → 48 ≤ byte
    low byte digit = grind (arith, nat_tests)

    above : (byte : ℕ) → is_ascii_digit byte ≡ true → (byte ≡ 48 → ⊥) → 48 < byte
    above byte digit other = let h = low byte digit in omega (arith, h, other)

-- numbers of few digits
pub seven_digits : (value count : ℕ) → value < 10 ^ count → count < 7 → value ≤ 999999
seven_digits value count below few =
    let six : count ≤ 6 = omega (arith, few) in
    let some : 0 < 10 = omega arith in
    let most : 10 ^ count ≤ 10 ^ 6 = pow-le-pow_right some six in omega (arith, below, most)

pub one_digit_more : (value count digit : ℕ) → value < 10 ^ count → digit ≤ 57 → value * 10 + (digit - 48) < 10 ^ (count + 1)
one_digit_more value count digit below low =
    let next : count + 1 ≡ suc count = omega arith in
    let power : 10 ^ (count + 1) ≡ 10 ^ count * 10 = ap (λ n. 10 ^ n) next ∙ pow-suc 10 count in
    omega (arith, below, low, power)
