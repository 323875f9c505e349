-- What the states of a reader say of the text.
use Rattle.std.proofs.Common.{◌≡◌, ◌∙◌, ℕ, zero, suc, ◌+◌, ◌-◌, ◌<◌, ◌≤◌, List, [], ◌∷◌, ◌++◌, length, take, map, get_or, Bool, true, false, cond, refl, ap, sym, subst, inl, inr, arith, append-nil}
use Rattle.std.specs.Prelude.{◌⊎◌, ◌&&◌, not, nat_lt, nat_le, Option, Some, None, count_by, slice_index}
use Rattle.std.specs.Option.{option_or}
use Rattle.std.proofs.lemmas.Bool.{cases_lt, lt-ltb}
use Rattle.std.proofs.lemmas.Bool.Decides.{nat_tests}
use Rattle.std.proofs.lemmas.List.{take_all, take_more}
use Rattle.icnf_text.specs.declared.statements.Numbered.{Numbered}
use Rattle.icnf_text.specs.declared.faults.Reason.{Reason}
use Rattle.icnf_text.specs.declared.faults.Reason.TheVariants as reason
use Rattle.icnf_text.specs.declared.faults.Fault.{Fault}
use Rattle.icnf_text.specs.declared.words.Word.{Word}
use Rattle.icnf_text.specs.declared.words.Word.TheVariants as word
use Rattle.icnf_text.specs.declared.places.Place.{Place}
use Rattle.icnf_text.specs.declared.places.Place.TheVariants as place
use Rattle.icnf_text.specs.Layout.{is_blank, is_line_feed, Token, tokens_of, line_behind, last_line}
use Rattle.icnf_text.specs.Judgement.{Header, header_of, header, within, is_too_long, statements_under, wrong_under, wrong_end, fault_on, statements, wrong}
use Rattle.icnf_text.specs.Machine.{State, Step, Parse, Taken, quiet, start, word_at, line_at, word_ended, word_ended_at, line_ended_unless, margin, put_at, with_byte, read_unless, read_byte, and_then, read_bytes, finished, finished_unless, ended_unless, last_at}
use Rattle.icnf_text.proofs.Lines.{piece, last_row, rows, token_here, last_part-at, last_part-more, tokens_of-ended, tokens_of-line_feed, tokens_of-blank, tokens_of-more, line_number}
use Rattle.icnf_text.proofs.LinePlaces.{IsPlace, put_is, put_keeps, blank_is, gap_is, no_token, one_token}
use Rattle.icnf_text.proofs.Grammar.{count_by-push}
use Rattle.icnf_text.proofs.HeaderStates.{Knows, Comes, knows_right, word_comes, line_comes, line_given, knows_nothing, end_is, header_stays}

-- a text of at most as many bytes as there may be
short_long : (text : List ℕ) → length text ≤ 4294967296 → is_too_long text ≡ false
short_long text h = by (length text) h
  where
    by : (n : ℕ) → n ≤ 4294967296 → nat_lt 4294967296 n ≡ false
    by n h = grind (arith, nat_tests)

short_header : (text : List ℕ) (e : Bool) → length text ≤ 4294967296 → header text e ≡ header_of (line_behind text) (tokens_of text e)
short_header text e h =
    ap (λ (t : List ℕ). header_of (line_behind t) (tokens_of t (e && not (is_too_long text)))) (take_all 4294967296 text h)
    ∙ ap (λ b. header_of (line_behind text) (tokens_of text (e && not b))) (short_long text h) ∙ ap (λ b. header_of (line_behind text) (tokens_of text b)) (and_true e)
  where
    and_true : (b : Bool) → (b && true) ≡ b
    and_true true = refl
    and_true false = refl

or_none : (o : Option Fault) → option_or o None ≡ o
or_none None = refl
or_none (Some f) = refl

pub short_statements : (text : List ℕ) (e : Bool) → length text ≤ 4294967296 → statements text e ≡ statements_under (header_of (line_behind text) (tokens_of text e))
unfolding statements
short_statements text e h = ap statements_under (short_header text e h)

pub short_wrong : (text : List ℕ) → length text ≤ 4294967296 → wrong text false ≡ wrong_under (header_of (line_behind text) (tokens_of text false))
unfolding wrong
short_wrong text h =
    ap (λ b. option_or (wrong_under (header text false)) (cond b (Some (record { line = line_behind (within text); reason = reason.TooLong })) None)) (short_long text h)
    ∙ or_none (wrong_under (header text false)) ∙ ap wrong_under (short_header text false h)

pub short_wrong_end : (text : List ℕ) → length text ≤ 4294967296 → wrong text true ≡ option_or (wrong_under (header_of (line_behind text) (tokens_of text true))) (wrong_end (last_line text) (header_of (line_behind text) (tokens_of text true)))
unfolding wrong
short_wrong_end text h =
    ap (λ b. option_or (wrong_under (header text true)) (cond b (Some (record { line = line_behind (within text); reason = reason.TooLong })) (wrong_end (last_line text) (header text true)))) (short_long text h)
    ∙ ap (λ (r : Header). option_or (wrong_under r) (wrong_end (last_line text) r)) (short_header text true h)

-- a text of more bytes is judged by those that may be there
long_text : (text : List ℕ) → 4294967296 < length text → is_too_long text ≡ true
long_text text h = lt-ltb 4294967296 (length text) h

push_length : (text : List ℕ) (b : ℕ) → length (text ++ b ∷ []) ≡ length text + 1
push_length [] b = refl
push_length (x ∷ xs) b = let h = push_length xs b in omega arith

take_front : (n : ℕ) (xs ys : List ℕ) → n ≤ length xs → take n (xs ++ ys) ≡ take n xs
take_front zero xs ys h = refl
take_front (suc n) [] ys h = absurd (omega arith)
take_front (suc n) (x ∷ xs) ys h = ap (λ (r : List ℕ). x ∷ r) (take_front n xs ys (omega arith))

within_same : (text : List ℕ) (b : ℕ) → 4294967296 ≤ length text → within (text ++ b ∷ []) ≡ within text
within_same text b h = take_front 4294967296 text (b ∷ []) h

header_same : (text : List ℕ) (b : ℕ) → 4294967296 ≤ length text → header (text ++ b ∷ []) false ≡ header text false
header_same text b h = ap (λ (t : List ℕ). header_of (line_behind t) (tokens_of t false)) (within_same text b h)

long_statements : (text : List ℕ) (b : ℕ) → 4294967296 ≤ length text → statements (text ++ b ∷ []) false ≡ statements text false
unfolding statements
long_statements text b h = ap statements_under (header_same text b h)

long_wrong : (text : List ℕ) (b : ℕ) → 4294967296 ≤ length text → wrong (text ++ b ∷ []) false ≡ option_or (wrong_under (header text false)) (Some (record { line = line_behind (within text); reason = reason.TooLong }))
unfolding wrong
long_wrong text b h =
    ap (λ c. option_or (wrong_under (header (text ++ b ∷ []) false)) (cond c (Some (record { line = line_behind (within (text ++ b ∷ [])); reason = reason.TooLong })) None))
    (long_text (text ++ b ∷ []) (let k = push_length text b in omega arith))
    ∙ ap (λ (r : Header). option_or (wrong_under r) (Some (record { line = line_behind (within (text ++ b ∷ [])); reason = reason.TooLong }))) (header_same text b h)
    ∙ ap (λ (t : List ℕ). option_or (wrong_under (header text false)) (Some (record { line = line_behind t; reason = reason.TooLong }))) (within_same text b h)

long_before : (text : List ℕ) (f : Fault) → wrong text false ≡ Some f → option_or (wrong_under (header text false)) (Some (record { line = line_behind (within text); reason = reason.TooLong })) ≡ Some f
unfolding wrong
long_before text f h = by (wrong_under (header text false)) (is_too_long text) h
  where
    by : (o : Option Fault) (c : Bool) → option_or o (cond c (Some (record { line = line_behind (within text); reason = reason.TooLong })) None) ≡ Some f → option_or o (Some (record { line = line_behind (within text); reason = reason.TooLong })) ≡ Some f
    by None true h = h
    by None false h = cc
    by (Some x) c h = h

-- the end of such a text ends no token
long_end : (text : List ℕ) → is_too_long text ≡ true → wrong text true ≡ wrong text false
unfolding wrong
long_end text h = by (is_too_long text) h
  where
    by : (c : Bool) → c ≡ true →
        option_or (wrong_under (header_of (line_behind (within text)) (tokens_of (within text) (true && not c)))) (cond c (Some (record { line = line_behind (within text); reason = reason.TooLong })) (wrong_end (last_line text) (header_of (line_behind (within text)) (tokens_of (within text) (true && not c)))))
        ≡ option_or (wrong_under (header text false)) (cond c (Some (record { line = line_behind (within text); reason = reason.TooLong })) None)
    by true h = refl
    by false h = cc

long_statements_end : (text : List ℕ) → is_too_long text ≡ true → statements text true ≡ statements text false
unfolding statements
long_statements_end text h = ap (λ c. statements_under (header_of (line_behind (within text)) (tokens_of (within text) (true && not c)))) h

-- the line on which the next byte stands
line_feed_line : (text : List ℕ) (b : ℕ) (feed : Bool) → is_line_feed b ≡ feed → line_behind (text ++ b ∷ []) ≡ line_behind text + cond feed 1 0
line_feed_line text b feed h = let k = count_by-push is_line_feed text b ∙ ap (λ c. count_by is_line_feed text + cond c 1 0) h in omega arith

on_line : (c w : Bool) (n : ℕ) (p : List ℕ) (u : Token) (us : List Token) → cond c [] (map (λ word. let t : Token = record { line = n; bytes = word } in t) (cond w (p ∷ []) [])) ≡ u ∷ us → u.line ≡ n
on_line true w n p u us h = cc
on_line false true n p u us h = let e : Token = u in let same : u ≡ record { line = n; bytes = p } = cc in ap (λ (t : Token). t.line) same
on_line false false n p u us h = cc

-- the token that stands at the end of the text is on the line behind it
here_line : (text : List ℕ) (u : Token) (us : List Token) → token_here text ≡ u ∷ us → u.line ≡ line_behind text
here_line text u us h = on_line _ _ (1 + length (rows text)) (piece (last_row text)) u us h ∙ line_number text

here_or_nothing : (text : List ℕ) (f : Fault) (m : ℕ) → line_behind text ≤ m → wrong_under (header_of (line_behind text) (tokens_of text false)) ≡ Some f →
    (wrong_under (header_of m (tokens_of text false ++ token_here text)) ≡ Some f) × (statements_under (header_of m (tokens_of text false ++ token_here text)) ≡ statements_under (header_of (line_behind text) (tokens_of text false)))
here_or_nothing text f m le is = header_stays (line_behind text) m (tokens_of text false) (token_here text) f le (here_line text) is

stays_short : (text : List ℕ) (b : ℕ) (f : Fault) (more : List Token) (k : ℕ) → length text < 4294967296 → wrong text false ≡ Some f → tokens_of (text ++ b ∷ []) false ≡ tokens_of text false ++ more → line_behind (text ++ b ∷ []) ≡ line_behind text + k →
    ((u : Token) (us : List Token) → more ≡ u ∷ us → u.line ≡ line_behind text) → (wrong (text ++ b ∷ []) false ≡ Some f) × (statements (text ++ b ∷ []) false ≡ statements text false)
stays_short text b f more k lt h is line on =
    let short : length (text ++ b ∷ []) ≤ 4294967296 = (let l = push_length text b in omega arith) in
    let was : wrong_under (header_of (line_behind text) (tokens_of text false)) ≡ Some f = sym (short_wrong text (omega arith)) ∙ h in
    let stays = header_stays (line_behind text) (line_behind text + k) (tokens_of text false) more f (omega arith) on was in
    let now : header_of (line_behind (text ++ b ∷ [])) (tokens_of (text ++ b ∷ []) false) ≡ header_of (line_behind text + k) (tokens_of text false ++ more) =
    ap (λ n. header_of n (tokens_of (text ++ b ∷ []) false)) line ∙ ap (header_of (line_behind text + k)) is in (
      short_wrong (text ++ b ∷ []) short ∙ ap wrong_under now ∙ stays.0,
      short_statements (text ++ b ∷ []) false short ∙ ap statements_under now ∙ stays.1 ∙ sym (short_statements text false (omega arith)),
    )

-- A fault stays, and no statement comes behind it.
settled : (text : List ℕ) (b : ℕ) (f : Fault) → wrong text false ≡ Some f → (wrong (text ++ b ∷ []) false ≡ Some f) × (statements (text ++ b ∷ []) false ≡ statements text false)
settled text b f h = by (cases_lt (length text) 4294967296)
  where
    short : length text < 4294967296 → (feed : Bool) → is_line_feed b ≡ feed → (blank : Bool) → is_blank b ≡ blank → (wrong (text ++ b ∷ []) false ≡ Some f) × (statements (text ++ b ∷ []) false ≡ statements text false)
    short lt true e blank e' = stays_short text b f (token_here text) 1 lt h (tokens_of-line_feed text b e) (line_feed_line text b true e) (here_line text)
    short lt false e true e' = stays_short text b f (token_here text) 0 lt h (tokens_of-blank text b e e') (line_feed_line text b false e) (here_line text)
    short lt false e false e' = stays_short text b f [] 0 lt h (tokens_of-more text b e e' ∙ sym (append-nil (tokens_of text false))) (line_feed_line text b false e) (λ u us q. cc)

    by : (length text < 4294967296) ⊎ (4294967296 ≤ length text) → (wrong (text ++ b ∷ []) false ≡ Some f) × (statements (text ++ b ∷ []) false ≡ statements text false)
    by (inl lt) = short lt (is_line_feed b) refl (is_blank b) refl
    by (inr le) = (long_wrong text b le ∙ long_before text f h, long_statements text b le)

pub record Reads (text : List ℕ) (s : State) (out : List Numbered) : Type 0 where
  pub fault : s.fault ≡ None
  pub bytes : s.bytes ≡ length text
  pub short : length text ≤ 4294967296
  pub line : s.line ≡ line_behind text
  pub place : IsPlace s.place s.word (last_row text)
  pub knows : Knows s.parse s.line (tokens_of text false) out

pub record IsStopped (text : List ℕ) (s : State) (out : List Numbered) : Type 0 where
  pub fault : Fault
  pub is : s.fault ≡ Some fault
  pub wrong_is : wrong text false ≡ Some fault
  pub given : out ≡ statements text false

abbrev pub IsAt : List ℕ → Step → Type 0
IsAt text step = Reads text step.state step.given ⊎ IsStopped text step.state step.given

reads_right : (text : List ℕ) (s : State) (out : List Numbered) → Reads text s out → (wrong text false ≡ None) × (out ≡ statements text false)
reads_right text s out r =
    let right = knows_right s.parse s.line (tokens_of text false) out r.knows in (
      short_wrong text r.short ∙ ap (λ n. wrong_under (header_of n (tokens_of text false))) (sym r.line) ∙ right.0,
      right.1 ∙ ap (λ n. statements_under (header_of n (tokens_of text false))) r.line ∙ sym (short_statements text false r.short),
    )

-- after one more byte
abbrev After : List ℕ → List Numbered → Step → Type 0
After text out next = Reads text next.state (out ++ next.given) ⊎ IsStopped text next.state (out ++ next.given)

pub stopped_byte : (s : State) (b : ℕ) (f : Fault) → s.fault ≡ Some f → read_byte s b ≡ quiet s
unfolding read_byte
stopped_byte s b f h = ap (λ (o : Option Fault). read_unless o s b) h

next_byte : (s : State) (b : ℕ) → s.fault ≡ None → read_byte s b ≡ read_unless None s b
unfolding read_byte
next_byte s b h = ap (λ (o : Option Fault). read_unless o s b) h

after_stop : (text : List ℕ) (s : State) (out : List Numbered) (b : ℕ) → IsStopped text s out → After (text ++ b ∷ []) out (read_byte s b)
after_stop text s out b h =
    let stays = settled text b h.fault h.wrong_is in
    subst (After (text ++ b ∷ []) out) (sym (stopped_byte s b h.fault h.is))
    (inr (record { fault = h.fault; is = h.is; wrong_is = stays.0; given = append-nil out ∙ h.given ∙ sym stays.1 }))

-- one byte too many
too_long : (text : List ℕ) (s : State) (out : List Numbered) (b : ℕ) → Reads text s out → 4294967296 ≤ s.bytes → After (text ++ b ∷ []) out (quiet (record s { fault = Some (record { line = s.line; reason = reason.TooLong }) }))
too_long text s out b r many =
    let le : 4294967296 ≤ length text = (let k = r.bytes in omega arith) in
    let right = knows_right s.parse s.line (tokens_of text false) out r.knows in
    let none : wrong_under (header text false) ≡ None = ap wrong_under (short_header text false r.short) ∙ ap (λ n. wrong_under (header_of n (tokens_of text false))) (sym r.line) ∙ right.0 in
    inr (record {
      fault = record { line = s.line; reason = reason.TooLong };
      is = refl;
      wrong_is = long_wrong text b le ∙ ap (λ (o : Option Fault). option_or o (Some (record { line = line_behind (within text); reason = reason.TooLong }))) none
          ∙ ap (λ n. Some (record { line = n; reason = reason.TooLong })) (ap line_behind (take_all 4294967296 text r.short) ∙ sym r.line);
      given = append-nil out ∙ (reads_right text s out r).1 ∙ sym (long_statements text b le);
    })

abbrev EndsAt : Place → List ℕ → Type 0
EndsAt place.Start line = line ≡ []
EndsAt place.Margin line = 0 < length line
EndsAt place.Comment line = 0 < length line
EndsAt place.Gap line = 0 < length line
EndsAt place.Word line = 0 < length line

-- what is known after the end of a word
abbrev with_here : List ℕ → List Token
with_here text = tokens_of text false ++ token_here text

record Ended (text : List ℕ) (s : State) (e : Step) (out : List Numbered) : Type 0 where
  bytes : e.state.bytes ≡ s.bytes
  line : e.state.line ≡ s.line
  word_is : e.state.word ≡ word.Nothing
  goes : e.state.fault ≡ None → Knows e.state.parse s.line (with_here text) (out ++ e.given)
  stops : (f : Fault) → e.state.fault ≡ Some f → (wrong_under (header_of s.line (with_here text)) ≡ Some f) × (out ++ e.given ≡ statements_under (header_of s.line (with_here text)))
  place_is : (b : ℕ) → is_blank b ≡ true → IsPlace (margin e.state.place) word.Nothing (last_row text ++ b ∷ [])
  ends_at : EndsAt e.state.place (last_row text)

no_word_ends : (p : Place) (text : List ℕ) (s : State) (out : List Numbered) → s.place ≡ p → (p ≡ place.Word → ⊥) → s.fault ≡ None → s.word ≡ word.Nothing → EndsAt p (last_row text) → IsPlace p s.word (last_row text) → Knows s.parse s.line (tokens_of text false) out → Ended text s (quiet s) out
no_word_ends p text s out e other none nothing at is knows =
    let here : token_here text ≡ [] = no_token p s.word (last_row text) (1 + length (rows text)) is other in record {
      bytes = refl;
      line = refl;
      word_is = nothing;
      goes = λ _. subst (λ (ts : List Token). Knows s.parse s.line ts (out ++ [])) (sym (ap (λ (h : List Token). tokens_of text false ++ h) here ∙ append-nil (tokens_of text false))) (subst (Knows s.parse s.line (tokens_of text false)) (sym (append-nil out)) knows);
      stops = λ f q. cc;
      place_is = λ b h. subst (λ (q : Place). IsPlace (margin q) word.Nothing (last_row text ++ b ∷ [])) (sym e) (subst (λ (w : Word). IsPlace (margin p) w (last_row text ++ b ∷ [])) nothing (blank_is p s.word (last_row text) b h is other));
      ends_at = subst (λ (q : Place). EndsAt q (last_row text)) (sym e) at;
    }

fault_parts : (line : ℕ) (why : Option Reason) (f : Fault) → fault_on line why ≡ Some f → (r : Reason) × (why ≡ Some r) × (record { line = line; reason = r } ≡ f)
fault_parts line None f h = cc
fault_parts line (Some r) f h = (r, refl, cc)

no_fault : (line : ℕ) (why : Option Reason) → fault_on line why ≡ None → why ≡ None
no_fault line None h = refl
no_fault line (Some r) h = cc

word_ends : (p : Place) (text : List ℕ) (s : State) (out : List Numbered) → s.place ≡ p → s.fault ≡ None → s.line ≡ line_behind text → IsPlace p s.word (last_row text) → Knows s.parse s.line (tokens_of text false) out → Ended text s (word_ended_at p s) out
word_ends place.Start text s out e none line is knows = no_word_ends place.Start text s out e (λ q. cc) none is.1 is.0 is knows
word_ends place.Margin text s out e none line is knows = no_word_ends place.Margin text s out e (λ q. cc) none is.3 is.0 is knows
word_ends place.Comment text s out e none line is knows = no_word_ends place.Comment text s out e (λ q. cc) none is.2 is.0 is knows
word_ends place.Gap text s out e none line is knows = no_word_ends place.Gap text s out e (λ q. cc) none is.4 is.0 is knows
word_ends place.Word text s out e none line is knows =
    let taken : Taken = word_at s.parse.phase s.parse s.line s.word in
    let here : token_here text ≡ record { line = s.line; bytes = piece (last_row text) } ∷ [] =
    one_token s.word (last_row text) (1 + length (rows text)) is ∙ ap (λ n. let t : Token = record { line = n; bytes = piece (last_row text) } in t ∷ []) (line_number text ∙ sym line) in
    let comes : Comes taken s.line s.line (with_here text) out =
    subst (λ (h : List Token). Comes taken s.line s.line (tokens_of text false ++ h) out) (sym here) (word_comes s.parse s.line (tokens_of text false) out s.word (piece (last_row text)) is.3 is.1 knows) in record {
      bytes = refl;
      line = refl;
      word_is = refl;
      goes = λ q. comes.goes (no_fault s.line taken.reason q);
      stops = λ f q. let parts = fault_parts s.line taken.reason f q in subst (λ (g : Fault). (wrong_under (header_of s.line (with_here text)) ≡ Some g) × (out ++ taken.given ≡ statements_under (header_of s.line (with_here text)))) parts.2 (comes.stays parts.0 parts.1);
      place_is = λ b h. gap_is s.word (last_row text) b h is;
      ends_at = is.0;
    }

some_or_none : (o : Option Fault) → (o ≡ None) ⊎ ((f : Fault) × (o ≡ Some f))
some_or_none None = inl refl
some_or_none (Some f) = inr (f, refl)

-- a text with one byte more that has not too many
record Longer (text : List ℕ) (b : ℕ) (s : State) (out : List Numbered) : Type 0 where
  short : length (text ++ b ∷ []) ≤ 4294967296
  bytes : s.bytes ≡ length (text ++ b ∷ [])
  line : s.line ≡ line_behind text

after_blank : (text : List ℕ) (b : ℕ) (s : State) (e : Step) (out : List Numbered) → Longer text b s out → Ended text s e out → is_line_feed b ≡ false → is_blank b ≡ true → After (text ++ b ∷ []) out (record e { state = record e.state { place = margin e.state.place } })
after_blank text b s e out more end no_feed blank = by (some_or_none e.state.fault)
  where
    tokens : tokens_of (text ++ b ∷ []) false ≡ with_here text
    tokens = tokens_of-blank text b no_feed blank

    line : line_behind (text ++ b ∷ []) ≡ s.line
    line = line_feed_line text b false no_feed ∙ plus_zero (line_behind text) ∙ sym more.line
      where
        plus_zero : (k : ℕ) → k + 0 ≡ k
        plus_zero k = omega arith

    headers : header_of (line_behind (text ++ b ∷ [])) (tokens_of (text ++ b ∷ []) false) ≡ header_of s.line (with_here text)
    headers = ap (λ n. header_of n (tokens_of (text ++ b ∷ []) false)) line ∙ ap (header_of s.line) tokens

    by : (e.state.fault ≡ None) ⊎ ((f : Fault) × (e.state.fault ≡ Some f)) → After (text ++ b ∷ []) out (record e { state = record e.state { place = margin e.state.place } })
    by (inl none) = inl (record {
      fault = none;
      bytes = end.bytes ∙ more.bytes;
      short = more.short;
      line = end.line ∙ sym line;
      place = subst (λ (w : Word). IsPlace (margin e.state.place) w (last_row (text ++ b ∷ []))) (sym end.word_is) (subst (IsPlace (margin e.state.place) word.Nothing) (sym (last_part-more is_line_feed text b no_feed)) (end.place_is b blank));
      knows = subst (λ n. Knows e.state.parse n (tokens_of (text ++ b ∷ []) false) (out ++ e.given)) (sym end.line) (subst (λ (ts : List Token). Knows e.state.parse s.line ts (out ++ e.given)) (sym tokens) (end.goes none));
    })
    by (inr some) = let stops = end.stops some.0 some.1 in inr (record {
      fault = some.0;
      is = some.1;
      wrong_is = short_wrong (text ++ b ∷ []) more.short ∙ ap wrong_under headers ∙ stops.0;
      given = stops.1 ∙ sym (ap statements_under headers) ∙ sym (short_statements (text ++ b ∷ []) false more.short);
    })

after_more : (text : List ℕ) (b : ℕ) (s : State) (out : List Numbered) → Longer text b s out → s.fault ≡ None → IsPlace s.place s.word (last_row text) → Knows s.parse s.line (tokens_of text false) out → is_line_feed b ≡ false → is_blank b ≡ false →
    After (text ++ b ∷ []) out (quiet (put_at s.place s b))
after_more text b s out more none is knows no_feed no_blank =
    let keeps = put_keeps s.place s b in
    let tokens = tokens_of-more text b no_feed no_blank in
    inl (record {
      fault = keeps.3 ∙ none;
      bytes = keeps.1 ∙ more.bytes;
      short = more.short;
      line = keeps.2 ∙ more.line ∙ sym (line_feed_line text b false no_feed ∙ plus_zero (line_behind text));
      place = subst (IsPlace (put_at s.place s b).place (put_at s.place s b).word) (sym (last_part-more is_line_feed text b no_feed)) (put_is s.place s (last_row text) b refl no_blank is);
      knows = subst (λ (p : Parse). Knows p (put_at s.place s b).line (tokens_of (text ++ b ∷ []) false) (out ++ [])) (sym keeps.0)
          (subst (λ n. Knows s.parse n (tokens_of (text ++ b ∷ []) false) (out ++ [])) (sym keeps.2)
          (subst (λ (ts : List Token). Knows s.parse s.line ts (out ++ [])) (sym tokens) (subst (Knows s.parse s.line (tokens_of text false)) (sym (append-nil out)) knows)));
    })
  where
    plus_zero : (k : ℕ) → k + 0 ≡ k
    plus_zero k = omega arith

after_feed : (text : List ℕ) (b : ℕ) (s : State) (e : Step) (out : List Numbered) → Longer text b s out → Ended text s e out → is_line_feed b ≡ true → After (text ++ b ∷ []) out (record e { state = line_ended_unless e.state.fault e.state })
after_feed text b s e out more end feed = by (some_or_none e.state.fault)
  where
    tokens : tokens_of (text ++ b ∷ []) false ≡ with_here text
    tokens = tokens_of-line_feed text b feed

    line : line_behind (text ++ b ∷ []) ≡ s.line + 1
    line = line_feed_line text b true feed ∙ ap (λ n. n + 1) (sym more.line)

    headers : header_of (line_behind (text ++ b ∷ [])) (tokens_of (text ++ b ∷ []) false) ≡ header_of (s.line + 1) (with_here text)
    headers = ap (λ n. header_of n (tokens_of (text ++ b ∷ []) false)) line ∙ ap (header_of (s.line + 1)) tokens

    stopped : (t : State) (f : Fault) → t.fault ≡ Some f → wrong_under (header_of (s.line + 1) (with_here text)) ≡ Some f → out ++ e.given ≡ statements_under (header_of (s.line + 1) (with_here text)) → IsStopped (text ++ b ∷ []) t (out ++ e.given)
    stopped t f is under given = record {
      fault = f;
      is = is;
      wrong_is = short_wrong (text ++ b ∷ []) more.short ∙ ap wrong_under headers ∙ under;
      given = given ∙ sym (ap statements_under headers) ∙ sym (short_statements (text ++ b ∷ []) false more.short);
    }

    later : (f : Fault) → wrong_under (header_of s.line (with_here text)) ≡ Some f → (wrong_under (header_of (s.line + 1) (with_here text)) ≡ Some f) × (statements_under (header_of (s.line + 1) (with_here text)) ≡ statements_under (header_of s.line (with_here text)))
    later f h = subst (λ (ts : List Token). (wrong_under (header_of (s.line + 1) ts) ≡ Some f) × (statements_under (header_of (s.line + 1) ts) ≡ statements_under (header_of s.line (with_here text)))) (append-nil (with_here text))
        (header_stays s.line (s.line + 1) (with_here text) [] f (omega arith) (λ u us q. cc) h)

    given_is : (taken : Taken) → taken.given ≡ [] → (out ++ e.given) ++ taken.given ≡ out ++ e.given
    given_is taken none = ap (λ (g : List Numbered). (out ++ e.given) ++ g) none ∙ append-nil (out ++ e.given)

    lined : (taken : Taken) (why : Option Reason) → taken.reason ≡ why → taken.given ≡ [] → Comes taken s.line (s.line + 1) (with_here text) (out ++ e.given) →
        After (text ++ b ∷ []) out (record e { state = record e.state { parse = taken.parse; place = place.Start; line = e.state.line + 1; fault = fault_on e.state.line taken.reason } })
    lined taken None is none comes = inl (record {
      fault = ap (fault_on e.state.line) is;
      bytes = end.bytes ∙ more.bytes;
      short = more.short;
      line = ap (λ n. n + 1) end.line ∙ sym line;
      place = (last_part-at is_line_feed text b feed, end.word_is);
      knows = subst (λ n. Knows taken.parse n (tokens_of (text ++ b ∷ []) false) (out ++ e.given)) (ap (λ n. n + 1) (sym end.line))
          (subst (λ (ts : List Token). Knows taken.parse (s.line + 1) ts (out ++ e.given)) (sym tokens) (subst (Knows taken.parse (s.line + 1) (with_here text)) (given_is taken none) (comes.goes is)));
    })
    lined taken (Some r) is none comes =
        let stays = comes.stays r is in
        inr (stopped (record e.state { parse = taken.parse; place = place.Start; line = e.state.line + 1; fault = fault_on e.state.line taken.reason }) (record { line = s.line; reason = r })
        (ap (fault_on e.state.line) is ∙ ap (λ n. Some (record { line = n; reason = r })) end.line) stays.0 (sym (given_is taken none) ∙ stays.1))

    by : (e.state.fault ≡ None) ⊎ ((f : Fault) × (e.state.fault ≡ Some f)) → After (text ++ b ∷ []) out (record e { state = line_ended_unless e.state.fault e.state })
    by (inl none) =
        subst (λ (o : Option Fault). After (text ++ b ∷ []) out (record e { state = line_ended_unless o e.state })) (sym none)
        (lined (line_at e.state.parse.phase e.state.parse) (line_at e.state.parse.phase e.state.parse).reason refl (line_given e.state.parse.phase e.state.parse) (line_comes e.state.parse s.line (with_here text) (out ++ e.given) (end.goes none)))
    by (inr some) =
        let stops = end.stops some.0 some.1 in let now = later some.0 stops.0 in
        subst (λ (o : Option Fault). After (text ++ b ∷ []) out (record e { state = line_ended_unless o e.state })) (sym some.1)
        (inr (stopped e.state some.0 some.1 now.0 (stops.1 ∙ sym now.1)))

byte_at : (text : List ℕ) (step : Step) (b : ℕ) → IsAt text step → IsAt (text ++ b ∷ []) (and_then step b)
byte_at text step b (inl r) = subst (After (text ++ b ∷ []) step.given) (sym (next_byte step.state b r.fault)) (by (nat_le 4294967296 step.state.bytes) refl)
  where
    many : (n : ℕ) → nat_le 4294967296 n ≡ true → 4294967296 ≤ n
    many n h = grind (arith, nat_tests)

    few : (n : ℕ) → nat_le 4294967296 n ≡ false → n < 4294967296
    few n h = grind (arith, nat_tests)

    s : State
    s = record step.state { bytes = step.state.bytes + 1 }

    more : step.state.bytes < 4294967296 → Longer text b s step.given
    more lt = record {
      short = (let k = push_length text b in let l = r.bytes in omega arith);
      bytes = (let k = push_length text b in let l = r.bytes in omega arith);
      line = r.line;
    }

    kind : step.state.bytes < 4294967296 → (feed blank : Bool) → is_line_feed b ≡ feed → is_blank b ≡ blank →
        After (text ++ b ∷ []) step.given (cond feed (let e = word_ended s in record e { state = line_ended_unless e.state.fault e.state }) (cond blank (let e = word_ended s in record e { state = record e.state { place = margin e.state.place } }) (quiet (put_at s.place s b))))
    kind lt true blank e e' = after_feed text b s (word_ended s) step.given (more lt) (word_ends s.place text s step.given refl r.fault r.line r.place r.knows) e
    kind lt false true e e' = after_blank text b s (word_ended s) step.given (more lt) (word_ends s.place text s step.given refl r.fault r.line r.place r.knows) e e'
    kind lt false false e e' = after_more text b s step.given (more lt) r.fault r.place r.knows e e'

    by : (c : Bool) → nat_le 4294967296 step.state.bytes ≡ c → After (text ++ b ∷ []) step.given (cond c (quiet (record step.state { fault = Some (record { line = step.state.line; reason = reason.TooLong }) })) (with_byte s b))
    by true h = too_long text step.state step.given b r (many step.state.bytes h)
    by false h = kind (few step.state.bytes h) (is_line_feed b) (is_blank b) refl refl
byte_at text step b (inr h) = after_stop text step.state step.given b h

abbrev pub run : List ℕ → Step
run text = read_bytes (quiet start) text

pub is_at : (text : List ℕ) → IsAt text (run text)
is_at text = subst (λ (t : List ℕ). IsAt t (run t)) (take_all (length text) text (omega arith)) (front (length text) (omega arith))
  where
    read_push : (step : Step) (xs : List ℕ) (b : ℕ) → read_bytes step (xs ++ b ∷ []) ≡ and_then (read_bytes step xs) b
    read_push step [] b = refl
    read_push step (x ∷ xs) b = read_push (and_then step x) xs b

    front : (i : ℕ) → i ≤ length text → IsAt (take i text) (run (take i text))
    front zero h = inl (record { fault = refl; bytes = refl; short = omega arith; line = refl; place = (refl, refl); knows = knows_nothing })
    front (suc i) h =
        let next : suc i ≡ i + 1 = omega arith in
        let more : take (suc i) text ≡ take i text ++ get_or text i 0 ∷ [] = ap (λ k. take k text) next ∙ take_more text i 0 (omega arith) in
        subst (λ (t : List ℕ). IsAt t (run t)) (sym more)
        (subst (IsAt (take i text ++ get_or text i 0 ∷ [])) (sym (read_push (quiet start) (take i text) (get_or text i 0))) (byte_at (take i text) (run (take i text)) (get_or text i 0) (front i (omega arith))))

pub tells : (text : List ℕ) → ((run text).state.fault ≡ wrong text false) × ((run text).given ≡ statements text false)
tells text = by (run text) (is_at text)
  where
    by : (step : Step) → IsAt text step → (step.state.fault ≡ wrong text false) × (step.given ≡ statements text false)
    by step (inl r) = let right = reads_right text step.state step.given r in (r.fault ∙ sym right.0, right.1)
    by step (inr s) = (s.is ∙ sym s.wrong_is, s.given)

-- the last line
snoc_view : (xs : List ℕ) → (xs ≡ []) ⊎ ((ys : List ℕ) × (y : ℕ) × (xs ≡ ys ++ y ∷ []))
snoc_view [] = inl refl
snoc_view (x ∷ xs) = inr (by (snoc_view xs))
  where
    by : (xs ≡ []) ⊎ ((ys : List ℕ) × (y : ℕ) × (xs ≡ ys ++ y ∷ [])) → (ys : List ℕ) × (y : ℕ) × (x ∷ xs ≡ ys ++ y ∷ [])
    by (inl is) = ([], x, ap (λ (r : List ℕ). x ∷ r) is)
    by (inr h) = (x ∷ h.0, h.1, ap (λ (r : List ℕ). x ∷ r) h.2)

last_byte : (ys : List ℕ) (y : ℕ) → slice_index (ys ++ y ∷ []) (length (ys ++ y ∷ []) - 1) ≡ y
last_byte ys y = ap (slice_index (ys ++ y ∷ [])) (let k = push_length ys y in omega arith) ∙ at ys y
  where
    at : (ys : List ℕ) (y : ℕ) → slice_index (ys ++ y ∷ []) (length ys) ≡ y
    at [] y = refl
    at (x ∷ xs) y = at xs y

last_row_some : (ys : List ℕ) (y : ℕ) → is_line_feed y ≡ false → 0 < length (last_row (ys ++ y ∷ []))
last_row_some ys y h = let e = last_part-more is_line_feed ys y h in let k = push_length (last_row ys) y in omega (arith, ap length e)

last_line_is : (ys : List ℕ) (y : ℕ) (feed : Bool) → is_line_feed y ≡ feed → last_line (ys ++ y ∷ []) ≡ line_behind ys
last_line_is ys y feed h =
    ap (λ k. k + cond (is_line_feed (slice_index (ys ++ y ∷ []) (length (ys ++ y ∷ []) - 1))) 0 1) (count_by-push is_line_feed ys y ∙ ap (λ c. count_by is_line_feed ys + cond c 1 0) h)
    ∙ ap (λ c. (count_by is_line_feed ys + cond feed 1 0) + cond c 0 1) (ap is_line_feed (last_byte ys y) ∙ h) ∙ by feed (count_by is_line_feed ys)
  where
    by : (feed : Bool) (k : ℕ) → (k + cond feed 1 0) + cond feed 0 1 ≡ k + 1
    by true k = omega arith
    by false k = omega arith

last_from_some : (n : ℕ) (ys : List ℕ) (y : ℕ) (feed : Bool) → is_line_feed y ≡ feed → n ≡ line_behind (ys ++ y ∷ []) → 0 < length (last_row (ys ++ y ∷ [])) → n ≡ line_behind ys
last_from_some n ys y true h is at = absurd (let e = last_part-at is_line_feed ys y h in omega (arith, ap length e))
last_from_some n ys y false h is at = let k = line_feed_line ys y false h in omega arith

-- the number of the last line, where the next byte stands on this one
last_from : (p : Place) (n : ℕ) (ys : List ℕ) (y : ℕ) (feed : Bool) → is_line_feed y ≡ feed → n ≡ line_behind (ys ++ y ∷ []) → EndsAt p (last_row (ys ++ y ∷ [])) → last_at p n ≡ line_behind ys
last_from place.Start n ys y true h is at = by n (line_behind ys) (let k = line_feed_line ys y true h in is ∙ k) (omega arith)
  where
    by : (n m : ℕ) → n ≡ m + 1 → 0 < m → cond (nat_lt 1 n) (n - 1) n ≡ m
    by n m is some = rw (lt-ltb 1 n (omega arith)) (omega arith)
last_from place.Start n ys y false h is at = absurd (let k = last_row_some ys y h in omega (arith, ap length at))
last_from place.Margin n ys y feed h is at = last_from_some n ys y feed h is at
last_from place.Comment n ys y feed h is at = last_from_some n ys y feed h is at
last_from place.Gap n ys y feed h is at = last_from_some n ys y feed h is at
last_from place.Word n ys y feed h is at = last_from_some n ys y feed h is at

last_is : (p : Place) (text : List ℕ) (n : ℕ) → n ≡ line_behind text → EndsAt p (last_row text) → last_at p n ≡ last_line text
last_is p text n is at = by (snoc_view text)
  where
    none : (p : Place) → EndsAt p [] → last_at p 1 ≡ 1
    none place.Start at = refl
    none place.Margin at = refl
    none place.Comment at = refl
    none place.Gap at = refl
    none place.Word at = refl

    by : (text ≡ []) ⊎ ((ys : List ℕ) × (y : ℕ) × (text ≡ ys ++ y ∷ [])) → last_at p n ≡ last_line text
    by (inl empty) =
        ap (last_at p) (is ∙ ap line_behind empty) ∙ none p (subst (EndsAt p) (ap last_row empty) at) ∙ sym (ap last_line empty)
    by (inr more) =
        last_from p n more.0 more.1 (is_line_feed more.1) refl (is ∙ ap line_behind more.2) (subst (EndsAt p) (ap last_row more.2) at)
        ∙ sym (ap last_line more.2 ∙ last_line_is more.0 more.1 (is_line_feed more.1) refl)

-- after the end of the text
abbrev AtEnd : List ℕ → List Numbered → Step → Type 0
AtEnd text out end = (end.state.fault ≡ wrong text true) × (out ++ end.given ≡ statements text true)

stopped_end : (s : State) (f : Fault) → s.fault ≡ Some f → finished s ≡ quiet s
unfolding finished
stopped_end s f h = ap (λ (o : Option Fault). finished_unless o s) h

next_end : (s : State) → s.fault ≡ None → finished s ≡ finished_unless None s
unfolding finished
next_end s h = ap (λ (o : Option Fault). finished_unless o s) h

-- a fault stays at the end
pub settled_end : (text : List ℕ) (f : Fault) → wrong text false ≡ Some f → (wrong text true ≡ Some f) × (statements text true ≡ statements text false)
settled_end text f h = by (cases_lt 4294967296 (length text))
  where
    short : length text ≤ 4294967296 → (wrong text true ≡ Some f) × (statements text true ≡ statements text false)
    short le =
        let was : wrong_under (header_of (line_behind text) (tokens_of text false)) ≡ Some f = sym (short_wrong text le) ∙ h in
        let stays = here_or_nothing text f (line_behind text) (omega arith) was in (
          short_wrong_end text le ∙ ap (λ (ts : List Token). option_or (wrong_under (header_of (line_behind text) ts)) (wrong_end (last_line text) (header_of (line_behind text) ts))) (tokens_of-ended text)
              ∙ ap (λ (o : Option Fault). option_or o (wrong_end (last_line text) (header_of (line_behind text) (with_here text)))) stays.0,
          short_statements text true le ∙ ap (λ (ts : List Token). statements_under (header_of (line_behind text) ts)) (tokens_of-ended text) ∙ stays.1 ∙ sym (short_statements text false le),
        )

    by : (4294967296 < length text) ⊎ (length text ≤ 4294967296) → (wrong text true ≡ Some f) × (statements text true ≡ statements text false)
    by (inl long) = (long_end text (long_text text long) ∙ h, long_statements_end text (long_text text long))
    by (inr le) = short le

end_at_word : (text : List ℕ) (s : State) (e : Step) (out : List Numbered) → length text ≤ 4294967296 → s.line ≡ line_behind text → Ended text s e out → AtEnd text out (record e { state = ended_unless e.state.fault e.state })
end_at_word text s e out short line end = by (some_or_none e.state.fault)
  where
    headers : header_of (line_behind text) (tokens_of text true) ≡ header_of s.line (with_here text)
    headers = ap (λ n. header_of n (tokens_of text true)) (sym line) ∙ ap (header_of s.line) (tokens_of-ended text)

    wrong_then : wrong text true ≡ option_or (wrong_under (header_of s.line (with_here text))) (wrong_end (last_line text) (header_of s.line (with_here text)))
    wrong_then = short_wrong_end text short ∙ ap (λ (h : Header). option_or (wrong_under h) (wrong_end (last_line text) h)) headers

    given_then : statements text true ≡ statements_under (header_of s.line (with_here text))
    given_then = short_statements text true short ∙ ap statements_under headers

    by : (e.state.fault ≡ None) ⊎ ((f : Fault) × (e.state.fault ≡ Some f)) → AtEnd text out (record e { state = ended_unless e.state.fault e.state })
    by (inl none) =
        let knows = end.goes none in
        let right = knows_right e.state.parse s.line (with_here text) (out ++ e.given) knows in
        subst (λ (o : Option Fault). AtEnd text out (record e { state = ended_unless o e.state })) (sym none) (
          end_is e.state.parse s.line (last_at e.state.place e.state.line) (with_here text) (out ++ e.given) knows
              ∙ ap (λ n. wrong_end n (header_of s.line (with_here text))) (last_is e.state.place text e.state.line (end.line ∙ line) end.ends_at)
              ∙ sym (wrong_then ∙ ap (λ (o : Option Fault). option_or o (wrong_end (last_line text) (header_of s.line (with_here text)))) right.0),
          right.1 ∙ sym given_then,
        )
    by (inr some) =
        let stops = end.stops some.0 some.1 in
        subst (λ (o : Option Fault). AtEnd text out (record e { state = ended_unless o e.state })) (sym some.1) (
          some.1 ∙ sym (wrong_then ∙ ap (λ (o : Option Fault). option_or o (wrong_end (last_line text) (header_of s.line (with_here text)))) stops.0),
          stops.1 ∙ sym given_then,
        )

pub ends : (text : List ℕ) → ((finished (run text).state).state.fault ≡ wrong text true) × (statements text false ++ (finished (run text).state).given ≡ statements text true)
ends text = subst (λ (out : List Numbered). AtEnd text out (finished (run text).state)) (tells text).1 (by (run text) (is_at text))
  where
    by : (step : Step) → IsAt text step → AtEnd text step.given (finished step.state)
    by step (inl r) =
        subst (AtEnd text step.given) (sym (next_end step.state r.fault))
        (end_at_word text step.state (word_ended step.state) step.given r.short r.line (word_ends step.state.place text step.state step.given refl r.fault r.line r.place r.knows))
    by step (inr h) =
        let stays = settled_end text h.fault h.wrong_is in
        subst (AtEnd text step.given) (sym (stopped_end step.state h.fault h.is)) (h.is ∙ sym stays.0, append-nil step.given ∙ h.given ∙ sym stays.1)
