-- Lines and tokens of a text with one more byte.
use Rattle.std.proofs.Common.{◌≡◌, ◌∙◌, ℕ, ◌+◌, ◌-◌, ◌<◌, List, [], ◌∷◌, ◌++◌, length, take, map, Bool, true, false, cond, refl, ap, sym, arith, append_assoc, append-nil}
use Rattle.std.specs.Prelude.{nat_lt, ◌==◌, filter}
use Rattle.std.specs.List.{slice_split, onto_first}
use Rattle.std.proofs.lemmas.List.Splits.{length-slice_split}
use Rattle.std.proofs.lemmas.Bool.{lt-ltb}
use Rattle.icnf_text.specs.Layout.{is_blank, is_line_feed, is_word, words_of, ended_words_of, begins_with_c, is_comment, Token, tokens_on, tokens_from, tokens_of, line_behind}

-- the last of some lists, and those before it
abbrev pub last_of : {X : Type 0} → List (List X) → List X
last_of [] = []
last_of (x ∷ []) = x
last_of (x ∷ y ∷ ys) = last_of (y ∷ ys)

abbrev pub front_of : {X : Type 0} → List (List X) → List (List X)
front_of [] = []
front_of (x ∷ []) = []
front_of (x ∷ y ∷ ys) = x ∷ front_of (y ∷ ys)

last_of-push : {X : Type 0} (xs : List (List X)) (x : List X) → last_of (xs ++ x ∷ []) ≡ x
last_of-push [] x = refl
last_of-push (y ∷ []) x = refl
last_of-push (y ∷ z ∷ zs) x = last_of-push (z ∷ zs) x

front_of-push : {X : Type 0} (xs : List (List X)) (x : List X) → front_of (xs ++ x ∷ []) ≡ xs
front_of-push [] x = refl
front_of-push (y ∷ []) x = refl
front_of-push {X} (y ∷ z ∷ zs) x = ap (λ (r : List (List X)). y ∷ r) (front_of-push (z ∷ zs) x)

split_by : {X : Type 0} (p : X → Bool) (x : X) (px : Bool) (s : List (List X)) → s ≡ front_of s ++ last_of s ∷ [] → cond px ([] ∷ s) (onto_first x s) ≡ front_of (cond px ([] ∷ s) (onto_first x s)) ++ last_of (cond px ([] ∷ s) (onto_first x s)) ∷ []
split_by p x true [] h = refl
split_by {X} p x true (s ∷ ss) h = ap (λ (r : List (List X)). [] ∷ r) h
split_by p x false [] h = refl
split_by p x false (s ∷ []) h = refl
split_by {X} p x false (s ∷ t ∷ ts) h = ap (λ (r : List (List X)). (x ∷ s) ∷ r) (tails s t ts h)
  where
    tails : {X : Type 0} (s t : List X) (ts : List (List X)) → (s ∷ t ∷ ts) ≡ s ∷ (front_of (t ∷ ts) ++ last_of (t ∷ ts) ∷ []) → (t ∷ ts) ≡ front_of (t ∷ ts) ++ last_of (t ∷ ts) ∷ []
    tails s t ts h = cc

split_parts : {X : Type 0} (p : X → Bool) (xs : List X) → slice_split p xs ≡ front_of (slice_split p xs) ++ last_of (slice_split p xs) ∷ []
split_parts p [] = refl
split_parts p (x ∷ xs) = split_by p x (p x) (slice_split p xs) (split_parts p xs)

abbrev pushed : {X : Type 0} → Bool → X → List (List X) → List (List X)
pushed py y s = cond py (s ++ [] ∷ []) (front_of s ++ (last_of s ++ y ∷ []) ∷ [])

push_by : {X : Type 0} (px py : Bool) (x y : X) (s t : List (List X)) → s ≡ front_of s ++ last_of s ∷ [] → t ≡ pushed py y s → cond px ([] ∷ t) (onto_first x t) ≡ pushed py y (cond px ([] ∷ s) (onto_first x s))
push_by px py x y [] t h is = absurd (let k = ap length h in omega arith)
push_by px py x y (s ∷ ss) t h is = rw is (by px py x y s ss)
  where
    by : {X : Type 0} (px py : Bool) (x y : X) (s : List X) (ss : List (List X)) → cond px ([] ∷ pushed py y (s ∷ ss)) (onto_first x (pushed py y (s ∷ ss))) ≡ pushed py y (cond px ([] ∷ s ∷ ss) (onto_first x (s ∷ ss)))
    by true true x y s ss = refl
    by true false x y s ss = refl
    by false true x y s ss = refl
    by false false x y s [] = refl
    by false false x y s (t ∷ ts) = refl

slice_split-push : {X : Type 0} (p : X → Bool) (xs : List X) (y : X) → slice_split p (xs ++ y ∷ []) ≡ pushed (p y) y (slice_split p xs)
slice_split-push p [] y = by (p y) y
  where
    by : {X : Type 0} (py : Bool) (y : X) → cond py ([] ∷ [] ∷ []) ((y ∷ []) ∷ []) ≡ pushed py y ([] ∷ [])
    by true y = refl
    by false y = refl
slice_split-push p (x ∷ xs) y = push_by (p x) (p y) x y (slice_split p xs) (slice_split p (xs ++ y ∷ [])) (split_parts p xs) (slice_split-push p xs y)

-- what stands behind the last element that passes, and the parts before it
abbrev pub last_part : {X : Type 0} → (X → Bool) → List X → List X
last_part p xs = last_of (slice_split p xs)

abbrev pub front_parts : {X : Type 0} → (X → Bool) → List X → List (List X)
front_parts p xs = front_of (slice_split p xs)

pub last_part-at : {X : Type 0} (p : X → Bool) (xs : List X) (y : X) → p y ≡ true → last_part p (xs ++ y ∷ []) ≡ []
last_part-at {X} p xs y h = ap last_of (slice_split-push p xs y ∙ ap (λ b. pushed b y (slice_split p xs)) h) ∙ last_of-push (slice_split p xs) []

pub front_parts-at : {X : Type 0} (p : X → Bool) (xs : List X) (y : X) → p y ≡ true → front_parts p (xs ++ y ∷ []) ≡ front_parts p xs ++ last_part p xs ∷ []
front_parts-at {X} p xs y h = ap front_of (slice_split-push p xs y ∙ ap (λ b. pushed b y (slice_split p xs)) h) ∙ front_of-push (slice_split p xs) [] ∙ split_parts p xs

pub last_part-more : {X : Type 0} (p : X → Bool) (xs : List X) (y : X) → p y ≡ false → last_part p (xs ++ y ∷ []) ≡ last_part p xs ++ y ∷ []
last_part-more {X} p xs y h = ap last_of (slice_split-push p xs y ∙ ap (λ b. pushed b y (slice_split p xs)) h) ∙ last_of-push (front_parts p xs) (last_part p xs ++ y ∷ [])

pub front_parts-more : {X : Type 0} (p : X → Bool) (xs : List X) (y : X) → p y ≡ false → front_parts p (xs ++ y ∷ []) ≡ front_parts p xs
front_parts-more {X} p xs y h = ap front_of (slice_split-push p xs y ∙ ap (λ b. pushed b y (slice_split p xs)) h) ∙ front_of-push (front_parts p xs) (last_part p xs ++ y ∷ [])

-- the words of a line that have ended, and the word that hasn't
abbrev pub piece : List ℕ → List ℕ
piece line = last_part is_blank line

abbrev pub ended : List ℕ → List (List ℕ)
ended line = filter is_word (front_parts is_blank line)

abbrev pub worded : List ℕ → List (List ℕ)
worded bytes = filter is_word (bytes ∷ [])

filter-append : {X : Type 0} (p : X → Bool) (xs ys : List X) → filter p (xs ++ ys) ≡ filter p xs ++ filter p ys
filter-append p [] ys = refl
filter-append p (x ∷ xs) ys = by (p x) x (filter p (xs ++ ys)) (filter p xs) (filter p ys) (filter-append p xs ys)
  where
    by : {X : Type 0} (b : Bool) (x : X) (all left right : List X) → all ≡ left ++ right → cond b (x ∷ all) all ≡ cond b (x ∷ left) left ++ right
    by {X} true x all left right h = ap (λ (r : List X). x ∷ r) h
    by false x all left right h = h

words_are : (line : List ℕ) → words_of line ≡ ended line ++ worded (piece line)
words_are line = ap (filter is_word) (split_parts is_blank line) ∙ filter-append is_word (front_parts is_blank line) (piece line ∷ [])

pub length_push : {X : Type 0} (xs : List X) (x : X) → length (xs ++ x ∷ []) ≡ length xs + 1
length_push [] x = refl
length_push (y ∷ ys) x = let h = length_push ys x in omega arith

take_front : {X : Type 0} (xs : List X) (x : X) → take (length (xs ++ x ∷ []) - 1) (xs ++ x ∷ []) ≡ xs
take_front xs x = ap (λ n. take n (xs ++ x ∷ [])) (let h = length_push xs x in omega arith) ∙ whole xs (x ∷ [])
  where
    whole : {X : Type 0} (xs ys : List X) → take (length xs) (xs ++ ys) ≡ xs
    whole [] ys = refl
    whole {X} (x ∷ xs) ys = ap (λ (r : List X). x ∷ r) (whole xs ys)

ended_are : (line : List ℕ) → ended_words_of line ≡ ended line
ended_are line =
    ap (λ (s : List (List ℕ)). filter is_word (take (length s - 1) s)) (split_parts is_blank line)
    ∙ ap (filter is_word) (take_front (front_parts is_blank line) (piece line))

-- with a blank, and with another byte
pub ended-blank : (line : List ℕ) (b : ℕ) → is_blank b ≡ true → ended (line ++ b ∷ []) ≡ ended line ++ worded (piece line)
ended-blank line b h = ap (filter is_word) (front_parts-at is_blank line b h) ∙ filter-append is_word (front_parts is_blank line) (piece line ∷ [])

pub ended-more : (line : List ℕ) (b : ℕ) → is_blank b ≡ false → ended (line ++ b ∷ []) ≡ ended line
ended-more line b h = ap (filter is_word) (front_parts-more is_blank line b h)

words-blank : (line : List ℕ) (b : ℕ) → is_blank b ≡ true → words_of (line ++ b ∷ []) ≡ words_of line
words-blank line b h =
    words_are (line ++ b ∷ []) ∙ ap (λ (r : List (List ℕ)). r ++ worded (piece (line ++ b ∷ []))) (ended-blank line b h)
    ∙ ap (λ (r : List ℕ). (ended line ++ worded (piece line)) ++ worded r) (last_part-at is_blank line b h)
    ∙ append-nil (ended line ++ worded (piece line)) ∙ sym (words_are line)

pub worded-some : (bytes : List ℕ) → 0 < length bytes → worded bytes ≡ bytes ∷ []
worded-some [] some = absurd (omega arith)
worded-some (x ∷ xs) some = rw (lt_true (length (x ∷ xs)) some) refl
  where
    lt_true : (n : ℕ) → 0 < n → nat_lt 0 n ≡ true
    lt_true n h = lt-ltb 0 n h

words-more : (line : List ℕ) (b : ℕ) → is_blank b ≡ false → words_of (line ++ b ∷ []) ≡ ended line ++ (piece line ++ b ∷ []) ∷ []
words-more line b h =
    words_are (line ++ b ∷ [])
    ∙ ap (λ (r : List (List ℕ)). r ++ worded (piece (line ++ b ∷ []))) (ended-more line b h)
    ∙ ap (λ (r : List ℕ). ended line ++ worded r) (last_part-more is_blank line b h)
    ∙ ap (λ (r : List (List ℕ)). ended line ++ r) (worded-some (piece line ++ b ∷ []) (let k = length_push (piece line) b in omega arith))

-- whether a line is a comment, with one more byte
pub is_comment-blank : (line : List ℕ) (b : ℕ) → is_blank b ≡ true → is_comment (line ++ b ∷ []) ≡ is_comment line
is_comment-blank line b h = ap begins_with_c (words-blank line b h)

c_by : (e : List (List ℕ)) (p : List ℕ) (b : ℕ) → 0 < length e + length p → begins_with_c (e ++ (p ++ b ∷ []) ∷ []) ≡ begins_with_c (e ++ worded p)
c_by [] [] b some = absurd (omega arith)
c_by [] (q ∷ qs) b some = sym (ap begins_with_c (worded-some (q ∷ qs) (omega arith)))
c_by (e ∷ es) p b some = refl

pub is_comment-more : (line : List ℕ) (b : ℕ) → is_blank b ≡ false → 0 < length (ended line) + length (piece line) → is_comment (line ++ b ∷ []) ≡ is_comment line
is_comment-more line b h some =
    ap begins_with_c (words-more line b h) ∙ c_by (ended line) (piece line) b some ∙ sym (ap begins_with_c (words_are line))

pub is_comment-first : (line : List ℕ) (b : ℕ) → is_blank b ≡ false → ended line ≡ [] → piece line ≡ [] → is_comment (line ++ b ∷ []) ≡ (b == 99)
is_comment-first line b h no_ended no_piece =
    ap begins_with_c (words-more line b h) ∙ ap (λ (e : List (List ℕ)). begins_with_c (e ++ (piece line ++ b ∷ []) ∷ [])) no_ended
    ∙ ap (λ (p : List ℕ). begins_with_c ((p ++ b ∷ []) ∷ [])) no_piece

-- a comment has a word
pub comment_some : (line : List ℕ) → is_comment line ≡ true → 0 < length (ended line) + length (piece line)
comment_some line h = by (ended line) (piece line) (sym (ap begins_with_c (words_are line)) ∙ h)
  where
    by : (e : List (List ℕ)) (p : List ℕ) → begins_with_c (e ++ worded p) ≡ true → 0 < length e + length p
    by [] [] h = cc
    by [] (q ∷ qs) h = omega arith
    by (e ∷ es) p h = omega arith

-- the tokens of lines that have ended
abbrev pub closed_from : ℕ → List (List ℕ) → List Token
closed_from number [] = []
closed_from number (line ∷ lines) = tokens_on number line (words_of line) ++ closed_from (number + 1) lines

closed_from-push : (n : ℕ) (lines : List (List ℕ)) (line : List ℕ) → closed_from n (lines ++ line ∷ []) ≡ closed_from n lines ++ tokens_on (n + length lines) line (words_of line)
closed_from-push n [] line = append-nil (tokens_on n line (words_of line)) ∙ ap (λ k. tokens_on k line (words_of line)) (omega arith)
closed_from-push n (l ∷ ls) line =
    ap (λ (r : List Token). tokens_on n l (words_of l) ++ r) (closed_from-push (n + 1) ls line ∙ ap (λ k. closed_from (n + 1) ls ++ tokens_on k line (words_of line)) (omega arith))
    ∙ sym (append_assoc (tokens_on n l (words_of l)) (closed_from (n + 1) ls) (tokens_on (n + length (l ∷ ls)) line (words_of line)))

last_words : Bool → List ℕ → List (List ℕ)
last_words e line = cond e (words_of line) (ended_words_of line)

pub tokens_from-push : (e : Bool) (n : ℕ) (lines : List (List ℕ)) (line : List ℕ) → tokens_from e n (lines ++ line ∷ []) ≡ closed_from n lines ++ tokens_on (n + length lines) line (cond e (words_of line) (ended_words_of line))
tokens_from-push e n [] line = ap (λ k. tokens_on k line (cond e (words_of line) (ended_words_of line))) (omega arith)
tokens_from-push e n (l ∷ []) line =
    ap (λ (r : List Token). tokens_on n l (words_of l) ++ r) (tokens_from-push e (n + 1) [] line ∙ ap (λ k. tokens_on k line (cond e (words_of line) (ended_words_of line))) (omega arith))
    ∙ ap (λ (r : List Token). r ++ tokens_on (n + 1) line (cond e (words_of line) (ended_words_of line))) (sym (append-nil (tokens_on n l (words_of l))))
tokens_from-push e n (l ∷ m ∷ ms) line =
    ap (λ (r : List Token). tokens_on n l (words_of l) ++ r) (tokens_from-push e (n + 1) (m ∷ ms) line ∙ ap (λ k. closed_from (n + 1) (m ∷ ms) ++ tokens_on k line (cond e (words_of line) (ended_words_of line))) (omega arith))
    ∙ sym (append_assoc (tokens_on n l (words_of l)) (closed_from (n + 1) (m ∷ ms)) (tokens_on (n + length (l ∷ m ∷ ms)) line (cond e (words_of line) (ended_words_of line))))

tokens_on-append : (n : ℕ) (line : List ℕ) (xs ys : List (List ℕ)) → tokens_on n line (xs ++ ys) ≡ tokens_on n line xs ++ tokens_on n line ys
tokens_on-append n line xs ys = by (is_comment line) n xs ys
  where
    tagged : (n : ℕ) (xs ys : List (List ℕ)) → map (λ word. let t : Token = record { line = n; bytes = word } in t) (xs ++ ys) ≡ map (λ word. let t : Token = record { line = n; bytes = word } in t) xs ++ map (λ word. let t : Token = record { line = n; bytes = word } in t) ys
    tagged n [] ys = refl
    tagged n (x ∷ xs) ys = ap (λ (r : List Token). record { line = n; bytes = x } ∷ r) (tagged n xs ys)

    by : (c : Bool) (n : ℕ) (xs ys : List (List ℕ)) → cond c [] (map (λ word. let t : Token = record { line = n; bytes = word } in t) (xs ++ ys)) ≡ cond c [] (map (λ word. let t : Token = record { line = n; bytes = word } in t) xs) ++ cond c [] (map (λ word. let t : Token = record { line = n; bytes = word } in t) ys)
    by true n xs ys = refl
    by false n xs ys = tagged n xs ys

-- the line that stands last in a text, the lines before it, and its number
abbrev pub last_row : List ℕ → List ℕ
last_row text = last_part is_line_feed text

abbrev pub rows : List ℕ → List (List ℕ)
rows text = front_parts is_line_feed text

-- the word that stands at the end of the text, as a token, where it isn't in a comment
abbrev pub token_here : List ℕ → List Token
token_here text = tokens_on (1 + length (rows text)) (last_row text) (worded (piece (last_row text)))

tokens_split : (text : List ℕ) (e : Bool) → tokens_of text e ≡ closed_from 1 (rows text) ++ tokens_on (1 + length (rows text)) (last_row text) (cond e (words_of (last_row text)) (ended_words_of (last_row text)))
tokens_split text e = ap (tokens_from e 1) (split_parts is_line_feed text) ∙ tokens_from-push e 1 (rows text) (last_row text)

tokens_false : (text : List ℕ) → tokens_of text false ≡ closed_from 1 (rows text) ++ tokens_on (1 + length (rows text)) (last_row text) (ended (last_row text))
tokens_false text = tokens_split text false ∙ ap (λ (w : List (List ℕ)). closed_from 1 (rows text) ++ tokens_on (1 + length (rows text)) (last_row text) w) (ended_are (last_row text))

all_words : (text : List ℕ) → closed_from 1 (rows text) ++ tokens_on (1 + length (rows text)) (last_row text) (words_of (last_row text)) ≡ tokens_of text false ++ token_here text
all_words text =
    ap (λ (w : List (List ℕ)). closed_from 1 (rows text) ++ tokens_on (1 + length (rows text)) (last_row text) w) (words_are (last_row text))
    ∙ ap (λ (r : List Token). closed_from 1 (rows text) ++ r) (tokens_on-append (1 + length (rows text)) (last_row text) (ended (last_row text)) (worded (piece (last_row text))))
    ∙ sym (append_assoc (closed_from 1 (rows text)) (tokens_on (1 + length (rows text)) (last_row text) (ended (last_row text))) (token_here text))
    ∙ ap (λ (r : List Token). r ++ token_here text) (sym (tokens_false text))

-- The end of the text, a blank and a line feed end a token, and no other byte does.
pub tokens_of-ended : (text : List ℕ) → tokens_of text true ≡ tokens_of text false ++ token_here text
tokens_of-ended text = tokens_split text true ∙ all_words text

pub tokens_of-line_feed : (text : List ℕ) (b : ℕ) → is_line_feed b ≡ true → tokens_of (text ++ b ∷ []) false ≡ tokens_of text false ++ token_here text
tokens_of-line_feed text b h =
    tokens_false (text ++ b ∷ [])
    ∙ ap (λ (l : List ℕ). closed_from 1 (rows (text ++ b ∷ [])) ++ tokens_on (1 + length (rows (text ++ b ∷ []))) l (ended l)) (last_part-at is_line_feed text b h)
    ∙ append-nil (closed_from 1 (rows (text ++ b ∷ [])))
    ∙ ap (closed_from 1) (front_parts-at is_line_feed text b h)
    ∙ closed_from-push 1 (rows text) (last_row text)
    ∙ all_words text

-- the parts of a text with a byte that is no line feed
abbrev IsRowed : List ℕ → List ℕ → List Token → Type 0
IsRowed text line tokens = tokens ≡ closed_from 1 (rows text) ++ tokens_on (1 + length (rows text)) line (ended line)

rowed-more : (text : List ℕ) (b : ℕ) → is_line_feed b ≡ false → tokens_of (text ++ b ∷ []) false ≡ closed_from 1 (rows text) ++ tokens_on (1 + length (rows text)) (last_row text ++ b ∷ []) (ended (last_row text ++ b ∷ []))
rowed-more text b h =
    tokens_false (text ++ b ∷ [])
    ∙ ap (λ (l : List ℕ). closed_from 1 (rows (text ++ b ∷ [])) ++ tokens_on (1 + length (rows (text ++ b ∷ []))) l (ended l)) (last_part-more is_line_feed text b h)
    ∙ ap (λ (r : List (List ℕ)). closed_from 1 r ++ tokens_on (1 + length r) (last_row text ++ b ∷ []) (ended (last_row text ++ b ∷ []))) (front_parts-more is_line_feed text b h)

tokens_on-same : (n : ℕ) (line other : List ℕ) (words : List (List ℕ)) → is_comment other ≡ is_comment line → tokens_on n other words ≡ tokens_on n line words
tokens_on-same n line other words h = ap (λ (c : Bool). cond c [] (map (λ word. let t : Token = record { line = n; bytes = word } in t) words)) h

pub tokens_of-blank : (text : List ℕ) (b : ℕ) → is_line_feed b ≡ false → is_blank b ≡ true → tokens_of (text ++ b ∷ []) false ≡ tokens_of text false ++ token_here text
tokens_of-blank text b no_feed h =
    rowed-more text b no_feed
    ∙ ap (λ (r : List Token). closed_from 1 (rows text) ++ r)
    (tokens_on-same (1 + length (rows text)) (last_row text) (last_row text ++ b ∷ []) (ended (last_row text ++ b ∷ [])) (is_comment-blank (last_row text) b h)
    ∙ ap (tokens_on (1 + length (rows text)) (last_row text)) (ended-blank (last_row text) b h ∙ sym (words_are (last_row text))))
    ∙ all_words text

none_or_same : (n : ℕ) (line other : List ℕ) (words : List (List ℕ)) → (0 < length words → is_comment other ≡ is_comment line) → tokens_on n other words ≡ tokens_on n line words
none_or_same n line other [] same = by (is_comment other) (is_comment line)
  where
    by : (c d : Bool) → ◌≡◌ {A = List Token} (cond c [] []) (cond d [] [])
    by true true = refl
    by true false = refl
    by false true = refl
    by false false = refl
none_or_same n line other (w ∷ ws) same = tokens_on-same n line other (w ∷ ws) (same (omega arith))

pub tokens_of-more : (text : List ℕ) (b : ℕ) → is_line_feed b ≡ false → is_blank b ≡ false → tokens_of (text ++ b ∷ []) false ≡ tokens_of text false
tokens_of-more text b no_feed no_blank =
    rowed-more text b no_feed
    ∙ ap (λ (r : List Token). closed_from 1 (rows text) ++ r)
    (ap (tokens_on (1 + length (rows text)) (last_row text ++ b ∷ [])) (ended-more (last_row text) b no_blank)
    ∙ none_or_same (1 + length (rows text)) (last_row text) (last_row text ++ b ∷ []) (ended (last_row text))
    (λ some. is_comment-more (last_row text) b no_blank (omega arith)))
    ∙ sym (tokens_false text)

-- the number of the line on which the next byte stands
pub line_number : (text : List ℕ) → 1 + length (rows text) ≡ line_behind text
line_number text =
    let whole = ap length (split_parts is_line_feed text) in
    let more = length_push (rows text) (last_row text) in
    let count = length-slice_split is_line_feed text in
    omega arith
