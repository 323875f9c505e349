-- Printed statements are read back.
use Rattle.std.proofs.Common.{◌≡◌, ◌∙◌, ℕ, ◌+◌, ◌*◌, ◌/◌, ◌%◌, ◌<◌, ◌≤◌, List, [], ◌∷◌, ◌++◌, length, map, drop, get_or, Bool, true, false, cond, refl, ap, sym, subst, arith, append_assoc, append-nil, inl}
use Rattle.std.specs.Prelude.{◌&&◌, ◌==◌, not, nat_lt, nat_le, Option, Some, None, filter, count_by, sum_by, codes, decimal, All}
use Rattle.std.specs.Option.{option_or}
use Rattle.std.specs.Char.{is_ascii_digit}
use Rattle.std.specs.List.{flat_map, slice_split, AllByRecursion}
use Rattle.std.specs.Str.{all_ascii_digits}
use Rattle.std.specs.Str.Parse.{digits_value}
use Rattle.std.proofs.lemmas.Bool.{and_parts, and_from, lt-ltb}
use Rattle.std.proofs.lemmas.Bool.Decides.{nat_tests}
use Rattle.std.proofs.lemmas.Fmt.{digits_decimal, digits_value-decimal, first_decimal}
use Rattle.std.proofs.lemmas.List.Elements.{All-from_recursion, recursion_from_All}
use Rattle.std.proofs.lemmas.List.Sums.{sum_by-cons}
use Rattle.std.proofs.lemmas.List.Splits.{slice_split_at}
use Rattle.std.proofs.lemmas.Str.Parse.{IsNumeralModel, numerals_by_value, tells_all_ascii_digits}
use Rattle.sat_base.specs.Lit.{variable, is_negative, IsLit, IsLitSet, in_order}
use Rattle.icnf_text.specs.declared.statements.Statement.{Statement}
use Rattle.icnf_text.specs.declared.statements.Statement.TheVariants.{Clause, Cube}
use Rattle.icnf_text.specs.Layout.{is_blank, is_line_feed, is_word, lines_of, words_of, is_comment, begins_with_c, Token, tokens_on, tokens_from, tokens_of, line_behind, last_line}
use Rattle.icnf_text.specs.declared.statements.Numbered.{Numbered}
use Rattle.icnf_text.specs.declared.faults.Reason.TheVariants as reason
use Rattle.icnf_text.specs.declared.faults.Fault.{Fault}
use Rattle.icnf_text.specs.declared.words.Word.TheVariants as word
use Rattle.icnf_text.specs.declared.parser.Open.{Open}
use Rattle.icnf_text.specs.declared.parser.Open.TheVariants as open_as
use Rattle.icnf_text.specs.Judgement.{Header, Found, header_of, is_behind, is_clause, statements_of, wrong_after, open_of, statements_under, wrong_under, wrong_end, statements, wrong}
use Rattle.icnf_text.specs.Machine.{Parse, Taken, goes_on, stops, begun, begun_at, mark_at, lit_code, literal_taken, pushed_unless, closed_unless, token_taken, statement_as, start}
use Rattle.icnf_text.proofs.Tokens.{IsWord}
use Rattle.icnf_text.proofs.TokenKinds.{lit_code-within}
use Rattle.icnf_text.proofs.Lines.{closed_from, tokens_from-push}
use Rattle.sat_base.proofs.InOrder.{in_order-itself}
use Rattle.icnf_text.proofs.Grammar.{right_all}
use Rattle.icnf_text.proofs.StatementStates.{Holds, IsOpen, Takes, token_takes}
use Rattle.icnf_text.proofs.Truth.{short_statements, short_wrong_end}
use Rattle.icnf_text.specs.Number.{is_minus, is_literal, variable_of, code_of}
use Rattle.icnf_text.specs.Printed.{number_text, statement_text, printed, lits_in, IsWithin}

-- the number of a literal
own : IsNumeralModel (λ ds. all_ascii_digits ds ≡ true) (digits_value 10)
own = numerals_by_value (λ ds. all_ascii_digits ds ≡ true) tells_all_ascii_digits

pub record IsPrinted (lit : ℕ) : Type 0 where
  pub literal : is_literal (number_text lit) ≡ true
  pub sign : is_minus (number_text lit) ≡ is_negative lit
  pub value : variable_of (number_text lit) ≡ variable lit
  pub code : code_of (number_text lit) ≡ lit

plain_minus : (ds : List ℕ) → 48 < get_or ds 0 0 → is_minus ds ≡ false
plain_minus [] h = refl
plain_minus (d ∷ ds) h = ap (λ b. b && true) (apart d h)
  where
    apart : (d : ℕ) → 48 < d → (d == 45) ≡ false
    apart d h = grind (arith, nat_tests)

code_by : (lit v : ℕ) (negative : Bool) → is_negative lit ≡ negative → v ≡ lit / 2 → 2 * v + cond negative 1 0 ≡ lit
code_by lit v true h is = let odd = eq_one (lit % 2) h in omega arith
  where
    eq_one : (n : ℕ) → (n == 1) ≡ true → n ≡ 1
    eq_one n h = grind (arith, nat_tests)
code_by lit v false h is = let even = not_one (lit % 2) h in omega arith
  where
    not_one : (n : ℕ) → (n == 1) ≡ false → (n ≡ 1 → ⊥)
    not_one n h is = absurd (by n h is)
      where
        by : (n : ℕ) → (n == 1) ≡ false → n ≡ 1 → ⊥
        by n h is = grind (arith, nat_tests)

printed_by : (lit : ℕ) (negative : Bool) (ds : List ℕ) → is_negative lit ≡ negative → all_ascii_digits ds ≡ true → 48 < get_or ds 0 0 → digits_value 10 ds ≡ variable lit →
    (is_literal (cond negative (45 ∷ []) [] ++ ds) ≡ true) × (is_minus (cond negative (45 ∷ []) [] ++ ds) ≡ negative) × (variable_of (cond negative (45 ∷ []) [] ++ ds) ≡ variable lit)
printed_by lit true ds h all first value = (and_from _ _ all (lt-ltb 48 (get_or ds 0 0) first), refl, value)
printed_by lit false ds h all first value =
    let minus = plain_minus ds first in (
      ap (λ (r : List ℕ). all_ascii_digits r && nat_lt 48 (get_or r 0 0)) (ap (λ m. cond m (drop 1 ds) ds) minus) ∙ and_from _ _ all (lt-ltb 48 (get_or ds 0 0) first),
      minus,
      ap (digits_value 10) (ap (λ m. cond m (drop 1 ds) ds) minus) ∙ value,
    )

pub is_printed : (lit : ℕ) → IsLit lit → IsPrinted lit
is_printed lit is =
    let some : 0 < variable lit = (let k = is.not_zero in omega arith) in
    let small : variable lit < 18446744073709551616 = (let k = is.within in omega arith) in
    let parts = printed_by lit (is_negative lit) (decimal (variable lit)) refl (digits_decimal own (variable lit) small) (first_decimal (variable lit) some small) (digits_value-decimal own (variable lit) small) in record {
      literal = parts.0;
      sign = parts.1;
      value = parts.2;
      code = ap (λ k. 2 * k + cond (is_minus (number_text lit)) 1 0) parts.2 ∙ ap (λ m. 2 * variable lit + cond m 1 0) parts.1 ∙ code_by lit (variable lit) (is_negative lit) refl refl;
    }

-- its bytes
abbrev IsInk : ℕ → Type 0
IsInk b = (33 ≤ b) × (b ≤ 97) × (b ≡ 99 → ⊥)

ink_digits : (ds : List ℕ) → all_ascii_digits ds ≡ true → AllByRecursion IsInk ds
ink_digits [] h = tt
ink_digits (d ∷ ds) h = (ink d (and_parts _ _ h).0, ink_digits ds (and_parts _ _ h).1)
  where
    low : (d : ℕ) → is_ascii_digit d ≡ true → (48 ≤ d) × (d ≤ 57)
    low d h = grind (arith, nat_tests)

    ink : (d : ℕ) → is_ascii_digit d ≡ true → IsInk d
    ink d h = let r = low d h in (omega (arith, r.0), omega (arith, r.1), λ is. omega (arith, r.1))

ink_by : (negative : Bool) (ds : List ℕ) → AllByRecursion IsInk ds → AllByRecursion IsInk (cond negative (45 ∷ []) [] ++ ds)
ink_by true ds h = ((omega arith, omega arith, λ is. omega arith), h)
ink_by false ds h = h

ink : (lit : ℕ) → IsLit lit → AllByRecursion IsInk (number_text lit)
ink lit is = ink_by (is_negative lit) (decimal (variable lit)) (ink_digits (decimal (variable lit)) (digits_decimal own (variable lit) (let k = is.within in omega arith)))

no_blank : (b : ℕ) → IsInk b → is_blank b ≡ false
no_blank b h = let low = h.0 in grind (arith, nat_tests)

no_feed : (b : ℕ) → IsInk b → is_line_feed b ≡ false
no_feed b h = let low = h.0 in grind (arith, nat_tests)

each : {P Q : ℕ → Type 0} (xs : List ℕ) → ((x : ℕ) → P x → Q x) → AllByRecursion P xs → AllByRecursion Q xs
each [] f h = tt
each (x ∷ xs) f h = (f x h.0, each xs f h.1)

both : (P : ℕ → Type 0) (xs ys : List ℕ) → AllByRecursion P xs → AllByRecursion P ys → AllByRecursion P (xs ++ ys)
both P [] ys h k = k
both P (x ∷ xs) ys h k = (h.0, both P xs ys h.1 k)

-- the words of a line
abbrev pub lit_words : List ℕ → List (List ℕ)
lit_words lits = map number_text lits ++ codes "0" ∷ []

abbrev lits_line : List ℕ → List ℕ
lits_line lits = flat_map (λ lit. number_text lit ++ codes " ") lits ++ codes "0"

split_lits : (lits : List ℕ) → AllByRecursion IsLit lits → slice_split is_blank (lits_line lits) ≡ lit_words lits
split_lits [] h = refl
split_lits (lit ∷ lits) h =
    ap (slice_split is_blank) (append_assoc (number_text lit ++ codes " ") (flat_map (λ l. number_text l ++ codes " ") lits) (codes "0") ∙ append_assoc (number_text lit) (codes " ") (lits_line lits))
    ∙ slice_split_at is_blank (number_text lit) 32 (lits_line lits) (All-from_recursion (λ b. is_blank b ≡ false) (number_text lit) (each (number_text lit) no_blank (ink lit h.0))) refl
    ∙ ap (λ (r : List (List ℕ)). number_text lit ∷ r) (split_lits lits h.1)

feedless : (lits : List ℕ) → AllByRecursion IsLit lits → AllByRecursion (λ b. is_line_feed b ≡ false) (lits_line lits)
feedless [] h = (refl, tt)
feedless (lit ∷ lits) h =
    subst (AllByRecursion (λ b. is_line_feed b ≡ false)) (sym (append_assoc (number_text lit ++ codes " ") (flat_map (λ l. number_text l ++ codes " ") lits) (codes "0")))
    (both (λ b. is_line_feed b ≡ false) (number_text lit ++ codes " ") (lits_line lits) (both (λ b. is_line_feed b ≡ false) (number_text lit) (codes " ") (each (number_text lit) no_feed (ink lit h.0)) (refl, tt)) (feedless lits h.1))

number_some : (lit : ℕ) → IsLit lit → 0 < length (number_text lit)
number_some lit is = by (number_text lit) (is_printed lit is).literal
  where
    by : (bs : List ℕ) → is_literal bs ≡ true → 0 < length bs
    by [] h = cc
    by (b ∷ bs) h = omega arith

words_kept : (lits : List ℕ) → AllByRecursion IsLit lits → filter is_word (lit_words lits) ≡ lit_words lits
words_kept [] h = refl
words_kept (lit ∷ lits) h = rw (lt-ltb 0 (length (number_text lit)) (number_some lit h.0)) (ap (λ (r : List (List ℕ)). number_text lit ∷ r) (words_kept lits h.1))

no_c : (lits : List ℕ) → AllByRecursion IsLit lits → begins_with_c (lit_words lits) ≡ false
no_c [] h = refl
no_c (lit ∷ lits) h = by (number_text lit) (number_some lit h.0) (ink lit h.0)
  where
    other : (b : ℕ) → (b ≡ 99 → ⊥) → (b == 99) ≡ false
    other b h = grind (arith, nat_tests)

    by : (bs : List ℕ) → 0 < length bs → AllByRecursion IsInk bs → (get_or bs 0 0 == 99) ≡ false
    by [] some h = absurd (omega arith)
    by (b ∷ bs) some h = other b h.0.2

-- the same of a statement
abbrev pub statement_words : Statement → List (List ℕ)
statement_words (Clause lits) = lit_words lits
statement_words (Cube lits) = codes "a" ∷ lit_words lits

abbrev pub statement_line : Statement → List ℕ
statement_line (Clause lits) = lits_line lits
statement_line (Cube lits) = codes "a " ++ lits_line lits

pub line_text : (st : Statement) → statement_text st ≡ statement_line st ++ 10 ∷ []
line_text (Clause lits) = sym (append_assoc (flat_map (λ lit. number_text lit ++ codes " ") lits) (codes "0") (10 ∷ []))
line_text (Cube lits) = ap (λ (r : List ℕ). codes "a " ++ r) (sym (append_assoc (flat_map (λ lit. number_text lit ++ codes " ") lits) (codes "0") (10 ∷ [])))

pub line_words : (st : Statement) → AllByRecursion IsLit (lits_in st) → (words_of (statement_line st) ≡ statement_words st) × (is_comment (statement_line st) ≡ false)
line_words (Clause lits) h = let words = ap (filter is_word) (split_lits lits h) ∙ words_kept lits h in (words, ap begins_with_c words ∙ no_c lits h)
line_words (Cube lits) h =
    let words : words_of (codes "a " ++ lits_line lits) ≡ codes "a" ∷ lit_words lits = ap (λ (r : List (List ℕ)). filter is_word (codes "a" ∷ r)) (split_lits lits h) ∙ ap (λ (r : List (List ℕ)). codes "a" ∷ r) (words_kept lits h) in
    (words, ap begins_with_c words)

pub line_feedless : (st : Statement) → AllByRecursion IsLit (lits_in st) → All (λ b. is_line_feed b ≡ false) (statement_line st)
line_feedless (Clause lits) h = All-from_recursion (λ b. is_line_feed b ≡ false) (lits_line lits) (feedless lits h)
line_feedless (Cube lits) h = All-from_recursion (λ b. is_line_feed b ≡ false) (codes "a " ++ lits_line lits) (refl, (refl, feedless lits h))

-- the tokens of statements on lines of their own, from this line on
abbrev pub tagged : ℕ → List (List ℕ) → List Token
tagged n words = map (λ word. let t : Token = record { line = n; bytes = word } in t) words

abbrev pub body : ℕ → List Statement → List Token
body n [] = []
body n (st ∷ sts) = tagged n (statement_words st) ++ body (n + 1) sts

abbrev pub AreStatements : List Statement → Type 0
AreStatements list = AllByRecursion (λ st. IsLitSet (lits_in st)) list

lits_of_set : (st : Statement) → IsLitSet (lits_in st) → AllByRecursion IsLit (lits_in st)
lits_of_set st h = recursion_from_All IsLit (lits_in st) h.each

lines_are : (list : List Statement) → AreStatements list → slice_split is_line_feed (flat_map statement_text list) ≡ map statement_line list ++ [] ∷ []
lines_are [] h = refl
lines_are (st ∷ sts) h =
    ap (λ (r : List ℕ). slice_split is_line_feed (r ++ flat_map statement_text sts)) (line_text st)
    ∙ ap (slice_split is_line_feed) (append_assoc (statement_line st) (10 ∷ []) (flat_map statement_text sts))
    ∙ slice_split_at is_line_feed (statement_line st) 10 (flat_map statement_text sts) (line_feedless st (lits_of_set st h.0)) refl
    ∙ ap (λ (r : List (List ℕ)). statement_line st ∷ r) (lines_are sts h.1)

line_tokens : (n : ℕ) (st : Statement) → IsLitSet (lits_in st) → tokens_on n (statement_line st) (words_of (statement_line st)) ≡ tagged n (statement_words st)
line_tokens n st h =
    let facts = line_words st (lits_of_set st h) in
    ap (λ c. cond c [] (tagged n (words_of (statement_line st)))) facts.1 ∙ ap (tagged n) facts.0

body_is : (n : ℕ) (list : List Statement) → AreStatements list → closed_from n (map statement_line list) ≡ body n list
body_is n [] h = refl
body_is n (st ∷ sts) h = ap (λ (r : List Token). r ++ closed_from (n + 1) (map statement_line sts)) (line_tokens n st h.0) ∙ ap (λ (r : List Token). tagged n (statement_words st) ++ r) (body_is (n + 1) sts h.1)

abbrev header_tokens : List Token
header_tokens = record { line = 1; bytes = codes "p" } ∷ record { line = 1; bytes = codes "inccnf" } ∷ []

pub printed_tokens : (list : List Statement) → AreStatements list → tokens_of (printed list) true ≡ header_tokens ++ body 2 list
printed_tokens list h =
    let lines : lines_of (printed list) ≡ (codes "p inccnf" ∷ map statement_line list) ++ [] ∷ [] = ap (λ (r : List (List ℕ)). codes "p inccnf" ∷ r) (lines_are list h) in
    ap (tokens_from true 1) lines ∙ tokens_from-push true 1 (codes "p inccnf" ∷ map statement_line list) []
    ∙ append-nil (closed_from 1 (codes "p inccnf" ∷ map statement_line list))
    ∙ ap (λ (r : List Token). header_tokens ++ r) (body_is 2 list h)

-- all of them stand behind the header's line
behind_append : (xs ys : List Token) → filter (is_behind 1) (xs ++ ys) ≡ filter (is_behind 1) xs ++ filter (is_behind 1) ys
behind_append [] ys = refl
behind_append (x ∷ xs) ys = by (is_behind 1 x) _ _ _ (behind_append xs ys)
  where
    by : (b : Bool) (all left right : List Token) → all ≡ left ++ right → cond b (x ∷ all) all ≡ cond b (x ∷ left) left ++ right
    by true all left right h = ap (λ (r : List Token). x ∷ r) h
    by false all left right h = h

behind_tagged : (n : ℕ) (words : List (List ℕ)) → 1 < n → filter (is_behind 1) (tagged n words) ≡ tagged n words
behind_tagged n [] h = refl
behind_tagged n (w ∷ ws) h = rw (lt-ltb 1 n h) (ap (λ (r : List Token). record { line = n; bytes = w } ∷ r) (behind_tagged n ws h))

behind_body : (n : ℕ) (list : List Statement) → 1 < n → filter (is_behind 1) (body n list) ≡ body n list
behind_body n [] h = refl
behind_body n (st ∷ sts) h =
    behind_append (tagged n (statement_words st)) (body (n + 1) sts)
    ∙ ap (λ (r : List Token). r ++ filter (is_behind 1) (body (n + 1) sts)) (behind_tagged n (statement_words st) h)
    ∙ ap (λ (r : List Token). tagged n (statement_words st) ++ r) (behind_body (n + 1) sts (omega arith))

pub printed_header : (m : ℕ) (list : List Statement) → header_of m (header_tokens ++ body 2 list) ≡ Found (body 2 list)
printed_header m list = ap Found (behind_body 2 list (omega arith))

-- reading the tokens of one statement
abbrev numbered : ℕ → List Statement → List Numbered
numbered n [] = []
numbered n (st ∷ sts) = record { line = n; statement = st } ∷ numbered (n + 1) sts

few : (a b : ℕ) → a < b → nat_le b a ≡ false
few a b h = grind (arith, nat_tests)

abbrev IsBegun : Parse → Type 0
IsBegun parse = (line : ℕ) → begun parse line ≡ goes_on parse

number_word : (lit : ℕ) → IsLit lit → IsWord (word.Number (is_negative lit) (variable lit)) (number_text lit)
number_word lit is = let p = is_printed lit is in record { literal = p.literal; sign = p.sign; value = inl ((let k = is.within in omega arith), sym p.value) }

code_is : (lit : ℕ) → IsLit lit → lit_code (is_negative lit) (variable lit) ≡ Some lit
code_is lit is = lit_code-within (is_negative lit) (variable lit) (number_text lit) (number_word lit is) (let k = is.within in omega arith) ∙ ap Some (is_printed lit is).code

-- a literal where a statement has begun, or begins
literal_goes : (lit n : ℕ) (parse next : Parse) (tokens : List Token) (out : List Numbered) → IsLit lit → Holds parse tokens out → begun parse n ≡ goes_on next → next.literals < 33554432 →
    Holds (record next { lits = next.lits ++ lit ∷ []; literals = next.literals + 1 }) (tokens ++ tagged n (number_text lit ∷ [])) (out ++ [])
literal_goes lit n parse next tokens out is h begin low =
    let t : Token = record { line = n; bytes = number_text lit } in
    let takes = token_takes (word.Number (is_negative lit) (variable lit)) parse tokens t out (number_word lit is) (number_some lit is) h in
    let taken : token_taken parse n (word.Number (is_negative lit) (variable lit)) ≡ goes_on (record next { lits = next.lits ++ lit ∷ []; literals = next.literals + 1 }) =
    ap (λ (o : Option ℕ). literal_taken o parse n) (code_is lit is)
    ∙ ap (λ (b : Taken). pushed_unless b.reason b.parse lit) begin
    ∙ ap (λ c. cond c (stops next reason.TooMany) (goes_on (record next { lits = next.lits ++ lit ∷ []; literals = next.literals + 1 }))) (few next.literals 33554432 low) in
    (subst (λ (k : Taken). Takes k tokens t out) taken takes).goes refl

-- the state behind these literals
record Went (from to : Parse) (lits : List ℕ) : Type 0 where
  opened : to.opened ≡ from.opened
  line : to.start ≡ from.start
  lits_are : to.lits ≡ from.lits ++ lits
  clauses : to.clauses ≡ from.clauses
  cubes : to.cubes ≡ from.cubes
  literals : to.literals ≡ from.literals + length lits

record Goes (parse : Parse) (n : ℕ) (lits : List ℕ) (tokens : List Token) (out : List Numbered) : Type 0 where
  next : Parse
  holds : Holds next (tokens ++ tagged n (map number_text lits)) out
  went : Went parse next lits

lits_go : (lits : List ℕ) (n : ℕ) (parse : Parse) (tokens : List Token) (out : List Numbered) → AllByRecursion IsLit lits → Holds parse tokens out → ((p : Parse) → p.opened ≡ parse.opened → begun p n ≡ goes_on p) → parse.literals + length lits ≤ 33554432 → Goes parse n lits tokens out
lits_go [] n parse tokens out all h begins low = record {
  next = parse;
  holds = subst (λ (ts : List Token). Holds parse ts out) (sym (append-nil tokens)) h;
  went = record { opened = refl; line = refl; lits_are = sym (append-nil parse.lits); clauses = refl; cubes = refl; literals = omega arith };
}
lits_go (lit ∷ lits) n parse tokens out all h begins low =
    let first : Parse = record parse { lits = parse.lits ++ lit ∷ []; literals = parse.literals + 1 } in
    let one : Holds first (tokens ++ tagged n (number_text lit ∷ [])) out = subst (Holds first (tokens ++ tagged n (number_text lit ∷ []))) (append-nil out) (literal_goes lit n parse parse tokens out all.0 h (begins parse refl) (omega arith)) in
    let rest = lits_go lits n first (tokens ++ tagged n (number_text lit ∷ [])) out all.1 one begins (omega arith) in record {
      next = rest.next;
      holds = subst (λ (ts : List Token). Holds rest.next ts out) (append_assoc tokens (tagged n (number_text lit ∷ [])) (tagged n (map number_text lits))) rest.holds;
      went = record {
        opened = rest.went.opened;
        line = rest.went.line;
        lits_are = rest.went.lits_are ∙ append_assoc parse.lits (lit ∷ []) lits;
        clauses = rest.went.clauses;
        cubes = rest.went.cubes;
        literals = (let l = rest.went.literals in omega arith);
      };
    }

-- `0`
closes : (n : ℕ) (parse next : Parse) (tokens : List Token) (out : List Numbered) → Holds parse tokens out → begun parse n ≡ goes_on next →
    Holds (record next { opened = open_as.Nothing; lits = [] }) (tokens ++ tagged n (codes "0" ∷ [])) (out ++ record { line = next.start; statement = statement_as next.opened (in_order next.lits) } ∷ [])
closes n parse next tokens out h begin =
    let t : Token = record { line = n; bytes = codes "0" } in
    let takes = token_takes word.Zero parse tokens t out refl (omega arith) h in
    let taken : token_taken parse n word.Zero ≡ closed_unless None next = ap (λ (b : Taken). closed_unless b.reason b.parse) begin in
    (subst (λ (k : Taken). Takes k tokens t out) taken takes).goes refl

-- one statement
record Done (parse : Parse) (st : Statement) (n : ℕ) (tokens : List Token) (out : List Numbered) : Type 0 where
  next : Parse
  holds : Holds next (tokens ++ tagged n (statement_words st)) (out ++ record { line = n; statement = st } ∷ [])
  opened : next.opened ≡ open_as.Nothing
  clauses : next.clauses ≡ parse.clauses + cond (is_clause st) 1 0
  cubes : next.cubes ≡ parse.cubes + cond (not (is_clause st)) 1 0
  literals : next.literals ≡ parse.literals + length (lits_in st)

tagged-append : (n : ℕ) (xs ys : List (List ℕ)) → tagged n (xs ++ ys) ≡ tagged n xs ++ tagged n ys
tagged-append n [] ys = refl
tagged-append n (x ∷ xs) ys = ap (λ (r : List Token). record { line = n; bytes = x } ∷ r) (tagged-append n xs ys)

no_lits : (parse : Parse) (tokens : List Token) (out : List Numbered) → Holds parse tokens out → parse.opened ≡ open_as.Nothing → (parse.lits ≡ []) × (open_of tokens ≡ [])
no_lits parse tokens out h e = let at : IsOpen open_as.Nothing parse.start parse.lits (open_of tokens) = subst (λ o. IsOpen o parse.start parse.lits (open_of tokens)) e h.opened in (at.1, at.0)

-- a clause begins with its first token
clause_begins : (n : ℕ) (parse : Parse) → parse.opened ≡ open_as.Nothing → parse.clauses < 16777216 → begun parse n ≡ goes_on (record parse { opened = open_as.Clause; start = n; clauses = parse.clauses + 1 })
clause_begins n parse e low =
    ap (λ o. begun_at o parse n) e
    ∙ ap (λ c. cond c (stops parse reason.TooMany) (goes_on (record parse { opened = open_as.Clause; start = n; clauses = parse.clauses + 1 }))) (few parse.clauses 16777216 low)

clause_goes_on : (n : ℕ) (parse : Parse) → parse.opened ≡ open_as.Clause → begun parse n ≡ goes_on parse
clause_goes_on n parse e = ap (λ o. begun_at o parse n) e

cube_goes_on : (n : ℕ) (parse : Parse) → parse.opened ≡ open_as.Cube → begun parse n ≡ goes_on parse
cube_goes_on n parse e = ap (λ o. begun_at o parse n) e

done_by : (st : Statement) (o : Open) (n : ℕ) (parse first next : Parse) (tokens from : List Token) (out : List Numbered) (more lits : List ℕ) → Holds next (tokens ++ tagged n (map number_text more)) out → Went first next more → first.opened ≡ o → begun next n ≡ goes_on next →
    next.lits ≡ lits → (tokens ++ tagged n (map number_text more)) ++ tagged n (codes "0" ∷ []) ≡ from ++ tagged n (statement_words st) → statement_as o (in_order lits) ≡ st → first.start ≡ n →
    next.clauses ≡ parse.clauses + cond (is_clause st) 1 0 → next.cubes ≡ parse.cubes + cond (not (is_clause st)) 1 0 → next.literals ≡ parse.literals + length (lits_in st) → Done parse st n from out
done_by st o n parse first next tokens from out more lits h went open_is begins lits_are tokens_are st_is line clauses cubes literals =
    let closed = closes n next next (tokens ++ tagged n (map number_text more)) out h begins in
    let given : record { line = next.start; statement = statement_as next.opened (in_order next.lits) } ≡ record { line = n; statement = st } =
    ap (λ l. let k : Numbered = record { line = l; statement = statement_as next.opened (in_order next.lits) } in k) (went.line ∙ line)
    ∙ ap (λ (q : Open). let k : Numbered = record { line = n; statement = statement_as q (in_order next.lits) } in k) (went.opened ∙ open_is)
    ∙ ap (λ (l : List ℕ). let k : Numbered = record { line = n; statement = statement_as o (in_order l) } in k) lits_are
    ∙ ap (λ (q : Statement). let k : Numbered = record { line = n; statement = q } in k) st_is in record {
      next = record next { opened = open_as.Nothing; lits = [] };
      holds = subst (λ (k : Numbered). Holds (record next { opened = open_as.Nothing; lits = [] }) (from ++ tagged n (statement_words st)) (out ++ k ∷ [])) given
          (subst (λ (ts : List Token). Holds (record next { opened = open_as.Nothing; lits = [] }) ts (out ++ record { line = next.start; statement = statement_as next.opened (in_order next.lits) } ∷ [])) tokens_are closed);
      opened = refl;
      clauses = clauses;
      cubes = cubes;
      literals = literals;
    }

clause_done : (lits : List ℕ) (n : ℕ) (parse : Parse) (tokens : List Token) (out : List Numbered) → IsLitSet lits → Holds parse tokens out → parse.opened ≡ open_as.Nothing → parse.clauses < 16777216 → parse.literals + length lits ≤ 33554432 → Done parse (Clause lits) n tokens out
clause_done [] n parse tokens out set h e few_clauses few_lits =
    let begin : Parse = record parse { opened = open_as.Clause; start = n; clauses = parse.clauses + 1 } in record {
      next = record begin { opened = open_as.Nothing; lits = [] };
      holds = subst (λ (l : List ℕ). Holds (record begin { opened = open_as.Nothing; lits = [] }) (tokens ++ tagged n (codes "0" ∷ [])) (out ++ record { line = n; statement = Clause (in_order l) } ∷ [])) (no_lits parse tokens out h e).0
          (closes n parse begin tokens out h (clause_begins n parse e few_clauses));
      opened = refl;
      clauses = refl;
      cubes = omega arith;
      literals = omega arith;
    }
clause_done (lit ∷ lits) n parse tokens out set h e few_clauses few_lits =
    let begin : Parse = record parse { opened = open_as.Clause; start = n; clauses = parse.clauses + 1 } in
    let all = recursion_from_All IsLit (lit ∷ lits) set.each in
    let first : Parse = record begin { lits = parse.lits ++ lit ∷ []; literals = parse.literals + 1 } in
    let one : Holds first (tokens ++ tagged n (number_text lit ∷ [])) out = subst (Holds first (tokens ++ tagged n (number_text lit ∷ []))) (append-nil out) (literal_goes lit n parse begin tokens out all.0 h (clause_begins n parse e few_clauses) (omega arith)) in
    let rest = lits_go lits n first (tokens ++ tagged n (number_text lit ∷ [])) out all.1 one (λ p q. clause_goes_on n p q) (omega arith) in
    done_by (Clause (lit ∷ lits)) open_as.Clause n parse first rest.next (tokens ++ tagged n (number_text lit ∷ [])) tokens out lits (lit ∷ lits) rest.holds rest.went refl (clause_goes_on n rest.next rest.went.opened)
    (rest.went.lits_are ∙ ap (λ (l : List ℕ). (l ++ lit ∷ []) ++ lits) (no_lits parse tokens out h e).0)
    (append_assoc (tokens ++ tagged n (number_text lit ∷ [])) (tagged n (map number_text lits)) (tagged n (codes "0" ∷ []))
    ∙ append_assoc tokens (tagged n (number_text lit ∷ [])) (tagged n (map number_text lits) ++ tagged n (codes "0" ∷ []))
    ∙ ap (λ (r : List Token). tokens ++ record { line = n; bytes = number_text lit } ∷ r) (sym (tagged-append n (map number_text lits) (codes "0" ∷ []))))
    (ap Clause (in_order-itself (lit ∷ lits) set.ascending)) refl rest.went.clauses (let k = rest.went.cubes in omega arith) (let k = rest.went.literals in omega arith)

cube_done : (lits : List ℕ) (n : ℕ) (parse : Parse) (tokens : List Token) (out : List Numbered) → IsLitSet lits → Holds parse tokens out → parse.opened ≡ open_as.Nothing → parse.cubes < 1048576 → parse.literals + length lits ≤ 33554432 → Done parse (Cube lits) n tokens out
cube_done lits n parse tokens out set h e few_cubes few_lits =
    let t : Token = record { line = n; bytes = codes "a" } in
    let begin : Parse = record parse { opened = open_as.Cube; start = n; cubes = parse.cubes + 1 } in
    let takes = token_takes word.Mark parse tokens t out refl (omega arith) h in
    let taken : token_taken parse n word.Mark ≡ goes_on begin = ap (λ o. mark_at o parse n) e ∙ ap (λ c. cond c (stops parse reason.TooMany) (goes_on begin)) (few parse.cubes 1048576 few_cubes) in
    let one : Holds begin (tokens ++ t ∷ []) out = subst (Holds begin (tokens ++ t ∷ [])) (append-nil out) ((subst (λ (k : Taken). Takes k tokens t out) taken takes).goes refl) in
    let rest = lits_go lits n begin (tokens ++ t ∷ []) out (recursion_from_All IsLit lits set.each) one (λ p q. cube_goes_on n p q) few_lits in
    done_by (Cube lits) open_as.Cube n parse begin rest.next (tokens ++ t ∷ []) tokens out lits lits rest.holds rest.went refl (cube_goes_on n rest.next rest.went.opened)
    (rest.went.lits_are ∙ ap (λ (l : List ℕ). l ++ lits) (no_lits parse tokens out h e).0)
    (append_assoc (tokens ++ t ∷ []) (tagged n (map number_text lits)) (tagged n (codes "0" ∷ []))
    ∙ append_assoc tokens (t ∷ []) (tagged n (map number_text lits) ++ tagged n (codes "0" ∷ []))
    ∙ ap (λ (r : List Token). tokens ++ t ∷ r) (sym (tagged-append n (map number_text lits) (codes "0" ∷ []))))
    (ap Cube (in_order-itself lits set.ascending)) refl (let k = rest.went.clauses in omega arith) rest.went.cubes rest.went.literals

statement_done : (st : Statement) (n : ℕ) (parse : Parse) (tokens : List Token) (out : List Numbered) → IsLitSet (lits_in st) → Holds parse tokens out → parse.opened ≡ open_as.Nothing →
    parse.clauses + cond (is_clause st) 1 0 ≤ 16777216 → parse.cubes + cond (not (is_clause st)) 1 0 ≤ 1048576 → parse.literals + length (lits_in st) ≤ 33554432 → Done parse st n tokens out
statement_done (Clause lits) n parse tokens out set h e few_clauses few_cubes few_lits = clause_done lits n parse tokens out set h e (omega arith) few_lits
statement_done (Cube lits) n parse tokens out set h e few_clauses few_cubes few_lits = cube_done lits n parse tokens out set h e (omega arith) few_lits

-- all statements
record AllDone (n : ℕ) (list : List Statement) (tokens : List Token) (out : List Numbered) : Type 0 where
  right : wrong_after [] (tokens ++ body n list) ≡ None
  none_open : open_of (tokens ++ body n list) ≡ []
  given : statements_of (tokens ++ body n list) ≡ out ++ numbered n list

all_done : (list : List Statement) (n : ℕ) (parse : Parse) (tokens : List Token) (out : List Numbered) → AreStatements list → Holds parse tokens out → parse.opened ≡ open_as.Nothing →
    parse.clauses + count_by is_clause list ≤ 16777216 → parse.cubes + count_by (λ st. not (is_clause st)) list ≤ 1048576 → parse.literals + sum_by (λ st. length (lits_in st)) list ≤ 33554432 → AllDone n list tokens out
all_done [] n parse tokens out sets h e few_clauses few_cubes few_lits = record {
  right = ap (wrong_after []) (append-nil tokens) ∙ h.right;
  none_open = ap open_of (append-nil tokens) ∙ (no_lits parse tokens out h e).1;
  given = ap statements_of (append-nil tokens) ∙ sym h.given ∙ sym (append-nil out);
}
all_done (st ∷ sts) n parse tokens out sets h e few_clauses few_cubes few_lits =
    let some_clauses : count_by is_clause (st ∷ sts) ≡ cond (is_clause st) 1 0 + count_by is_clause sts = sum_by-cons (λ s. cond (is_clause s) 1 0) st sts in
    let some_cubes : count_by (λ s. not (is_clause s)) (st ∷ sts) ≡ cond (not (is_clause st)) 1 0 + count_by (λ s. not (is_clause s)) sts = sum_by-cons (λ s. cond (not (is_clause s)) 1 0) st sts in
    let some_lits : sum_by (λ s. length (lits_in s)) (st ∷ sts) ≡ length (lits_in st) + sum_by (λ s. length (lits_in s)) sts = sum_by-cons (λ s. length (lits_in s)) st sts in
    let one = statement_done st n parse tokens out sets.0 h e (omega arith) (omega arith) (omega arith) in
    let rest = all_done sts (n + 1) one.next (tokens ++ tagged n (statement_words st)) (out ++ record { line = n; statement = st } ∷ []) sets.1 one.holds one.opened
    (let k = one.clauses in omega arith) (let k = one.cubes in omega arith) (let k = one.literals in omega arith) in
    let assoc = append_assoc tokens (tagged n (statement_words st)) (body (n + 1) sts) in record {
      right = ap (wrong_after []) (sym assoc) ∙ rest.right;
      none_open = ap open_of (sym assoc) ∙ rest.none_open;
      given = ap statements_of (sym assoc) ∙ rest.given ∙ append_assoc out (record { line = n; statement = st } ∷ []) (numbered (n + 1) sts);
    }

unnumbered : (n : ℕ) (list : List Statement) → map (λ (k : Numbered). k.statement) (numbered n list) ≡ list
unnumbered n [] = refl
unnumbered n (st ∷ sts) = ap (λ (r : List Statement). st ∷ r) (unnumbered (n + 1) sts)

pub read_back : (list : List Statement) (text : List ℕ) → AreStatements list → IsWithin list → text ≡ printed list → (wrong text true ≡ None) × (map (λ (k : Numbered). k.statement) (statements text true) ≡ list)
read_back list text sets within is = subst (λ (t : List ℕ). (wrong t true ≡ None) × (map (λ (k : Numbered). k.statement) (statements t true) ≡ list)) (sym is) printed_back
  where
    done : AllDone 2 list [] []
    done = all_done list 2 start.parse [] [] sets (record { right = refl; opened = (refl, refl); clauses = refl; cubes = refl; literals = refl; given = refl }) refl
        (let k = within.clauses in omega arith) (let k = within.cubes in omega arith) (let k = within.literals in omega arith)

    found : header_of (line_behind (printed list)) (tokens_of (printed list) true) ≡ Found (body 2 list)
    found = ap (header_of (line_behind (printed list))) (printed_tokens list sets) ∙ printed_header (line_behind (printed list)) list

    printed_back : (wrong (printed list) true ≡ None) × (map (λ (k : Numbered). k.statement) (statements (printed list) true) ≡ list)
    printed_back = (
      short_wrong_end (printed list) within.bytes ∙ ap (λ (h : Header). option_or (wrong_under h) (wrong_end (last_line (printed list)) h)) found
          ∙ ap (λ (o : Option Fault). option_or o (wrong_end (last_line (printed list)) (Found (body 2 list)))) done.right
          ∙ ap (λ (ts : List Token). cond (length ts == 0) None (Some (record { line = last_line (printed list); reason = reason.Unfinished }))) done.none_open,
      ap (map (λ (k : Numbered). k.statement)) (short_statements (printed list) true within.bytes ∙ ap statements_under found ∙ ap statements_of (right_all [] (body 2 list) done.right) ∙ done.given)
          ∙ unnumbered 2 list,
    )
