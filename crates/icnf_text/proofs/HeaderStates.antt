-- What a reader knows of all tokens, with one more token and with one more line.
use Rattle.std.proofs.Common.{◌≡◌, ◌∙◌, ℕ, ◌+◌, ◌<◌, ◌≤◌, List, [], ◌∷◌, ◌++◌, length, Bool, true, false, cond, refl, ap, sym, subst, arith, append-nil}
use Rattle.std.specs.Prelude.{◌&&◌, ◌==◌, not, nat_lt, nat_le, Option, Some, None, filter, codes}
use Rattle.std.specs.Option.{option_or}
use Rattle.std.specs.Str.{bytes_eq}
use Rattle.std.proofs.lemmas.Bool.{and_from, lt-ltb, ltb-true}
use Rattle.std.proofs.lemmas.Bool.Decides.{nat_tests}
use Rattle.icnf_text.specs.declared.statements.Numbered.{Numbered}
use Rattle.icnf_text.specs.declared.faults.Reason.{Reason}
use Rattle.icnf_text.specs.declared.faults.Reason.TheVariants as reason
use Rattle.icnf_text.specs.declared.faults.Fault.{Fault}
use Rattle.icnf_text.specs.declared.words.Word.{Word}
use Rattle.icnf_text.specs.declared.words.Word.TheVariants as word
use Rattle.icnf_text.specs.declared.parser.Open.{Open}
use Rattle.icnf_text.specs.declared.parser.Phase.{Phase}
use Rattle.icnf_text.specs.declared.parser.Phase.TheVariants as phase
use Rattle.icnf_text.specs.declared.parser.Open.TheVariants as open_as
use Rattle.icnf_text.specs.Layout.{Token}
use Rattle.icnf_text.specs.Judgement.{Header, Missing, Broken, Found, is_behind, header_of, statements_under, wrong_under, right_after, wrong_after, reason_of, fault_on, statements_of, open_of, wrong_end}
use Rattle.icnf_text.specs.Machine.{Parse, Taken, goes_on, stops, begun, begun_at, mark_at, closed_unless, pushed_unless, literal_taken, lit_code, is_open, end_at, is_p, is_inccnf, word_at, token_taken, line_at, start}
use Rattle.icnf_text.proofs.Tokens.{IsWord}
use Rattle.icnf_text.proofs.TokenKinds.{is_p-is, is_inccnf-is}
use Rattle.icnf_text.proofs.Grammar.{filter-push, right_all, right_stops, right_stays, wrong_stays, wrong_after-push}
use Rattle.icnf_text.proofs.StatementStates.{Holds, IsOpen, Takes, token_takes}

abbrev is_header : Token → Token → Bool
is_header first second = bytes_eq first.bytes (codes "p") && first.line == second.line && bytes_eq second.bytes (codes "inccnf")

-- the header stands on this line, and these tokens on the lines behind it
pub record HasHeader (tokens : List Token) (line : ℕ) (body : List Token) : Type 0 where
  first : Token
  second : Token
  more : List Token
  whole : tokens ≡ first ∷ second ∷ more
  right : is_header first second ≡ true
  line_is : first.line ≡ line
  body_is : filter (is_behind first.line) more ≡ body

pub record IsAfterP (parse : Parse) (n : ℕ) (tokens : List Token) (out : List Numbered) : Type 0 where
  first : Token
  whole : tokens ≡ first ∷ []
  is : bytes_eq first.bytes (codes "p") ≡ true
  line_is : first.line ≡ n
  holds : Holds parse [] out

pub record IsRest (parse : Parse) (n : ℕ) (tokens : List Token) (out : List Numbered) : Type 0 where
  header : HasHeader tokens n []
  holds : Holds parse [] out

pub record IsBody (parse : Parse) (n : ℕ) (tokens : List Token) (out : List Numbered) : Type 0 where
  line : ℕ
  body : List Token
  header : HasHeader tokens line body
  behind : line < n
  holds : Holds parse body out

-- what is known of the tokens so far, on this line
abbrev pub IsPhase : Phase → Parse → ℕ → List Token → List Numbered → Type 0
IsPhase phase.Nothing parse n tokens out = (tokens ≡ []) × Holds parse [] out
IsPhase phase.AfterP parse n tokens out = IsAfterP parse n tokens out
IsPhase phase.Rest parse n tokens out = IsRest parse n tokens out
IsPhase phase.Body parse n tokens out = IsBody parse n tokens out

pub record Knows (parse : Parse) (n : ℕ) (tokens : List Token) (out : List Numbered) : Type 0 where
  pub at : IsPhase parse.phase parse n tokens out

-- what comes of one token or one line more
pub record Comes (taken : Taken) (line n : ℕ) (tokens : List Token) (out : List Numbered) : Type 0 where
  pub goes : taken.reason ≡ None → Knows taken.parse n tokens (out ++ taken.given)
  pub stays : (r : Reason) → taken.reason ≡ Some r → (wrong_under (header_of n tokens) ≡ Some (record { line = line; reason = r })) × (out ++ taken.given ≡ statements_under (header_of n tokens))

header_found : (n : ℕ) (tokens : List Token) (line : ℕ) (body : List Token) → HasHeader tokens line body → header_of n tokens ≡ Found body
header_found n tokens line body h =
    ap (header_of n) h.whole ∙ ap (λ b. cond b (Found (filter (is_behind h.first.line) h.more)) (Broken h.first.line)) h.right ∙ ap Found h.body_is

found_right : (tokens : List Token) → wrong_after [] tokens ≡ None → (wrong_under (Found tokens) ≡ None) × (statements_under (Found tokens) ≡ statements_of tokens)
found_right tokens h = (h, ap statements_of (right_all [] tokens h))

same_line : (a b : ℕ) → a ≡ b → nat_lt a b ≡ false
same_line a b h = grind (arith, nat_tests)

eq_line : (a b : ℕ) → a ≡ b → (a == b) ≡ true
eq_line a b h = grind (arith, nat_tests)

-- what is known says that nothing is wrong, and which statements there are
pub knows_right : (parse : Parse) (n : ℕ) (tokens : List Token) (out : List Numbered) → Knows parse n tokens out → (wrong_under (header_of n tokens) ≡ None) × (out ≡ statements_under (header_of n tokens))
knows_right parse n tokens out h = by parse.phase h.at
  where
    found : (header : Header) (body : List Token) → header ≡ Found body → Holds parse body out → (wrong_under header ≡ None) × (out ≡ statements_under header)
    found header body is holds = let right = found_right body holds.right in (ap wrong_under is ∙ right.0, holds.given ∙ sym right.1 ∙ ap statements_under (sym is))

    missing : (header : Header) → header ≡ Missing → Holds parse [] out → (wrong_under header ≡ None) × (out ≡ statements_under header)
    missing header is holds = (ap wrong_under is, holds.given ∙ ap statements_under (sym is))

    after_p : (first : Token) → bytes_eq first.bytes (codes "p") ≡ true → first.line ≡ n → header_of n (first ∷ []) ≡ Missing
    after_p first is line = ap (λ b. cond b Missing (Broken first.line)) (and_from _ _ is (ap not (same_line first.line n line)))

    by : (p : Phase) → IsPhase p parse n tokens out → (wrong_under (header_of n tokens) ≡ None) × (out ≡ statements_under (header_of n tokens))
    by phase.Nothing at = missing (header_of n tokens) (ap (header_of n) at.0) at.1
    by phase.AfterP at = missing (header_of n tokens) (ap (header_of n) at.whole ∙ after_p at.first at.is at.line_is) at.holds
    by phase.Rest at = found (header_of n tokens) [] (header_found n tokens n [] at.header) at.holds
    by phase.Body at = found (header_of n tokens) at.body (header_found n tokens at.line at.body at.header) at.holds

-- one token more behind a header
header_push : (tokens : List Token) (line : ℕ) (body : List Token) (t : Token) (b : Bool) → nat_lt line t.line ≡ b → HasHeader tokens line body → HasHeader (tokens ++ t ∷ []) line (body ++ cond b (t ∷ []) [])
header_push tokens line body t b is h = record {
  first = h.first;
  second = h.second;
  more = h.more ++ t ∷ [];
  whole = ap (λ (r : List Token). r ++ t ∷ []) h.whole;
  right = h.right;
  line_is = h.line_is;
  body_is = filter-push (is_behind h.first.line) h.more t ∙ ap (λ (r : List Token). r ++ cond (is_behind h.first.line t) (t ∷ []) []) h.body_is
      ∙ ap (λ c. body ++ cond c (t ∷ []) []) (ap (λ l. nat_lt l t.line) h.line_is ∙ is);
}

-- the state of statements doesn't depend on the header's
holds_phase : (parse : Parse) (p : Phase) (tokens : List Token) (out : List Numbered) → Holds parse tokens out → Holds (record parse { phase = p }) tokens (out ++ [])
holds_phase parse p tokens out h = record { right = h.right; opened = h.opened; clauses = h.clauses; cubes = h.cubes; literals = h.literals; given = append-nil out ∙ h.given }

broken : (header : Header) (n : ℕ) (parse : Parse) (out : List Numbered) → header ≡ Broken n → Holds parse [] out → (wrong_under header ≡ Some (record { line = n; reason = reason.Header })) × (out ++ [] ≡ statements_under header)
broken header n parse out is h = (ap wrong_under is, append-nil out ∙ h.given ∙ ap statements_under (sym is))

same_some : (r q : Reason) → ◌≡◌ {A = Option Reason} (Some r) (Some q) → r ≡ q
same_some r q h = cc

-- the first word, and the second
first_by : (b : Bool) (parse : Parse) (n : ℕ) (t : Token) (out : List Numbered) → bytes_eq t.bytes (codes "p") ≡ b → t.line ≡ n → Holds parse [] out →
    Comes (cond b (goes_on (record parse { phase = phase.AfterP })) (stops parse reason.Header)) n n (t ∷ []) out
first_by true parse n t out is line h = record {
  goes = λ _. record { at = record { first = t; whole = refl; is = is; line_is = line; holds = holds_phase parse phase.AfterP [] out h } };
  stays = λ r q. cc;
}
first_by false parse n t out is line h = record {
  goes = λ q. cc;
  stays = λ r q. subst (λ (x : Reason). (wrong_under (header_of n (t ∷ [])) ≡ Some (record { line = n; reason = x })) × (out ++ [] ≡ statements_under (header_of n (t ∷ [])))) (same_some reason.Header r q)
      (broken (header_of n (t ∷ [])) n parse out (ap (λ c. cond (c && not (nat_lt t.line n)) Missing (Broken t.line)) is ∙ ap Broken line) h);
}

second_by : (b : Bool) (parse : Parse) (n : ℕ) (first t : Token) (out : List Numbered) → bytes_eq t.bytes (codes "inccnf") ≡ b → bytes_eq first.bytes (codes "p") ≡ true → first.line ≡ n → t.line ≡ n → Holds parse [] out →
    Comes (cond b (goes_on (record parse { phase = phase.Rest })) (stops parse reason.Header)) n n (first ∷ t ∷ []) out
second_by true parse n first t out is p line line' h = record {
  goes = λ _. record {
    at = record {
      header = record { first = first; second = t; more = []; whole = refl; right = and_from _ _ (and_from _ _ p (eq_line first.line t.line (line ∙ sym line'))) is; line_is = line; body_is = refl };
      holds = holds_phase parse phase.Rest [] out h;
    };
  };
  stays = λ r q. cc;
}
second_by false parse n first t out is p line line' h = record {
  goes = λ q. cc;
  stays = λ r q. subst (λ (x : Reason). (wrong_under (header_of n (first ∷ t ∷ [])) ≡ Some (record { line = n; reason = x })) × (out ++ [] ≡ statements_under (header_of n (first ∷ t ∷ [])))) (same_some reason.Header r q)
      (broken (header_of n (first ∷ t ∷ [])) n parse out (no (bytes_eq first.bytes (codes "p") && first.line == t.line) ∙ ap Broken line) h);
}
  where
    no : (a : Bool) → cond (a && bytes_eq t.bytes (codes "inccnf")) (Found []) (Broken first.line) ≡ Broken first.line
    no true = ap (λ c. cond c (Found []) (Broken first.line)) is
    no false = refl

rest_takes : (parse : Parse) (n : ℕ) (tokens : List Token) (t : Token) (out : List Numbered) → parse.phase ≡ phase.Rest → t.line ≡ n → IsRest parse n tokens out → Comes (goes_on parse) n n (tokens ++ t ∷ []) out
rest_takes parse n tokens t out e line h = record {
  goes = λ _. record {
    at = subst (λ (p : Phase). IsPhase p parse n (tokens ++ t ∷ []) (out ++ [])) (sym e)
        (record { header = header_push tokens n [] t false (same_line n t.line (sym line)) h.header; holds = subst (Holds parse []) (sym (append-nil out)) h.holds });
  };
  stays = λ r q. cc;
}

-- a token keeps the phase of the body
body_takes : (parse : Parse) (taken : Taken) (n line : ℕ) (body tokens : List Token) (t : Token) (out : List Numbered) → taken.parse.phase ≡ phase.Body → t.line ≡ n → line < n → HasHeader tokens line body → Holds parse body out → Takes taken body t out →
    Comes taken n n (tokens ++ t ∷ []) out
body_takes parse taken n line body tokens t out e at_line behind header holds takes =
    let more : HasHeader (tokens ++ t ∷ []) line (body ++ t ∷ []) = header_push tokens line body t true (lt-ltb line t.line (omega arith)) header in
    let found : header_of n (tokens ++ t ∷ []) ≡ Found (body ++ t ∷ []) = header_found n (tokens ++ t ∷ []) line (body ++ t ∷ []) more in record {
      goes = λ q. record {
        at = subst (λ (p : Phase). IsPhase p taken.parse n (tokens ++ t ∷ []) (out ++ taken.given)) (sym e)
            (record { line = line; body = body ++ t ∷ []; header = more; behind = behind; holds = takes.goes q });
      };
      stays = λ r q.
          let why : reason_of body t.bytes ≡ Some r = sym takes.why ∙ q in (
            ap wrong_under found ∙ wrong_after-push [] body t ∙ ap (λ (w : Option Fault). option_or w (fault_on t.line (reason_of body t.bytes))) holds.right
                ∙ ap (fault_on t.line) why ∙ ap (λ l. Some (record { line = l; reason = r })) at_line,
            ap (λ (g : List Numbered). out ++ g) (takes.stays r q) ∙ append-nil out ∙ holds.given
                ∙ sym (ap statements_of (right_stops [] body t r holds.right why)) ∙ ap statements_under (sym found),
          );
    }

-- a token of the statements keeps the phase
stop_or_go : (b : Bool) (parse next : Parse) (r : Reason) → next.phase ≡ parse.phase → (cond b (stops parse r) (goes_on next)).parse.phase ≡ parse.phase
stop_or_go true parse next r is = refl
stop_or_go false parse next r is = is

begun_phase : (o : Open) (parse : Parse) (line : ℕ) → (begun_at o parse line).parse.phase ≡ parse.phase
begun_phase open_as.Nothing parse line = stop_or_go (nat_le 16777216 parse.clauses) parse (record parse { opened = open_as.Clause; start = line; clauses = parse.clauses + 1 }) reason.TooMany refl
begun_phase open_as.Clause parse line = refl
begun_phase open_as.Cube parse line = refl

mark_phase : (o : Open) (parse : Parse) (line : ℕ) → (mark_at o parse line).parse.phase ≡ parse.phase
mark_phase open_as.Nothing parse line = stop_or_go (nat_le 1048576 parse.cubes) parse (record parse { opened = open_as.Cube; start = line; cubes = parse.cubes + 1 }) reason.TooMany refl
mark_phase open_as.Clause parse line = refl
mark_phase open_as.Cube parse line = refl

closed_phase : (why : Option Reason) (parse : Parse) → (closed_unless why parse).parse.phase ≡ parse.phase
closed_phase None parse = refl
closed_phase (Some r) parse = refl

pushed_phase : (why : Option Reason) (parse : Parse) (code : ℕ) → (pushed_unless why parse code).parse.phase ≡ parse.phase
pushed_phase None parse code = stop_or_go (nat_le 33554432 parse.literals) parse (record parse { lits = parse.lits ++ code ∷ []; literals = parse.literals + 1 }) reason.TooMany refl
pushed_phase (Some r) parse code = refl

literal_phase : (o : Option ℕ) (parse : Parse) (line : ℕ) → (literal_taken o parse line).parse.phase ≡ parse.phase
literal_phase None parse line = refl
literal_phase (Some code) parse line = pushed_phase (begun parse line).reason (begun parse line).parse code ∙ begun_phase parse.opened parse line

phase_stays : (parse : Parse) (line : ℕ) (w : Word) → (token_taken parse line w).parse.phase ≡ parse.phase
phase_stays parse line word.Nothing = refl
phase_stays parse line word.Zero = closed_phase (begun parse line).reason (begun parse line).parse ∙ begun_phase parse.opened parse line
phase_stays parse line word.Minus = refl
phase_stays parse line word.Mark = mark_phase parse.opened parse line
phase_stays parse line (word.Number negative v) = literal_phase (lit_code negative v) parse line
phase_stays parse line word.P = refl
phase_stays parse line (word.Inccnf count) = refl
phase_stays parse line word.Strange = refl

-- a word that has ended on this line
pub word_comes : (parse : Parse) (n : ℕ) (tokens : List Token) (out : List Numbered) (w : Word) (bytes : List ℕ) → IsWord w bytes → 0 < length bytes → Knows parse n tokens out →
    Comes (word_at parse.phase parse n w) n n (tokens ++ record { line = n; bytes = bytes } ∷ []) out
word_comes parse n tokens out w bytes is some h = by parse.phase refl h.at
  where
    by : (p : Phase) → parse.phase ≡ p → IsPhase p parse n tokens out → Comes (word_at p parse n w) n n (tokens ++ record { line = n; bytes = bytes } ∷ []) out
    by phase.Nothing e at =
        subst (λ (ts : List Token). Comes (word_at phase.Nothing parse n w) n n (ts ++ record { line = n; bytes = bytes } ∷ []) out) (sym at.0)
        (first_by (is_p w) parse n (record { line = n; bytes = bytes }) out (sym (is_p-is w bytes is)) refl at.1)
    by phase.AfterP e at =
        subst (λ (ts : List Token). Comes (word_at phase.AfterP parse n w) n n (ts ++ record { line = n; bytes = bytes } ∷ []) out) (sym at.whole)
        (second_by (is_inccnf w) parse n at.first (record { line = n; bytes = bytes }) out (sym (is_inccnf-is w bytes is)) at.is at.line_is refl at.holds)
    by phase.Rest e at = rest_takes parse n tokens (record { line = n; bytes = bytes }) out e refl at
    by phase.Body e at =
        body_takes parse (token_taken parse n w) n at.line at.body tokens (record { line = n; bytes = bytes }) out (phase_stays parse n w ∙ e) refl at.behind at.header at.holds
        (token_takes w parse at.body (record { line = n; bytes = bytes }) out is some at.holds)

-- a line feed on this line
pub line_comes : (parse : Parse) (n : ℕ) (tokens : List Token) (out : List Numbered) → Knows parse n tokens out → Comes (line_at parse.phase parse) n (n + 1) tokens out
line_comes parse n tokens out h = by parse.phase refl h.at
  where
    after : (first : Token) → first.line ≡ n → header_of (n + 1) (first ∷ []) ≡ Broken n
    after first line = ap (λ c. cond (bytes_eq first.bytes (codes "p") && not c) Missing (Broken first.line)) (lt-ltb first.line (n + 1) (omega arith)) ∙ no (bytes_eq first.bytes (codes "p")) ∙ ap Broken line
      where
        no : (a : Bool) → cond (a && false) Missing (Broken first.line) ≡ Broken first.line
        no true = refl
        no false = refl

    by : (p : Phase) → parse.phase ≡ p → IsPhase p parse n tokens out → Comes (line_at p parse) n (n + 1) tokens out
    by phase.Nothing e at = record {
      goes = λ _. record { at = subst (λ (p : Phase). IsPhase p parse (n + 1) tokens (out ++ [])) (sym e) (at.0, subst (Holds parse []) (sym (append-nil out)) at.1) };
      stays = λ r q. cc;
    }
    by phase.AfterP e at = record {
      goes = λ q. cc;
      stays = λ r q. subst (λ (x : Reason). (wrong_under (header_of (n + 1) tokens) ≡ Some (record { line = n; reason = x })) × (out ++ [] ≡ statements_under (header_of (n + 1) tokens))) (same_some reason.Header r q)
          (broken (header_of (n + 1) tokens) n parse out (ap (header_of (n + 1)) at.whole ∙ after at.first at.line_is) at.holds);
    }
    by phase.Rest e at = record {
      goes = λ _. record { at = record { line = n; body = []; header = at.header; behind = omega arith; holds = holds_phase parse phase.Body [] out at.holds } };
      stays = λ r q. cc;
    }
    by phase.Body e at = record {
      goes = λ _. record {
        at = subst (λ (p : Phase). IsPhase p parse (n + 1) tokens (out ++ [])) (sym e)
            (record { line = at.line; body = at.body; header = at.header; behind = (let b = at.behind in omega arith); holds = subst (Holds parse at.body) (sym (append-nil out)) at.holds });
      };
      stays = λ r q. cc;
    }

-- no token yet
pub knows_nothing : Knows start.parse 1 [] []
knows_nothing = record { at = (refl, record { right = refl; opened = (refl, refl); clauses = refl; cubes = refl; literals = refl; given = refl }) }

pub line_given : (p : Phase) (parse : Parse) → (line_at p parse).given ≡ []
line_given phase.Nothing parse = refl
line_given phase.AfterP parse = refl
line_given phase.Rest parse = refl
line_given phase.Body parse = refl

-- the end of the text
open_ends : (o : Open) (parse : Parse) (line : ℕ) (tokens : List Token) → IsOpen o parse.start parse.lits (open_of tokens) → fault_on line (is_open o) ≡ wrong_end line (Found tokens)
open_ends open_as.Nothing parse line tokens at = ap (λ (t : List Token). cond (length t == 0) None (Some (record { line = line; reason = reason.Unfinished }))) (sym at.0)
open_ends open_as.Clause parse line tokens at = some_ends line (length (open_of tokens)) at.0
  where
    some_ends : (line n : ℕ) → 0 < n → ◌≡◌ {A = Option Fault} (Some (record { line = line; reason = reason.Unfinished })) (cond (n == 0) None (Some (record { line = line; reason = reason.Unfinished })))
    some_ends line n some = let no : (n == 0) ≡ false = grind (arith, nat_tests) in rw no refl
open_ends open_as.Cube parse line tokens at = some_ends line (length (open_of tokens)) at.0
  where
    some_ends : (line n : ℕ) → 0 < n → ◌≡◌ {A = Option Fault} (Some (record { line = line; reason = reason.Unfinished })) (cond (n == 0) None (Some (record { line = line; reason = reason.Unfinished })))
    some_ends line n some = let no : (n == 0) ≡ false = grind (arith, nat_tests) in rw no refl

pub end_is : (parse : Parse) (n line : ℕ) (tokens : List Token) (out : List Numbered) → Knows parse n tokens out → fault_on line (end_at parse.phase parse) ≡ wrong_end line (header_of n tokens)
end_is parse n line tokens out h = by parse.phase h.at
  where
    after_p : (first : Token) → bytes_eq first.bytes (codes "p") ≡ true → first.line ≡ n → header_of n (first ∷ []) ≡ Missing
    after_p first is at = ap (λ b. cond b Missing (Broken first.line)) (and_from _ _ is (ap not (same_line first.line n at)))

    by : (p : Phase) → IsPhase p parse n tokens out → fault_on line (end_at p parse) ≡ wrong_end line (header_of n tokens)
    by phase.Nothing at = ap (wrong_end line) (sym (ap (header_of n) at.0))
    by phase.AfterP at = ap (wrong_end line) (sym (ap (header_of n) at.whole ∙ after_p at.first at.is at.line_is))
    by phase.Rest at = ap (wrong_end line) (sym (header_found n tokens n [] at.header))
    by phase.Body at = open_ends parse.opened parse line at.body at.holds.opened ∙ ap (wrong_end line) (sym (header_found n tokens at.line at.body at.header))

-- A first wrong token stays the first one, whatever stands behind it on its line and on later lines.
abbrev Stays : Header → Header → Fault → Type 0
Stays header next f = (wrong_under next ≡ Some f) × (statements_under next ≡ statements_under header)

lt_through : (a n m : ℕ) → nat_lt a n ≡ true → n ≤ m → nat_lt a m ≡ true
lt_through a n m h le = lt-ltb a m (let k = ltb-true a n h in omega arith)

one_stays : (p behind : Bool) (n m : ℕ) (t : Token) (more : List Token) (f : Fault) → bytes_eq t.bytes (codes "p") ≡ p → nat_lt t.line n ≡ behind → n ≤ m → ((u : Token) (us : List Token) → more ≡ u ∷ us → u.line ≡ n) →
    wrong_under (cond (p && not behind) Missing (Broken t.line)) ≡ Some f → Stays (cond (p && not behind) Missing (Broken t.line)) (header_of m (t ∷ more)) f
one_stays true true n m t [] f h k le on is = (ap wrong_under broken_too ∙ is, ap statements_under broken_too)
  where
    broken_too : header_of m (t ∷ []) ≡ Broken t.line
    broken_too = rw (h, lt_through t.line n m k le) refl
one_stays true true n m t (u ∷ us) f h k le on is = (ap wrong_under broken_too ∙ is, ap statements_under broken_too)
  where
    apart : (a b : ℕ) → a < b → (a == b) ≡ false
    apart a b lt = grind (arith, nat_tests)

    broken_too : header_of m (t ∷ u ∷ us) ≡ Broken t.line
    broken_too = rw (h, apart t.line u.line (let low = ltb-true t.line n k in let at = on u us refl in omega arith)) refl
one_stays true false n m t more f h k le on is = cc
one_stays false behind n m t [] f h k le on is = (ap wrong_under broken_too ∙ is, ap statements_under broken_too)
  where
    broken_too : header_of m (t ∷ []) ≡ Broken t.line
    broken_too = rw h refl
one_stays false behind n m t (u ∷ us) f h k le on is = (ap wrong_under broken_too ∙ is, ap statements_under broken_too)
  where
    broken_too : header_of m (t ∷ u ∷ us) ≡ Broken t.line
    broken_too = rw h refl

filter_more : (p : Token → Bool) (xs ys : List Token) → filter p (xs ++ ys) ≡ filter p xs ++ filter p ys
filter_more p [] ys = refl
filter_more p (x ∷ xs) ys = by (p x) _ _ _ (filter_more p xs ys)
  where
    by : (b : Bool) (all left right : List Token) → all ≡ left ++ right → cond b (x ∷ all) all ≡ cond b (x ∷ left) left ++ right
    by true all left right h = ap (λ (r : List Token). x ∷ r) h
    by false all left right h = h

two_stays : (b : Bool) (t u : Token) (us more : List Token) (f : Fault) → is_header t u ≡ b → wrong_under (cond b (Found (filter (is_behind t.line) us)) (Broken t.line)) ≡ Some f →
    Stays (cond b (Found (filter (is_behind t.line) us)) (Broken t.line)) (cond b (Found (filter (is_behind t.line) (us ++ more))) (Broken t.line)) f
two_stays true t u us more f h is =
    let same = filter_more (is_behind t.line) us more in (
      ap (wrong_after []) same ∙ wrong_stays [] (filter (is_behind t.line) us) (filter (is_behind t.line) more) f is,
      ap (λ (r : List Token). statements_of (right_after [] r)) same ∙ ap statements_of (right_stays [] (filter (is_behind t.line) us) (filter (is_behind t.line) more) f is),
    )
two_stays false t u us more f h is = (is, refl)

pub header_stays : (n m : ℕ) (tokens more : List Token) (f : Fault) → n ≤ m → ((u : Token) (us : List Token) → more ≡ u ∷ us → u.line ≡ n) → wrong_under (header_of n tokens) ≡ Some f →
    (wrong_under (header_of m (tokens ++ more)) ≡ Some f) × (statements_under (header_of m (tokens ++ more)) ≡ statements_under (header_of n tokens))
header_stays n m [] more f le on is = cc
header_stays n m (t ∷ []) more f le on is = one_stays (bytes_eq t.bytes (codes "p")) (nat_lt t.line n) n m t more f refl refl le on is
header_stays n m (t ∷ u ∷ us) more f le on is = two_stays (is_header t u) t u us more f refl is
