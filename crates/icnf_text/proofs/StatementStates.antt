-- What a reader knows of the tokens of statements, with one more token.
use Rattle.std.proofs.Common.{◌≡◌, ◌∙◌, ℕ, ◌+◌, ◌<◌, ◌≤◌, List, [], ◌∷◌, ◌++◌, length, Bool, true, false, cond, refl, ap, sym, subst, arith, append-nil, inl, inr}
use Rattle.std.specs.Prelude.{◌⊎◌, ◌&&◌, ◌==◌, not, nat_le, Option, Some, None}
use Rattle.std.specs.Option.{option_or}
use Rattle.std.proofs.lemmas.Bool.{cases_lt}
use Rattle.std.proofs.lemmas.Bool.Decides.{nat_tests}
use Rattle.sat_base.specs.Lit.{in_order}
use Rattle.icnf_text.specs.declared.statements.Statement.TheVariants.{Clause, Cube}
use Rattle.icnf_text.specs.declared.statements.Numbered.{Numbered}
use Rattle.icnf_text.specs.declared.faults.Reason.{Reason}
use Rattle.icnf_text.specs.declared.faults.Reason.TheVariants as reason
use Rattle.icnf_text.specs.declared.faults.Fault.{Fault}
use Rattle.icnf_text.specs.declared.words.Word.{Word}
use Rattle.icnf_text.specs.declared.words.Word.TheVariants as word
use Rattle.icnf_text.specs.declared.parser.Open.{Open}
use Rattle.icnf_text.specs.declared.parser.Open.TheVariants as open_as
use Rattle.icnf_text.specs.Layout.{Token}
use Rattle.icnf_text.specs.Number.{is_zero, is_mark, is_literal, code_of, variable_of, is_variable}
use Rattle.icnf_text.specs.Judgement.{open_of, lits_of, begins_cube, first_line, statement_of, statements_of, is_clause, count_clauses, count_cubes, count_literals, is_begin, reason_of, fault_on, wrong_after}
use Rattle.icnf_text.specs.Machine.{Parse, Taken, goes_on, stops, mark_at, begun_at, begun, lit_code, pushed_unless, literal_taken, statement_as, closed_unless, zero_taken, token_taken}
use Rattle.icnf_text.proofs.Tokens.{IsWord, IsNumber}
use Rattle.icnf_text.proofs.TokenKinds.{IsOther, other_minus, other_p, other_front, other_strange, literal_differs, lit_code-within, lit_code-over, variable_within, variable_over}
use Rattle.icnf_text.proofs.Grammar.{open_of-more, open_of-zero, statements_of-more, statements_of-zero, lits_of-push, count_by-push, wrong_after-push}

-- how many statements of each kind are open
abbrev open_clause : Open → ℕ
open_clause open_as.Nothing = 0
open_clause open_as.Clause = 1
open_clause open_as.Cube = 0

abbrev open_cube : Open → ℕ
open_cube open_as.Nothing = 0
open_cube open_as.Clause = 0
open_cube open_as.Cube = 1

-- the tokens of the statement that is open
abbrev pub IsOpen : Open → ℕ → List ℕ → List Token → Type 0
IsOpen open_as.Nothing start lits tokens = (tokens ≡ []) × (lits ≡ [])
IsOpen open_as.Clause start lits tokens = (0 < length tokens) × (begins_cube tokens ≡ false) × (first_line tokens ≡ start) × (lits ≡ lits_of tokens)
IsOpen open_as.Cube start lits tokens = (0 < length tokens) × (begins_cube tokens ≡ true) × (first_line tokens ≡ start) × (lits ≡ lits_of tokens)

-- all of these tokens are right, and this is known of them
pub record Holds (parse : Parse) (tokens : List Token) (out : List Numbered) : Type 0 where
  pub right : wrong_after [] tokens ≡ None
  pub opened : IsOpen parse.opened parse.start parse.lits (open_of tokens)
  pub clauses : parse.clauses ≡ count_clauses (statements_of tokens) + open_clause parse.opened
  pub cubes : parse.cubes ≡ count_cubes (statements_of tokens) + open_cube parse.opened
  pub literals : parse.literals ≡ count_literals tokens
  pub given : out ≡ statements_of tokens

-- what comes of one token more
pub record Takes (taken : Taken) (tokens : List Token) (t : Token) (out : List Numbered) : Type 0 where
  pub why : taken.reason ≡ reason_of tokens t.bytes
  pub goes : taken.reason ≡ None → Holds taken.parse (tokens ++ t ∷ []) (out ++ taken.given)
  pub stays : (r : Reason) → taken.reason ≡ Some r → taken.given ≡ []

right_more : (tokens : List Token) (t : Token) → wrong_after [] tokens ≡ None → reason_of tokens t.bytes ≡ None → wrong_after [] (tokens ++ t ∷ []) ≡ None
right_more tokens t right none =
    wrong_after-push [] tokens t ∙ ap (λ (w : Option Fault). option_or w (fault_on t.line (reason_of tokens t.bytes))) right ∙ ap (fault_on t.line) none

stopped : (parse : Parse) (r : Reason) (tokens : List Token) (t : Token) (out : List Numbered) → reason_of tokens t.bytes ≡ Some r → Takes (stops parse r) tokens t out
stopped parse r tokens t out is = record { why = sym is; goes = λ h. cc; stays = λ q h. refl }

-- a token that is none of a statement's
reason-other : (tokens : List Token) (bytes : List ℕ) → IsOther bytes → reason_of tokens bytes ≡ Some reason.Token
reason-other tokens bytes is = rw (is.not_zero, is.not_literal, is.not_mark) refl

-- whether a statement begins
nothing_open : (tokens : List Token) → open_of tokens ≡ [] → is_begin tokens ≡ true
nothing_open tokens h = ap (λ (o : List Token). length o == 0) h

some_open : (tokens : List Token) → 0 < length (open_of tokens) → is_begin tokens ≡ false
some_open tokens h = by (length (open_of tokens)) h
  where
    by : (n : ℕ) → 0 < n → (n == 0) ≡ false
    by n h = grind (arith, nat_tests)

within : (a b : ℕ) → a < b → nat_le b a ≡ false
within a b h = grind (arith, nat_tests)

-- the mark of a cube: its reason, by whether a statement is open
reason-mark : (tokens : List Token) (begin large : Bool) → is_begin tokens ≡ begin → nat_le 1048576 (count_cubes (statements_of tokens)) ≡ large →
    reason_of tokens (97 ∷ []) ≡ cond begin (cond large (Some reason.TooMany) None) (Some reason.Token)
reason-mark tokens true true h k = rw (h, k) refl
reason-mark tokens true false h k = rw (h, k) refl
reason-mark tokens false large h k = rw h refl

literals_same : (tokens : List Token) (t : Token) → is_literal t.bytes ≡ false → count_literals (tokens ++ t ∷ []) ≡ count_literals tokens
literals_same tokens t h = count_by-push (λ (u : Token). is_literal u.bytes) tokens t ∙ ap (λ l. count_literals tokens + cond l 1 0) h ∙ omega arith

literals_more : (tokens : List Token) (t : Token) → is_literal t.bytes ≡ true → count_literals (tokens ++ t ∷ []) ≡ count_literals tokens + 1
literals_more tokens t h = count_by-push (λ (u : Token). is_literal u.bytes) tokens t ∙ ap (λ l. count_literals tokens + cond l 1 0) h

mark_new : (parse : Parse) (tokens : List Token) (n : ℕ) (out : List Numbered) → Holds parse tokens out → open_of tokens ≡ [] → parse.lits ≡ [] → parse.opened ≡ open_as.Nothing →
    reason_of tokens (97 ∷ []) ≡ None → Holds (record parse { opened = open_as.Cube; start = n; cubes = parse.cubes + 1 }) (tokens ++ record { line = n; bytes = 97 ∷ [] } ∷ []) (out ++ [])
mark_new parse tokens n out h none no_lits is right =
    let t : Token = record { line = n; bytes = 97 ∷ [] } in
    let opens : open_of (tokens ++ t ∷ []) ≡ t ∷ [] = open_of-more tokens t refl ∙ ap (λ (o : List Token). o ++ t ∷ []) none in
    let same : statements_of (tokens ++ t ∷ []) ≡ statements_of tokens = statements_of-more tokens t refl in record {
      right = right_more tokens t h.right right;
      opened = subst (λ (o : List Token). (0 < length o) × (begins_cube o ≡ true) × (first_line o ≡ n) × (parse.lits ≡ lits_of o)) (sym opens) (omega arith, refl, refl, no_lits);
      clauses = h.clauses ∙ ap (λ o. count_clauses (statements_of tokens) + open_clause o) is ∙ ap (λ (s : List Numbered). count_clauses s + 0) (sym same);
      cubes = ap (λ k. k + 1) (h.cubes ∙ ap (λ o. count_cubes (statements_of tokens) + open_cube o) is) ∙ by (count_cubes (statements_of tokens)) ∙ ap (λ (s : List Numbered). count_cubes s + 1) (sym same);
      literals = h.literals ∙ sym (literals_same tokens t refl);
      given = append-nil out ∙ h.given ∙ sym same;
    }
  where
    by : (k : ℕ) → (k + 0) + 1 ≡ k + 1
    by k = omega arith

mark_by : (large : Bool) (parse : Parse) (tokens : List Token) (n : ℕ) (out : List Numbered) → Holds parse tokens out → open_of tokens ≡ [] → parse.lits ≡ [] → parse.opened ≡ open_as.Nothing → nat_le 1048576 parse.cubes ≡ large → nat_le 1048576 (count_cubes (statements_of tokens)) ≡ large →
    Takes (cond large (stops parse reason.TooMany) (goes_on (record parse { opened = open_as.Cube; start = n; cubes = parse.cubes + 1 }))) tokens (record { line = n; bytes = 97 ∷ [] }) out
mark_by true parse tokens n out h none no_lits is k k' =
    stopped parse reason.TooMany tokens (record { line = n; bytes = 97 ∷ [] }) out (reason-mark tokens true true (nothing_open tokens none) k')
mark_by false parse tokens n out h none no_lits is k k' =
    let right : reason_of tokens (97 ∷ []) ≡ None = reason-mark tokens true false (nothing_open tokens none) k' in record {
      why = sym right;
      goes = λ _. mark_new parse tokens n out h none no_lits is right;
      stays = λ r q. cc;
    }

mark_takes : (o : Open) (parse : Parse) (tokens : List Token) (n : ℕ) (out : List Numbered) → parse.opened ≡ o → Holds parse tokens out → Takes (mark_at o parse n) tokens (record { line = n; bytes = 97 ∷ [] }) out
mark_takes open_as.Nothing parse tokens n out is h =
    let at : IsOpen open_as.Nothing parse.start parse.lits (open_of tokens) = subst (λ o. IsOpen o parse.start parse.lits (open_of tokens)) is h.opened in
    let cubes : parse.cubes ≡ count_cubes (statements_of tokens) = h.cubes ∙ ap (λ o. count_cubes (statements_of tokens) + open_cube o) is ∙ omega arith in
    mark_by (nat_le 1048576 parse.cubes) parse tokens n out h at.0 at.1 is refl (ap (nat_le 1048576) (sym cubes))
mark_takes open_as.Clause parse tokens n out is h =
    let at : IsOpen open_as.Clause parse.start parse.lits (open_of tokens) = subst (λ o. IsOpen o parse.start parse.lits (open_of tokens)) is h.opened in
    stopped parse reason.Token tokens (record { line = n; bytes = 97 ∷ [] }) out (reason-mark tokens false (nat_le 1048576 (count_cubes (statements_of tokens))) (some_open tokens at.0) refl)
mark_takes open_as.Cube parse tokens n out is h =
    let at : IsOpen open_as.Cube parse.start parse.lits (open_of tokens) = subst (λ o. IsOpen o parse.start parse.lits (open_of tokens)) is h.opened in
    stopped parse reason.Token tokens (record { line = n; bytes = 97 ∷ [] }) out (reason-mark tokens false (nat_le 1048576 (count_cubes (statements_of tokens))) (some_open tokens at.0) refl)

-- a statement that has begun, where this token stands next in it
abbrev IsSome : Open → Type 0
IsSome open_as.Nothing = ⊥
IsSome open_as.Clause = Unit {0}
IsSome open_as.Cube = Unit {0}

abbrev is_cube : Open → Bool
is_cube open_as.Nothing = false
is_cube open_as.Clause = false
is_cube open_as.Cube = true

record HasBegun (parse : Parse) (tokens : List Token) (t : Token) (out : List Numbered) : Type 0 where
  right : wrong_after [] tokens ≡ None
  some : IsSome parse.opened
  cube : begins_cube (open_of tokens ++ t ∷ []) ≡ is_cube parse.opened
  line : first_line (open_of tokens ++ t ∷ []) ≡ parse.start
  lits : parse.lits ≡ lits_of (open_of tokens)
  clauses : parse.clauses ≡ count_clauses (statements_of tokens) + open_clause parse.opened
  cubes : parse.cubes ≡ count_cubes (statements_of tokens) + open_cube parse.opened
  literals : parse.literals ≡ count_literals tokens
  given : out ≡ statements_of tokens

-- one clause too many
abbrev one_clause_more : List Token → Bool
one_clause_more tokens = is_begin tokens && nat_le 16777216 (count_clauses (statements_of tokens))

record Begins (taken : Taken) (tokens : List Token) (t : Token) (out : List Numbered) : Type 0 where
  why : taken.reason ≡ cond (one_clause_more tokens) (Some reason.TooMany) None
  goes : taken.reason ≡ None → HasBegun taken.parse tokens t out

begin_new : (parse : Parse) (tokens : List Token) (t : Token) (out : List Numbered) → Holds parse tokens out → open_of tokens ≡ [] → parse.lits ≡ [] → parse.opened ≡ open_as.Nothing → is_mark t.bytes ≡ false →
    HasBegun (record parse { opened = open_as.Clause; start = t.line; clauses = parse.clauses + 1 }) tokens t out
begin_new parse tokens t out h none no_lits is no_mark = record {
  right = h.right;
  some = tt;
  cube = ap (λ (o : List Token). begins_cube (o ++ t ∷ [])) none ∙ no_mark;
  line = ap (λ (o : List Token). first_line (o ++ t ∷ [])) none;
  lits = no_lits ∙ ap lits_of (sym none);
  clauses = ap (λ k. k + 1) (h.clauses ∙ ap (λ o. count_clauses (statements_of tokens) + open_clause o) is) ∙ by (count_clauses (statements_of tokens));
  cubes = h.cubes ∙ ap (λ o. count_cubes (statements_of tokens) + open_cube o) is;
  literals = h.literals;
  given = h.given;
}
  where
    by : (k : ℕ) → (k + 0) + 1 ≡ k + 1
    by k = omega arith

begin_by : (large : Bool) (parse : Parse) (tokens : List Token) (t : Token) (out : List Numbered) → Holds parse tokens out → open_of tokens ≡ [] → parse.lits ≡ [] → parse.opened ≡ open_as.Nothing → is_mark t.bytes ≡ false → nat_le 16777216 parse.clauses ≡ large → nat_le 16777216 (count_clauses (statements_of tokens)) ≡ large →
    Begins (cond large (stops parse reason.TooMany) (goes_on (record parse { opened = open_as.Clause; start = t.line; clauses = parse.clauses + 1 }))) tokens t out
begin_by true parse tokens t out h none no_lits is no_mark k k' = record {
  why = sym (ap (λ b. cond b (Some reason.TooMany) None) (ap (λ b. b && nat_le 16777216 (count_clauses (statements_of tokens))) (nothing_open tokens none) ∙ k'));
  goes = λ q. cc;
}
begin_by false parse tokens t out h none no_lits is no_mark k k' = record {
  why = sym (ap (λ b. cond b (Some reason.TooMany) None) (ap (λ b. b && nat_le 16777216 (count_clauses (statements_of tokens))) (nothing_open tokens none) ∙ k'));
  goes = λ _. begin_new parse tokens t out h none no_lits is no_mark;
}

first_more : (tokens : List Token) (t : Token) → 0 < length tokens → (begins_cube (tokens ++ t ∷ []) ≡ begins_cube tokens) × (first_line (tokens ++ t ∷ []) ≡ first_line tokens)
first_more [] t some = absurd (omega arith)
first_more (u ∷ us) t some = (refl, refl)

goes_by : (parse : Parse) (tokens : List Token) (t : Token) (out : List Numbered) (cube : Bool) → Holds parse tokens out → IsSome parse.opened → is_cube parse.opened ≡ cube →
    (0 < length (open_of tokens)) × (begins_cube (open_of tokens) ≡ cube) × (first_line (open_of tokens) ≡ parse.start) × (parse.lits ≡ lits_of (open_of tokens)) → Begins (goes_on parse) tokens t out
goes_by parse tokens t out cube h some is at =
    let same = first_more (open_of tokens) t at.0 in record {
      why = sym (ap (λ b. cond (b && nat_le 16777216 (count_clauses (statements_of tokens))) (Some reason.TooMany) None) (some_open tokens at.0));
      goes = λ _. record {
        right = h.right;
        some = some;
        cube = same.0 ∙ at.1 ∙ sym is;
        line = same.1 ∙ at.2;
        lits = at.3;
        clauses = h.clauses;
        cubes = h.cubes;
        literals = h.literals;
        given = h.given;
      };
    }

begins : (o : Open) (parse : Parse) (tokens : List Token) (t : Token) (out : List Numbered) → parse.opened ≡ o → Holds parse tokens out → is_mark t.bytes ≡ false → Begins (begun_at o parse t.line) tokens t out
begins open_as.Nothing parse tokens t out is h no_mark =
    let at : IsOpen open_as.Nothing parse.start parse.lits (open_of tokens) = subst (λ o. IsOpen o parse.start parse.lits (open_of tokens)) is h.opened in
    let clauses : parse.clauses ≡ count_clauses (statements_of tokens) = h.clauses ∙ ap (λ o. count_clauses (statements_of tokens) + open_clause o) is ∙ omega arith in
    begin_by (nat_le 16777216 parse.clauses) parse tokens t out h at.0 at.1 is no_mark refl (ap (nat_le 16777216) (sym clauses))
begins open_as.Clause parse tokens t out is h no_mark =
    let at : IsOpen open_as.Clause parse.start parse.lits (open_of tokens) = subst (λ o. IsOpen o parse.start parse.lits (open_of tokens)) is h.opened in
    goes_by parse tokens t out false h (subst IsSome (sym is) tt) (ap is_cube is) at
begins open_as.Cube parse tokens t out is h no_mark =
    let at : IsOpen open_as.Cube parse.start parse.lits (open_of tokens) = subst (λ o. IsOpen o parse.start parse.lits (open_of tokens)) is h.opened in
    goes_by parse tokens t out true h (subst IsSome (sym is) tt) (ap is_cube is) at

-- `0`
reason-zero : (tokens : List Token) (more : Bool) → one_clause_more tokens ≡ more → reason_of tokens (48 ∷ []) ≡ cond more (Some reason.TooMany) None
reason-zero tokens true h = rw h refl
reason-zero tokens false h = rw h refl

statement_by : (o : Open) (n : ℕ) (lits : List ℕ) (line : ℕ) (cube : Bool) (more : List ℕ) → IsSome o → cube ≡ is_cube o → line ≡ n → lits ≡ more →
    ◌≡◌ {A = Numbered} (record { line = n; statement = statement_as o (in_order lits) }) (record { line = line; statement = cond cube (Cube (in_order more)) (Clause (in_order more)) })
statement_by open_as.Nothing n lits line cube more some c l is = absurd some
statement_by open_as.Clause n lits line cube more some c l is = rw (c, l, ← is) refl
statement_by open_as.Cube n lits line cube more some c l is = rw (c, l, ← is) refl

clause_counts : (o : Open) (lits : List ℕ) → IsSome o → cond (is_clause (statement_as o lits)) 1 0 ≡ open_clause o
clause_counts open_as.Nothing lits some = absurd some
clause_counts open_as.Clause lits some = refl
clause_counts open_as.Cube lits some = refl

cube_counts : (o : Open) (lits : List ℕ) → IsSome o → cond (not (is_clause (statement_as o lits))) 1 0 ≡ open_cube o
cube_counts open_as.Nothing lits some = absurd some
cube_counts open_as.Clause lits some = refl
cube_counts open_as.Cube lits some = refl

zero_new : (parse : Parse) (tokens : List Token) (t : Token) (out : List Numbered) → HasBegun parse tokens t out → is_zero t.bytes ≡ true → is_literal t.bytes ≡ false → reason_of tokens t.bytes ≡ None →
    Holds (record parse { opened = open_as.Nothing; lits = [] }) (tokens ++ t ∷ []) (out ++ record { line = parse.start; statement = statement_as parse.opened (in_order parse.lits) } ∷ [])
zero_new parse tokens t out h ends no_literal right =
    let s : Numbered = record { line = parse.start; statement = statement_as parse.opened (in_order parse.lits) } in
    let is : s ≡ statement_of (open_of tokens ++ t ∷ []) =
    statement_by parse.opened parse.start parse.lits (first_line (open_of tokens ++ t ∷ [])) (begins_cube (open_of tokens ++ t ∷ [])) (lits_of (open_of tokens ++ t ∷ [])) h.some h.cube h.line
    (h.lits ∙ sym (lits_of-push (open_of tokens) t false no_literal)) in
    let all : statements_of (tokens ++ t ∷ []) ≡ statements_of tokens ++ s ∷ [] = statements_of-zero tokens t ends ∙ ap (λ (x : Numbered). statements_of tokens ++ x ∷ []) (sym is) in
    record {
      right = right_more tokens t h.right right;
      opened = (open_of-zero tokens t ends, refl);
      clauses = h.clauses ∙ sym (ap count_clauses all ∙ count_by-push (λ (n : Numbered). is_clause n.statement) (statements_of tokens) s ∙ ap (λ k. count_clauses (statements_of tokens) + k) (clause_counts parse.opened (in_order parse.lits) h.some)) ∙ sym (plus_zero (count_clauses (statements_of (tokens ++ t ∷ []))));
      cubes = h.cubes ∙ sym (ap count_cubes all ∙ count_by-push (λ (n : Numbered). not (is_clause n.statement)) (statements_of tokens) s ∙ ap (λ k. count_cubes (statements_of tokens) + k) (cube_counts parse.opened (in_order parse.lits) h.some)) ∙ sym (plus_zero (count_cubes (statements_of (tokens ++ t ∷ []))));
      literals = h.literals ∙ sym (literals_same tokens t no_literal);
      given = ap (λ (o : List Numbered). o ++ s ∷ []) h.given ∙ sym all;
    }
  where
    plus_zero : (k : ℕ) → k + 0 ≡ k
    plus_zero k = omega arith

zero_by : (taken : Taken) (why : Option Reason) (tokens : List Token) (n : ℕ) (out : List Numbered) → taken.reason ≡ why → Begins taken tokens (record { line = n; bytes = 48 ∷ [] }) out →
    Takes (closed_unless why taken.parse) tokens (record { line = n; bytes = 48 ∷ [] }) out
zero_by taken (Some r) tokens n out is h =
    stopped taken.parse r tokens (record { line = n; bytes = 48 ∷ [] }) out (reason-zero tokens (one_clause_more tokens) refl ∙ sym h.why ∙ is)
zero_by taken None tokens n out is h =
    let right : reason_of tokens (48 ∷ []) ≡ None = reason-zero tokens (one_clause_more tokens) refl ∙ sym h.why ∙ is in record {
      why = sym right;
      goes = λ _. zero_new taken.parse tokens (record { line = n; bytes = 48 ∷ [] }) out (h.goes is) refl refl right;
      stays = λ r q. cc;
    }

zero_takes : (parse : Parse) (tokens : List Token) (n : ℕ) (out : List Numbered) → Holds parse tokens out → Takes (zero_taken parse n) tokens (record { line = n; bytes = 48 ∷ [] }) out
zero_takes parse tokens n out h = zero_by (begun parse n) (begun parse n).reason tokens n out refl (begins parse.opened parse tokens (record { line = n; bytes = 48 ∷ [] }) out refl h refl)

-- a literal
reason-variable : (tokens : List Token) (bytes : List ℕ) → is_literal bytes ≡ true → is_zero bytes ≡ false → is_variable (variable_of bytes) ≡ false → reason_of tokens bytes ≡ Some reason.Variable
reason-variable tokens bytes literal no_zero over = rw (no_zero, literal, over) refl

reason-literal : (tokens : List Token) (bytes : List ℕ) (more large : Bool) → is_literal bytes ≡ true → is_zero bytes ≡ false → is_mark bytes ≡ false → is_variable (variable_of bytes) ≡ true → one_clause_more tokens ≡ more → nat_le 33554432 (count_literals tokens) ≡ large →
    reason_of tokens bytes ≡ cond more (Some reason.TooMany) (cond large (Some reason.TooMany) None)
reason-literal tokens bytes true large literal no_zero no_mark low h k = rw (no_zero, literal, low, no_mark, h) refl
reason-literal tokens bytes false true literal no_zero no_mark low h k = rw (no_zero, literal, low, no_mark, h, k) refl
reason-literal tokens bytes false false literal no_zero no_mark low h k = rw (no_zero, literal, low, no_mark, h, k) refl

open_by : (o : Open) (start : ℕ) (lits : List ℕ) (tokens : List Token) → IsSome o → 0 < length tokens → begins_cube tokens ≡ is_cube o → first_line tokens ≡ start → lits ≡ lits_of tokens → IsOpen o start lits tokens
open_by open_as.Nothing start lits tokens some more cube line is = absurd some
open_by open_as.Clause start lits tokens some more cube line is = (more, cube, line, is)
open_by open_as.Cube start lits tokens some more cube line is = (more, cube, line, is)

longer : (xs : List Token) (t : Token) → 0 < length (xs ++ t ∷ [])
longer [] t = omega arith
longer (x ∷ xs) t = omega arith

literal_new : (parse : Parse) (tokens : List Token) (t : Token) (out : List Numbered) (code : ℕ) → HasBegun parse tokens t out → is_zero t.bytes ≡ false → is_literal t.bytes ≡ true → code ≡ code_of t.bytes → reason_of tokens t.bytes ≡ None →
    Holds (record parse { lits = parse.lits ++ code ∷ []; literals = parse.literals + 1 }) (tokens ++ t ∷ []) (out ++ [])
literal_new parse tokens t out code h no_zero literal is right =
    let same : statements_of (tokens ++ t ∷ []) ≡ statements_of tokens = statements_of-more tokens t no_zero in
    let opens : open_of (tokens ++ t ∷ []) ≡ open_of tokens ++ t ∷ [] = open_of-more tokens t no_zero in
    record {
      right = right_more tokens t h.right right;
      opened = subst (IsOpen parse.opened parse.start (parse.lits ++ code ∷ [])) (sym opens)
          (open_by parse.opened parse.start (parse.lits ++ code ∷ []) (open_of tokens ++ t ∷ []) h.some (longer (open_of tokens) t) h.cube h.line
          (ap (λ (l : List ℕ). l ++ code ∷ []) h.lits ∙ ap (λ c. lits_of (open_of tokens) ++ c ∷ []) is ∙ sym (lits_of-push (open_of tokens) t true literal)));
      clauses = h.clauses ∙ ap (λ (s : List Numbered). count_clauses s + open_clause parse.opened) (sym same);
      cubes = h.cubes ∙ ap (λ (s : List Numbered). count_cubes s + open_cube parse.opened) (sym same);
      literals = ap (λ k. k + 1) h.literals ∙ sym (literals_more tokens t literal);
      given = append-nil out ∙ h.given ∙ sym same;
    }

-- a literal token with what is known of it
record IsLiteral (bytes : List ℕ) (code : ℕ) : Type 0 where
  literal : is_literal bytes ≡ true
  no_zero : is_zero bytes ≡ false
  no_mark : is_mark bytes ≡ false
  low : is_variable (variable_of bytes) ≡ true
  code_is : code ≡ code_of bytes

push_by : (large : Bool) (parse : Parse) (tokens : List Token) (t : Token) (out : List Numbered) (code : ℕ) → HasBegun parse tokens t out → IsLiteral t.bytes code → one_clause_more tokens ≡ false → nat_le 33554432 parse.literals ≡ large →
    Takes (cond large (stops parse reason.TooMany) (goes_on (record parse { lits = parse.lits ++ code ∷ []; literals = parse.literals + 1 }))) tokens t out
push_by true parse tokens t out code h is few k =
    stopped parse reason.TooMany tokens t out (reason-literal tokens t.bytes false true is.literal is.no_zero is.no_mark is.low few (ap (nat_le 33554432) (sym h.literals) ∙ k))
push_by false parse tokens t out code h is few k =
    let right : reason_of tokens t.bytes ≡ None = reason-literal tokens t.bytes false false is.literal is.no_zero is.no_mark is.low few (ap (nat_le 33554432) (sym h.literals) ∙ k) in record {
      why = sym right;
      goes = λ _. literal_new parse tokens t out code h is.no_zero is.literal is.code_is right;
      stays = λ r q. cc;
    }

no_more : (more : Bool) → ◌≡◌ {A = Option Reason} (cond more (Some reason.TooMany) None) None → more ≡ false
no_more true h = cc
no_more false h = refl

some_more : (more : Bool) (r : Reason) (rest : Option Reason) → cond more (Some reason.TooMany) None ≡ Some r → cond more (Some reason.TooMany) rest ≡ Some r
some_more true r rest h = h
some_more false r rest h = cc

pushed_by : (taken : Taken) (why : Option Reason) (tokens : List Token) (t : Token) (out : List Numbered) (code : ℕ) → taken.reason ≡ why → Begins taken tokens t out → IsLiteral t.bytes code → Takes (pushed_unless why taken.parse code) tokens t out
pushed_by taken (Some r) tokens t out code is h literal =
    stopped taken.parse r tokens t out
    (reason-literal tokens t.bytes (one_clause_more tokens) (nat_le 33554432 (count_literals tokens)) literal.literal literal.no_zero literal.no_mark literal.low refl refl
    ∙ some_more (one_clause_more tokens) r _ (sym h.why ∙ is))
pushed_by taken None tokens t out code is h literal =
    push_by (nat_le 33554432 taken.parse.literals) taken.parse tokens t out code (h.goes is) literal (no_more (one_clause_more tokens) (sym h.why ∙ is)) refl

literal_by : (o : Option ℕ) (parse : Parse) (tokens : List Token) (t : Token) (out : List Numbered) (negative : Bool) (v : ℕ) → lit_code negative v ≡ o → IsNumber negative v t.bytes → Holds parse tokens out →
    (v ≤ 8388607) ⊎ (8388607 < v) → Takes (literal_taken o parse t.line) tokens t out
literal_by None parse tokens t out negative v e is h (inl low) = absurd (let k = sym e ∙ lit_code-within negative v t.bytes is low in cc)
literal_by (Some code) parse tokens t out negative v e is h (inl low) =
    let same : Some code ≡ Some (code_of t.bytes) = sym e ∙ lit_code-within negative v t.bytes is low in
    let no_mark : is_mark t.bytes ≡ false = literal_differs t.bytes (97 ∷ []) is.literal refl in
    pushed_by (begun parse t.line) (begun parse t.line).reason tokens t out code refl (begins parse.opened parse tokens t out refl h no_mark)
    (record { literal = is.literal; no_zero = literal_differs t.bytes (48 ∷ []) is.literal refl; no_mark = no_mark; low = variable_within v (variable_of t.bytes) is.value low; code_is = cc })
literal_by None parse tokens t out negative v e is h (inr over) =
    stopped parse reason.Variable tokens t out (reason-variable tokens t.bytes is.literal (literal_differs t.bytes (48 ∷ []) is.literal refl) (variable_over v (variable_of t.bytes) is.value over))
literal_by (Some code) parse tokens t out negative v e is h (inr over) = absurd (let k = sym e ∙ lit_code-over negative v over in cc)

cases_le : (v : ℕ) → (v ≤ 8388607) ⊎ (8388607 < v)
cases_le v = elim (cases_lt 8388607 v) as (λ _. (v ≤ 8388607) ⊎ (8388607 < v)) [ inl over ↦ inr over | inr low ↦ inl low ]

-- any token
pub token_takes : (w : Word) (parse : Parse) (tokens : List Token) (t : Token) (out : List Numbered) → IsWord w t.bytes → 0 < length t.bytes → Holds parse tokens out → Takes (token_taken parse t.line w) tokens t out
token_takes word.Nothing parse tokens t out is some h = absurd (let k = ap length is in omega arith)
token_takes word.Zero parse tokens t out is some h = subst (λ (bs : List ℕ). Takes (zero_taken parse t.line) tokens (record { line = t.line; bytes = bs }) out) (sym is) (zero_takes parse tokens t.line out h)
token_takes word.Minus parse tokens t out is some h = stopped parse reason.Token tokens t out (reason-other tokens t.bytes (other_minus t.bytes is))
token_takes word.Mark parse tokens t out is some h = subst (λ (bs : List ℕ). Takes (mark_at parse.opened parse t.line) tokens (record { line = t.line; bytes = bs }) out) (sym is) (mark_takes parse.opened parse tokens t.line out refl h)
token_takes (word.Number negative v) parse tokens t out is some h = literal_by (lit_code negative v) parse tokens t out negative v refl is h (cases_le v)
token_takes word.P parse tokens t out is some h = stopped parse reason.Token tokens t out (reason-other tokens t.bytes (other_p t.bytes is))
token_takes (word.Inccnf count) parse tokens t out is some h = stopped parse reason.Token tokens t out (reason-other tokens t.bytes (other_front t.bytes is.0 some))
token_takes word.Strange parse tokens t out is some h = stopped parse reason.Token tokens t out (reason-other tokens t.bytes (other_strange t.bytes is))
