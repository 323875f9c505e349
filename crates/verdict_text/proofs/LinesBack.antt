-- The lines that are written are read as what they were written for.
use Rattle.std.proofs.Common.{◌≡◌, ◌∙◌, ℕ, ◌+◌, ◌*◌, ◌/◌, ◌%◌, ◌^◌, ◌<◌, ◌≤◌, List, [], ◌∷◌, ◌++◌, length, map, Bool, true, false, cond, refl, ap, arith}
use Rattle.std.specs.Prelude.{Option, Some, None, ◌==◌, ◌||◌, All, not, decimal, slice_index, option_and_then}
use Rattle.std.specs.List.{flat_map}
use Rattle.std.specs.Str.{all_ascii_digits, bytes_eq}
use Rattle.std.proofs.lemmas.Bool.{and_from, lt-ltb}
use Rattle.std.proofs.lemmas.Bool.Decides.{nat_tests}
use Rattle.std.proofs.lemmas.Fmt.{digits_decimal, first_decimal}
use Rattle.std.proofs.lemmas.List.Elements.{All-append, All-cons, All-nil}
use Rattle.std.proofs.lemmas.Str.Parse.{numerals_by_value, tells_all_ascii_digits}
use Rattle.sat_base.specs.Lit.{IsLit, IsLitSet, is_ascending, is_negative, variable}
use Rattle.line_tokens.specs.Token.{token_is_decimal, lit_text, tokens_of}
use Rattle.line_tokens.proofs.Back.{apart, next_token, number_back, lits_then_zero_back}
use Rattle.trace_text.proofs.RoundTrip.{all_flat, clean_lit}
use Rattle.verdict_text.proofs.JobLines.{three_tokens}
use Rattle.verdict_text.specs.Block.{lit_with, model_lits}
use Rattle.verdict_text.specs.Line.{are_variables_from, job_line_of, model_line_of, part_line_of, status_of, values_of}
use Rattle.verdict_text.specs.declared.lines.JobLine.{JobLine}
use Rattle.verdict_text.specs.declared.lines.Status.{Status}

-- ---- the first line

or_right : (b c : Bool) → c ≡ true → (b || c) ≡ true
or_right true c h = refl
or_right false c h = h

decimal_back : (n : ℕ) → 0 < n → n < 2 ^ 64 → token_is_decimal (decimal n) ≡ true
decimal_back n low high =
    and_from _ _ (digits_decimal (numerals_by_value (λ ds. all_ascii_digits ds ≡ true) tells_all_ascii_digits) n high) (or_right (bytes_eq (decimal n) (48 ∷ [])) _ (lt-ltb 48 (slice_index (decimal n) 0) (first_decimal n low high)))

-- the first line of a block, without its line feed
abbrev pub job_line : ℕ → List ℕ → List ℕ
job_line n word = 106 ∷ 32 ∷ (decimal n ++ 32 ∷ word)

pub job_line_back : (n : ℕ) (word : List ℕ) (status : Status) → 0 < n → n < 2 ^ 64 → tokens_of word ≡ word ∷ [] → status_of word ≡ Some status → job_line_of (job_line n word) ≡ Some (record { number = Some n; status = status })
job_line_back n word status low high last says =
    three_tokens (job_line n word) (106 ∷ []) (decimal n ++ 32 ∷ word) (decimal n) word (Some status) refl refl (next_token (decimal n) word (apart n 32 high (omega arith))) (decimal_back n low high) last says
    ∙ ap (λ (number : Option ℕ). line_of_number number) (number_back n low high)
  where
    line_of_number : Option ℕ → Option JobLine
    line_of_number number = Some (record { number = number; status = status })

pub job_line_clean : (n : ℕ) (word : List ℕ) → n < 2 ^ 64 → All (λ b. (b == 10) ≡ false) word → All (λ b. (b == 10) ≡ false) (job_line n word)
job_line_clean n word high clean =
    All-cons (λ b. (b == 10) ≡ false) 106 (32 ∷ (decimal n ++ 32 ∷ word)) refl (All-cons (λ b. (b == 10) ≡ false) 32 (decimal n ++ 32 ∷ word) refl
    (All-append (λ b. (b == 10) ≡ false) (decimal n) (32 ∷ word) (apart n 10 high (omega arith)) (All-cons (λ b. (b == 10) ≡ false) 32 word refl clean)))

-- ---- a line of literals

-- a letter, literals and a `0`, without the line feed
abbrev pub lits_line : ℕ → List ℕ → List ℕ
lits_line letter lits = letter ∷ 32 ∷ (flat_map lit_text lits ++ 48 ∷ [])

pub lits_line_clean : (letter : ℕ) (lits : List ℕ) → (letter == 10) ≡ false → All IsLit lits → All (λ b. (b == 10) ≡ false) (lits_line letter lits)
lits_line_clean letter lits differs each =
    All-cons (λ b. (b == 10) ≡ false) letter (32 ∷ (flat_map lit_text lits ++ 48 ∷ [])) differs (All-cons (λ b. (b == 10) ≡ false) 32 (flat_map lit_text lits ++ 48 ∷ []) refl
    (All-append (λ b. (b == 10) ≡ false) (flat_map lit_text lits) (48 ∷ []) (all_flat lit_text (λ b. (b == 10) ≡ false) IsLit clean_lit lits each) (All-cons (λ b. (b == 10) ≡ false) 48 [] refl (All-nil (λ b. (b == 10) ≡ false)))))

pub part_line_back : (part : List ℕ) → IsLitSet part → part_line_of (lits_line 102 part) ≡ Some part
part_line_back part set =
    ap (option_and_then (λ lits. cond (is_ascending lits) (Some lits) None)) (lits_then_zero_back part set.each)
    ∙ ap (λ b. cond b (Some part) None) set.ascending

-- ---- models

itself : (n : ℕ) → (n == n) ≡ true
itself n = grind (arith, nat_tests)

variable_with : (var : ℕ) (value : Bool) → (variable (lit_with var value) == var) ≡ true
variable_with var true = let half : 2 * var / 2 ≡ var = omega arith in ap (λ v. v == var) half ∙ itself var
variable_with var false = let half : (2 * var + 1) / 2 ≡ var = omega arith in ap (λ v. v == var) half ∙ itself var

sign_with : (var : ℕ) (value : Bool) → not (is_negative (lit_with var value)) ≡ value
sign_with var true = let even : 2 * var % 2 ≡ 0 = omega arith in ap (λ r. not (r == 1)) even
sign_with var false = let odd : (2 * var + 1) % 2 ≡ 1 = omega arith in ap (λ r. not (r == 1)) odd

lit_is : (var : ℕ) (value : Bool) → 0 < var → var ≤ 8388607 → IsLit (lit_with var value)
lit_is var true low high = record { not_zero = omega arith; within = omega arith }
lit_is var false low high = record { not_zero = omega arith; within = omega arith }

variables_back : (var : ℕ) (values : List Bool) → are_variables_from var (model_lits var values) ≡ true
variables_back var [] = refl
variables_back var (value ∷ values) = and_from _ _ (variable_with var value) (variables_back (var + 1) values)

signs_back : (var : ℕ) (values : List Bool) → map (λ lit. not (is_negative lit)) (model_lits var values) ≡ values
signs_back var [] = refl
signs_back var (value ∷ values) = let first = sign_with var value in let others = signs_back (var + 1) values in cc

pub model_lits_are : (var : ℕ) (values : List Bool) → 0 < var → var + length values ≤ 8388608 → All IsLit (model_lits var values)
model_lits_are var [] low high = All-nil IsLit
model_lits_are var (value ∷ values) low high = All-cons IsLit (lit_with var value) (model_lits (var + 1) values) (lit_is var value low (omega arith)) (model_lits_are (var + 1) values (omega arith) (omega arith))

pub model_line_back : (values : List Bool) → length values ≤ 8388607 → model_line_of (lits_line 118 (model_lits 1 values)) ≡ Some values
model_line_back values small =
    ap (option_and_then values_of) (lits_then_zero_back (model_lits 1 values) (model_lits_are 1 values (omega arith) (omega arith)))
    ∙ ap (λ b. cond b (Some (map (λ lit. not (is_negative lit)) (model_lits 1 values))) None) (variables_back 1 values)
    ∙ ap Some (signs_back 1 values)
