-- What is printed is read back: numbers, literals and lists of them.
use Rattle.std.proofs.Common.{◌≡◌, ◌≢◌, ◌∙◌, ℕ, ◌+◌, ◌*◌, ◌/◌, ◌%◌, ◌^◌, ◌<◌, ◌≤◌, List, [], ◌∷◌, ◌++◌, length, take, get_or, Bool, true, false, cond, refl, sym, ap, inl, inr, append_assoc, arith}
use Rattle.std.specs.Prelude.{Option, Some, ◌==◌, ◌⊎◌, All, codes, decimal, option_and_then}
use Rattle.std.specs.Option.{option_map}
use Rattle.std.specs.List.{flat_map}
use Rattle.std.specs.Int.{IsInRange}
use Rattle.std.specs.Str.{all_ascii_digits, bytes_eq}
use Rattle.std.proofs.lemmas.Bool.{cases_Bool}
use Rattle.std.proofs.lemmas.Bool.Decides.{nat_tests}
use Rattle.std.proofs.lemmas.Fmt.{digits_decimal, decimal_is_IsNumeral, first_decimal}
use Rattle.std.proofs.lemmas.List.Elements.{All-from_get_or, All-cons, All-nil, All-head, All-tail}
use Rattle.std.proofs.lemmas.List.Splits.{slice_split_at}
use Rattle.std.proofs.lemmas.Slice.Eq.{bytes_eq-Decides}
use Rattle.std.proofs.lemmas.Str.Parse.{numerals_by_value, tells_all_ascii_digits, tells_by_index}
use Rattle.sat_base.specs.Lit.{IsLit, is_negative, variable}
use Rattle.line_tokens.specs.Token.{Front, number_of, variable_of, lit_of, until_zero, all_then_zero, tokens_of, lit_text}
use Rattle.line_tokens.proofs.Digits.{number_is, variable_is, lit_of-minus, lit_of-plain}
use Rattle.line_tokens.proofs.Tokens.{until_zero-more, each_then-more}

-- ---- numbers

pub number_back : (n : ℕ) → 0 < n → n < 2 ^ 64 → number_of (decimal n) ≡ Some n
number_back n low high = sym (number_is (decimal n) n (digits_decimal (numerals_by_value (λ ds. all_ascii_digits ds ≡ true) tells_all_ascii_digits) n high) (first_decimal n low high) (omega arith) (sym (decimal_is_IsNumeral n high).1))

pub variable_back : (v : ℕ) → 0 < v → v ≤ 8388607 → variable_of (decimal v) ≡ Some v
variable_back v low high = sym (variable_is (decimal v) v (sym (number_back v low (omega arith))) high)

-- a byte below the digits is none of them
pub apart : (n byte : ℕ) → n < 2 ^ 64 → byte < 48 → All (λ b. (b == byte) ≡ false) (decimal n)
apart n byte small low = All-from_get_or (λ b. (b == byte) ≡ false) (decimal n) 0 (λ i within. differs (get_or (decimal n) i 0) (digits_decimal (numerals_by_value (λ ds. (i : ℕ) → i < length ds → IsInRange 48 57 (get_or ds i 0)) tells_by_index) n small i within).0)
  where
    differs : (b : ℕ) → 48 ≤ b → (b == byte) ≡ false
    differs b high = grind (arith, nat_tests)

-- a token that begins with another byte isn't this one byte
pub not_token : (token : List ℕ) (byte : ℕ) → get_or token 0 0 ≢ byte → bytes_eq token (byte ∷ []) ≡ false
not_token token byte differs = by_truth (cases_Bool (bytes_eq token (byte ∷ [])))
  where
    by_truth : (bytes_eq token (byte ∷ []) ≡ true) ⊎ (bytes_eq token (byte ∷ []) ≡ false) → bytes_eq token (byte ∷ []) ≡ false
    by_truth (inl same) = absurd (differs (ap (λ (t : List ℕ). get_or t 0 0) ((bytes_eq-Decides token (byte ∷ [])).0 same)))
    by_truth (inr other) = other

pub not_front : (token : List ℕ) (byte : ℕ) → get_or token 0 0 ≢ byte → bytes_eq (take 1 token) (byte ∷ []) ≡ false
not_front [] byte differs = refl
not_front (b ∷ token) byte differs = not_token (take 1 (b ∷ token)) byte differs

-- ---- literals

-- a literal without the space behind it
pub lit_token : ℕ → List ℕ
lit_token lit = cond (is_negative lit) (45 ∷ decimal (variable lit)) (decimal (variable lit))

pub lit_text-token : (lit : ℕ) → lit_text lit ≡ lit_token lit ++ 32 ∷ []
unfolding lit_token
lit_text-token lit = by_sign (is_negative lit)
  where
    by_sign : (b : Bool) → cond b (codes "-" ++ decimal (variable lit) ++ codes " ") (decimal (variable lit) ++ codes " ") ≡ cond b (45 ∷ decimal (variable lit)) (decimal (variable lit)) ++ 32 ∷ []
    by_sign true = refl
    by_sign false = refl

pub even_is : (r : ℕ) → r < 2 → (r == 1) ≡ false → r ≡ 0
even_is r small other = grind (arith, nat_tests)

pub lit_back : (lit : ℕ) → IsLit lit → lit_of (lit_token lit) ≡ Some lit
unfolding lit_token
lit_back lit is = by_sign (is_negative lit) refl
  where
    v : ℕ
    v = lit / 2

    low : 0 < lit / 2
    low = let h = is.not_zero in omega arith

    high : lit / 2 ≤ 8388607
    high = let h = is.within in omega arith

    by_sign : (b : Bool) → (lit % 2 == 1) ≡ b → lit_of (cond b (45 ∷ decimal (lit / 2)) (decimal (lit / 2))) ≡ Some lit
    by_sign true odd =
        let one : lit % 2 ≡ 1 = grind (arith, nat_tests) in
        let whole : 2 * (lit / 2) + 1 ≡ lit = omega arith in
        lit_of-minus (45 ∷ decimal (lit / 2)) (decimal (lit / 2)) refl refl ∙ ap (option_map (λ variable. 2 * variable + 1)) (variable_back (lit / 2) low high) ∙ ap Some whole
    by_sign false even =
        let none : lit % 2 ≡ 0 = even_is (lit % 2) (omega arith) even in
        let whole : 2 * (lit / 2) ≡ lit = omega arith in
        let first = first_decimal (lit / 2) low (omega (arith, high)) in
        lit_of-plain (decimal (lit / 2)) (not_front (decimal (lit / 2)) 45 (λ same. absurd (omega (arith, first, same)))) ∙ ap (option_map (λ variable. 2 * variable)) (variable_back (lit / 2) low high) ∙ ap Some whole

pub lit_not_zero : (lit : ℕ) → IsLit lit → bytes_eq (lit_token lit) (48 ∷ []) ≡ false
unfolding lit_token
lit_not_zero lit is = by_sign (is_negative lit)
  where
    by_sign : (b : Bool) → bytes_eq (cond b (45 ∷ decimal (lit / 2)) (decimal (lit / 2))) (48 ∷ []) ≡ false
    by_sign true = not_token (45 ∷ decimal (lit / 2)) 48 (λ same. absurd (omega arith))
    by_sign false =
        let low : 0 < lit / 2 = let h = is.not_zero in omega arith in
        let small : lit / 2 < 2 ^ 64 = let h = is.within in omega arith in
        let first = first_decimal (lit / 2) low small in
        not_token (decimal (lit / 2)) 48 (λ same. absurd (omega (arith, first, same)))

-- neither a space nor a line feed stands in a literal
pub lit_apart : (lit byte : ℕ) → IsLit lit → byte < 45 → All (λ b. (b == byte) ≡ false) (lit_token lit)
unfolding lit_token
lit_apart lit byte is low = by_sign (is_negative lit)
  where
    small : lit / 2 < 2 ^ 64
    small = let h = is.within in omega arith

    minus : (45 == byte) ≡ false
    minus = grind (arith, nat_tests)

    by_sign : (b : Bool) → All (λ b. (b == byte) ≡ false) (cond b (45 ∷ decimal (lit / 2)) (decimal (lit / 2)))
    by_sign true = All-cons (λ b. (b == byte) ≡ false) 45 (decimal (lit / 2)) minus (apart (lit / 2) byte small (omega arith))
    by_sign false = apart (lit / 2) byte small (omega arith)

-- ---- tokens

pub next_token : (token rest : List ℕ) → All (λ b. (b == 32) ≡ false) token → tokens_of (token ++ 32 ∷ rest) ≡ token ∷ tokens_of rest
next_token token rest clean = slice_split_at (λ b. b == 32) token 32 rest clean refl

pub lits_back : (lits rest : List ℕ) → All IsLit lits → until_zero lit_of (tokens_of (flat_map lit_text lits ++ (48 ∷ 32 ∷ rest))) ≡ Some (record { items = lits; rest = tokens_of rest })
lits_back [] rest each = ap (until_zero lit_of) (next_token (48 ∷ []) rest (All-cons (λ b. (b == 32) ≡ false) 48 [] refl (All-nil (λ b. (b == 32) ≡ false)))) ∙ until_zero-more lit_of (48 ∷ []) (λ b. b == 32) rest
lits_back (lit ∷ lits) rest each =
    ap (λ text. until_zero lit_of (tokens_of text)) regrouped
    ∙ ap (until_zero lit_of) (next_token (lit_token lit) (flat_map lit_text lits ++ (48 ∷ 32 ∷ rest)) (lit_apart lit 32 is_lit (omega arith)))
    ∙ until_zero-more lit_of (lit_token lit) (λ b. b == 32) (flat_map lit_text lits ++ (48 ∷ 32 ∷ rest))
    ∙ chosen (bytes_eq (lit_token lit) (48 ∷ [])) (lit_of (lit_token lit)) (until_zero lit_of (tokens_of (flat_map lit_text lits ++ (48 ∷ 32 ∷ rest)))) (lit_not_zero lit is_lit) (lit_back lit is_lit) (lits_back lits rest (All-tail IsLit lit lits each))
  where
    is_lit : IsLit lit
    is_lit = All-head IsLit lit lits each

    regrouped : (lit_text lit ++ flat_map lit_text lits) ++ (48 ∷ 32 ∷ rest) ≡ lit_token lit ++ 32 ∷ (flat_map lit_text lits ++ (48 ∷ 32 ∷ rest))
    regrouped = ap (λ text. (text ++ flat_map lit_text lits) ++ (48 ∷ 32 ∷ rest)) (lit_text-token lit) ∙ ap (λ text. text ++ (48 ∷ 32 ∷ rest)) (append_assoc (lit_token lit) (32 ∷ []) (flat_map lit_text lits)) ∙ append_assoc (lit_token lit) (32 ∷ flat_map lit_text lits) (48 ∷ 32 ∷ rest)

    chosen : (b : Bool) (o : Option ℕ) (front : Option (Front ℕ)) → b ≡ false → o ≡ Some lit → front ≡ Some (record { items = lits; rest = tokens_of rest }) →
        cond {A = Option (Front ℕ)} b (Some (record { items = []; rest = tokens_of (flat_map lit_text lits ++ (48 ∷ 32 ∷ rest)) })) (option_and_then (λ item. option_map (λ front. record { items = item ∷ front.items; rest = front.rest }) front) o) ≡ Some (record { items = lit ∷ lits; rest = tokens_of rest })
    chosen b o front other item others = rw (other, item, others) refl

-- items that are printed as a token and a space each, and a last `0`
pub all_back : {X : Type 0} (judge : List ℕ → Option X) (text token : X → List ℕ) (P : X → Type 0)
    → ((x : X) → P x → (text x ≡ token x ++ 32 ∷ []) × All (λ b. (b == 32) ≡ false) (token x) × (judge (token x) ≡ Some x))
    → (xs : List X) → All P xs → all_then_zero judge (tokens_of (flat_map text xs ++ (48 ∷ []))) ≡ Some xs
all_back judge text token P each [] all = refl
all_back {X} judge text token P each (x ∷ xs) all =
    ap (λ line. all_then_zero judge (tokens_of line)) regrouped
    ∙ ap (all_then_zero judge) (next_token (token x) (flat_map text xs ++ (48 ∷ [])) item.1)
    ∙ each_then-more judge (token x) (λ b. b == 32) (flat_map text xs ++ (48 ∷ []))
    ∙ chosen (judge (token x)) (all_then_zero judge (tokens_of (flat_map text xs ++ (48 ∷ [])))) item.2 (all_back judge text token P each xs (All-tail P x xs all))
  where
    item : (text x ≡ token x ++ 32 ∷ []) × All (λ b. (b == 32) ≡ false) (token x) × (judge (token x) ≡ Some x)
    item = each x (All-head P x xs all)

    regrouped : (text x ++ flat_map text xs) ++ (48 ∷ []) ≡ token x ++ 32 ∷ (flat_map text xs ++ (48 ∷ []))
    regrouped = ap (λ line. (line ++ flat_map text xs) ++ (48 ∷ [])) item.0 ∙ ap (λ line. line ++ (48 ∷ [])) (append_assoc (token x) (32 ∷ []) (flat_map text xs)) ∙ append_assoc (token x) (32 ∷ flat_map text xs) (48 ∷ [])

    chosen : (o : Option X) (others : Option (List X)) → o ≡ Some x → others ≡ Some xs → option_and_then (λ item. option_map (λ items. item ∷ items) others) o ≡ Some (x ∷ xs)
    chosen o others item rest = rw (item, rest) refl

pub lits_then_zero_back : (lits : List ℕ) → All IsLit lits → all_then_zero lit_of (tokens_of (flat_map lit_text lits ++ (48 ∷ []))) ≡ Some lits
lits_then_zero_back lits each = all_back lit_of lit_text lit_token IsLit (λ lit is. (lit_text-token lit, lit_apart lit 32 is (omega arith), lit_back lit is)) lits each
