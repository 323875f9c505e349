-- The numbers and literals that tokens write.
use Rattle.std.proofs.Common.{◌≡◌, ◌∙◌, ℕ, ◌+◌, ◌-◌, ◌*◌, ◌<◌, ◌≤◌, ◌∷◌, List, [], Bool, true, false, cond, refl, ap, sym, subst, arith, get_or, take, drop, length, zero, suc}
use Rattle.std.specs.Prelude.{Option, Some, None, ℤ, pos, neg_ℤ, nat_lt, nat_le, ◌&&◌}
use Rattle.std.specs.Char.{is_ascii_digit, digit_value}
use Rattle.std.specs.List.{list_all}
use Rattle.std.specs.Option.{SomeIff, option_map}
use Rattle.std.specs.Str.{all_ascii_digits, bytes_eq}
use Rattle.std.specs.Str.Parse.{digits_value}
use Rattle.std.proofs.lemmas.Bool.{and_from, lt-ltb, le-leb}
use Rattle.std.proofs.lemmas.Bool.Decides.{nat_tests}
use Rattle.std.proofs.lemmas.Int.Digits.{digits_value_more}
use Rattle.std.proofs.lemmas.List.{take_more}
use Rattle.std.proofs.lemmas.List.Recursion.{and_push, and_fails_at}
use Rattle.std.proofs.lemmas.Str.Parse.{digits_value-take-le}
use Rattle.sat_base.specs.Lit.{IsLit, code_of}
use Rattle.line_tokens.specs.Token.{number_of, variable_of, lit_of}

-- what three tests choose, where one of them fails
none_1 : (a b c : Bool) (v : ℕ) → a ≡ false → ◌≡◌ {A = Option ℕ} None (cond (a && b && c) (Some v) None)
none_1 true b c v h = cc
none_1 false b c v h = refl

none_2 : (a b c : Bool) (v : ℕ) → b ≡ false → ◌≡◌ {A = Option ℕ} None (cond (a && b && c) (Some v) None)
none_2 true true c v h = cc
none_2 true false c v h = refl
none_2 false b c v h = refl

none_3 : (a b c : Bool) (v : ℕ) → c ≡ false → ◌≡◌ {A = Option ℕ} None (cond (a && b && c) (Some v) None)
none_3 true true true v h = cc
none_3 true true false v h = refl
none_3 true false c v h = refl
none_3 false b c v h = refl

not_below : (a b : ℕ) → b ≤ a → nat_lt a b ≡ false
not_below a b h = grind (arith, nat_tests)

not_within : (a b : ℕ) → b < a → nat_le a b ≡ false
not_within a b h = grind (arith, nat_tests)

pub no_digit : (digits : List ℕ) (i : ℕ) → i < length digits → is_ascii_digit (get_or digits i 0) ≡ false → ◌≡◌ {A = Option ℕ} None (number_of digits)
unfolding number_of
no_digit digits i within bad = none_1 _ _ _ _ (and_fails_at all_ascii_digits is_ascii_digit refl (λ _ _. refl) digits i 0 within bad)

pub leading_zero : (digits : List ℕ) → get_or digits 0 0 ≤ 48 → ◌≡◌ {A = Option ℕ} None (number_of digits)
unfolding number_of
leading_zero digits small = none_2 _ _ _ _ (not_below 48 (get_or digits 0 0) small)

pub too_large : (digits : List ℕ) (i value : ℕ) → value ≡ digits_value 10 (take i digits) → 18446744073709551615 < value → ◌≡◌ {A = Option ℕ} None (number_of digits)
unfolding number_of
too_large digits i value is large =
    let more = digits_value-take-le 10 digits i (omega arith) in
    none_3 (all_ascii_digits digits) (nat_lt 48 (get_or digits 0 0)) _ (digits_value 10 digits) (not_within (digits_value 10 digits) 18446744073709551615 (omega arith))

pub number_is : (digits : List ℕ) (value : ℕ) → all_ascii_digits digits ≡ true → 48 < get_or digits 0 0 → value ≤ 18446744073709551615 → value ≡ digits_value 10 digits → ◌≡◌ {A = Option ℕ} (Some value) (number_of digits)
unfolding number_of
number_is digits value all first small is =
    rw (and_from _ _ (and_from _ _ all (lt-ltb 48 (get_or digits 0 0) first)) (le-leb (digits_value 10 digits) 18446744073709551615 (omega arith))) (ap Some is)

-- one more digit
pub digits_more : (digits : List ℕ) (i : ℕ) → i < length digits → all_ascii_digits (take i digits) ≡ true → is_ascii_digit (get_or digits i 0) ≡ true → all_ascii_digits (take (i + 1) digits) ≡ true
digits_more digits i within all digit =
    ap all_ascii_digits (take_more digits i 0 within) ∙ and_push all_ascii_digits is_ascii_digit refl (λ _ _. refl) (take i digits) (get_or digits i 0) ∙ and_from _ _ all digit

digit_is : (c : ℕ) → is_ascii_digit c ≡ true → digit_value c ≡ c - 48
digit_is c h = grind (arith, nat_tests)

pub value_more : (digits : List ℕ) (i value : ℕ) → i < length digits → value ≡ digits_value 10 (take i digits) → is_ascii_digit (get_or digits i 0) ≡ true → value * 10 + (get_or digits i 0 - 48) ≡ digits_value 10 (take (i + 1) digits)
value_more digits i value within is digit =
    ap (λ v. v * 10 + (get_or digits i 0 - 48)) is ∙ ap (λ d. digits_value 10 (take i digits) * 10 + d) (sym (digit_is (get_or digits i 0) digit)) ∙ sym (digits_value_more 10 digits i within)

-- the number so far is 0 only after a first digit that is, or before any digit
pub first_zero : (digits : List ℕ) (i value : ℕ) → (0 < i → 0 < value) → value * 10 + (get_or digits i 0 - 48) ≡ 0 → get_or digits 0 0 ≤ 48
first_zero digits zero value positive is = omega arith
first_zero digits (suc i) value positive is = let h = positive (omega arith) in absurd (omega arith)

pub first_none : (digits : List ℕ) (i value : ℕ) → (0 < i → 0 < value) → value ≡ 0 → length digits ≤ i → get_or digits 0 0 ≤ 48
first_none [] i value positive is end = omega arith
first_none (d ∷ ds) zero value positive is end = absurd (omega arith)
first_none (d ∷ ds) (suc i) value positive is end = let h = positive (omega arith) in absurd (omega arith)

pub first_is : (digits : List ℕ) (i value : ℕ) → (0 < i → 48 < get_or digits 0 0) → value ≡ digits_value 10 (take i digits) → 0 < value * 10 + (get_or digits i 0 - 48) → 48 < get_or digits 0 0
first_is digits zero value first is more = omega arith
first_is digits (suc i) value first is more = first (omega arith)

pub some_digit : (digits : List ℕ) (i value : ℕ) → value ≡ digits_value 10 (take i digits) → 0 < value → 0 < i
some_digit digits zero value is more = absurd (omega arith)
some_digit digits (suc i) value is more = omega arith

-- a variable is a number within its bound
pub no_variable : (digits : List ℕ) → ◌≡◌ {A = Option ℕ} None (number_of digits) → ◌≡◌ {A = Option ℕ} None (variable_of digits)
unfolding variable_of
no_variable digits none = rw (← none) refl

pub variable_too_large : (digits : List ℕ) (number : ℕ) → ◌≡◌ {A = Option ℕ} (Some number) (number_of digits) → 8388607 < number → ◌≡◌ {A = Option ℕ} None (variable_of digits)
unfolding variable_of
variable_too_large digits number is large = rw (← is, not_within number 8388607 large) refl

pub variable_is : (digits : List ℕ) (number : ℕ) → ◌≡◌ {A = Option ℕ} (Some number) (number_of digits) → number ≤ 8388607 → ◌≡◌ {A = Option ℕ} (Some number) (variable_of digits)
unfolding variable_of
variable_is digits number is small = rw (← is, le-leb number 8388607 small) refl

-- what `Lit::of` gives for a variable and for its negation
pub negative_of : (r : Option ℕ) (v : ℕ) → SomeIff r (IsLit (code_of (neg_ℤ (pos v)))) (code_of (neg_ℤ (pos v))) → 0 < v → v ≤ 8388607 → r ≡ Some (2 * v + 1)
negative_of None zero h low high = absurd (omega arith)
negative_of None (suc v) h low high = absurd (h (record { not_zero = omega arith; within = omega arith }))
negative_of (Some x) zero h low high = absurd (omega arith)
negative_of (Some x) (suc v) h low high = ap Some (let e = h.1 in omega arith)

pub positive_of : (r : Option ℕ) (v : ℕ) → SomeIff r (IsLit (code_of (pos v))) (code_of (pos v)) → 0 < v → v ≤ 8388607 → r ≡ Some (2 * v)
positive_of None v h low high = absurd (h (record { not_zero = omega arith; within = omega arith }))
positive_of (Some x) v h low high = ap Some (h.1)

-- a token that begins with `-`, and one that doesn't
pub lit_of-minus : (token digits : List ℕ) → bytes_eq (take 1 token) (45 ∷ []) ≡ true → digits ≡ drop 1 token → lit_of token ≡ option_map (λ variable. 2 * variable + 1) (variable_of digits)
unfolding lit_of
lit_of-minus token digits minus rest = rw (minus, rest) refl

pub lit_of-plain : (token : List ℕ) → bytes_eq (take 1 token) (45 ∷ []) ≡ false → lit_of token ≡ option_map (λ variable. 2 * variable) (variable_of token)
unfolding lit_of
lit_of-plain token minus = rw minus refl

pub minus_refused : (r : Option ℕ) (token digits : List ℕ) → bytes_eq (take 1 token) (45 ∷ []) ≡ true → digits ≡ drop 1 token → ◌≡◌ {A = Option ℕ} None (variable_of digits) → r ≡ None → r ≡ lit_of token
minus_refused r token digits minus rest nothing is = is ∙ ap (option_map (λ variable. 2 * variable + 1)) nothing ∙ sym (lit_of-minus token digits minus rest)

pub plain_refused : (r : Option ℕ) (token : List ℕ) → bytes_eq (take 1 token) (45 ∷ []) ≡ false → ◌≡◌ {A = Option ℕ} None (variable_of token) → r ≡ None → r ≡ lit_of token
plain_refused r token minus nothing is = is ∙ ap (option_map (λ variable. 2 * variable)) nothing ∙ sym (lit_of-plain token minus)

pub minus_read : (r : Option ℕ) (token digits : List ℕ) (z : ℤ) (v : ℕ) → bytes_eq (take 1 token) (45 ∷ []) ≡ true → digits ≡ drop 1 token → ◌≡◌ {A = Option ℕ} (Some v) (variable_of digits) →
    SomeIff r (IsLit (code_of z)) (code_of z) → z ≡ neg_ℤ (pos v) → 0 < v → v ≤ 8388607 → r ≡ lit_of token
minus_read r token digits z v minus rest found made is low high =
    negative_of r v (subst (λ y. SomeIff r (IsLit (code_of y)) (code_of y)) is made) low high
    ∙ ap (option_map (λ variable. 2 * variable + 1)) found ∙ sym (lit_of-minus token digits minus rest)

pub plain_read : (r : Option ℕ) (token : List ℕ) (z : ℤ) (v : ℕ) → bytes_eq (take 1 token) (45 ∷ []) ≡ false → ◌≡◌ {A = Option ℕ} (Some v) (variable_of token) →
    SomeIff r (IsLit (code_of z)) (code_of z) → z ≡ pos v → 0 < v → v ≤ 8388607 → r ≡ lit_of token
plain_read r token z v minus found made is low high =
    positive_of r v (subst (λ y. SomeIff r (IsLit (code_of y)) (code_of y)) is made) low high
    ∙ ap (option_map (λ variable. 2 * variable)) found ∙ sym (lit_of-plain token minus)

pub each_digit : (digits : List ℕ) → list_all is_ascii_digit digits ≡ all_ascii_digits digits
each_digit [] = refl
each_digit (d ∷ ds) = ap (λ b. is_ascii_digit d && b) (each_digit ds)
