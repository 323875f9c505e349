-- What a reader keeps of a token's bytes tells what the token is.
use Rattle.std.proofs.Common.{◌≡◌, ◌∙◌, ℕ, zero, suc, ◌+◌, ◌-◌, ◌*◌, ◌<◌, ◌≤◌, List, [], ◌∷◌, ◌++◌, length, drop, Bool, true, false, cond, refl, ap, sym, subst, inl, inr, arith, zero-add}
use Rattle.std.specs.Prelude.{◌⊎◌, ◌≢◌, nat_lt, ◌==◌, ◌&&◌, codes, slice_index}
use Rattle.std.specs.Char.{is_ascii_digit, digit_value}
use Rattle.std.specs.Str.{all_ascii_digits, bytes_eq}
use Rattle.std.specs.Str.Parse.{digits_value}
use Rattle.std.proofs.lemmas.Bool.{and_parts, and_from, ltb-true, lt-ltb, cases_lt}
use Rattle.std.proofs.lemmas.Bool.Decides.{nat_tests}
use Rattle.std.proofs.lemmas.Int.Digits.{digits_value_push}
use Rattle.std.proofs.lemmas.List.Recursion.{and_push}
use Rattle.std.proofs.lemmas.Slice.Eq.{bytes_eq-Decides}
use Rattle.icnf_text.specs.declared.words.Word.{Word}
use Rattle.icnf_text.specs.declared.words.Word.TheVariants as word
use Rattle.icnf_text.specs.Number.{is_zero, is_mark, is_minus, is_literal, digits_of, variable_of}
use Rattle.icnf_text.specs.Machine.{first_byte, first_digit, next_digit, next_letter, extended}

pub not_true : (b : Bool) → (b ≡ true → ⊥) → b ≡ false
not_true true h = absurd (h refl)
not_true false h = refl

pub differs : (xs ys : List ℕ) → (xs ≡ ys → ⊥) → bytes_eq xs ys ≡ false
differs xs ys h = not_true (bytes_eq xs ys) (λ is. h ((bytes_eq-Decides xs ys).0 is))

eq_true : (a b : ℕ) → (a == b) ≡ true → a ≡ b
eq_true a b h = grind (arith, nat_tests)

and_true : (b : Bool) → (b && true) ≡ b
and_true true = refl
and_true false = refl

and_false : (b : Bool) → (b && false) ≡ false
and_false true = refl
and_false false = refl

and_assoc : (a b c : Bool) → ((a && b) && c) ≡ (a && (b && c))
and_assoc true b c = refl
and_assoc false b c = refl

and_swap : (a b c : Bool) → ((a && b) && c) ≡ ((a && c) && b)
and_swap true true true = refl
and_swap true true false = refl
and_swap true false true = refl
and_swap true false false = refl
and_swap false b c = refl

-- the first list stands at the front of the second
abbrev pub is_front : List ℕ → List ℕ → Bool
is_front [] ys = true
is_front (x ∷ xs) [] = false
is_front (x ∷ xs) (y ∷ ys) = (x == y) && is_front xs ys

abbrev pub inccnf : List ℕ
inccnf = codes "inccnf"

is_front-push : (xs ys : List ℕ) (b : ℕ) → is_front (xs ++ b ∷ []) ys ≡ (is_front xs ys && is_front (b ∷ []) (drop (length xs) ys))
is_front-push [] ys b = refl
is_front-push (x ∷ xs) [] b = refl
is_front-push (x ∷ xs) (y ∷ ys) b = ap (λ r. (x == y) && r) (is_front-push xs ys b) ∙ sym (and_assoc (x == y) (is_front xs ys) (is_front (b ∷ []) (drop (length xs) ys)))

pub front_whole : (xs ys : List ℕ) → is_front xs ys ≡ true → length xs ≡ length ys → xs ≡ ys
front_whole [] [] h len = refl
front_whole [] (y ∷ ys) h len = absurd (omega arith)
front_whole (x ∷ xs) [] h len = absurd (omega arith)
front_whole (x ∷ xs) (y ∷ ys) h len =
    let head : x ≡ y = eq_true x y (and_parts _ _ h).0 in
    let tail : xs ≡ ys = front_whole xs ys (and_parts _ _ h).1 (omega arith) in cc

past : (k : ℕ) → nat_lt (suc (suc (suc (suc (suc (suc k)))))) 6 ≡ false
past k = grind (arith, nat_tests)

drop_nothing : (k : ℕ) → drop {A = ℕ} k [] ≡ []
drop_nothing zero = refl
drop_nothing (suc k) = refl

letter : (k b : ℕ) → is_front (b ∷ []) (drop k inccnf) ≡ (nat_lt k 6 && (b == slice_index inccnf k))
letter zero b = and_true _
letter (suc zero) b = and_true _
letter (suc (suc zero)) b = and_true _
letter (suc (suc (suc zero))) b = and_true _
letter (suc (suc (suc (suc zero)))) b = and_true _
letter (suc (suc (suc (suc (suc zero))))) b = and_true _
letter (suc (suc (suc (suc (suc (suc k)))))) b = rw (past k, drop_nothing k) refl

-- one more byte
two : (xs : List ℕ) (b w : ℕ) → 0 < length xs → bytes_eq (xs ++ b ∷ []) (w ∷ []) ≡ false
two [] b w some = absurd (omega arith)
two (x ∷ []) b w some = and_false (x == w)
two (x ∷ y ∷ xs) b w some = and_false (x == w)

is_minus-push : (xs : List ℕ) (b : ℕ) → 0 < length xs → is_minus (xs ++ b ∷ []) ≡ is_minus xs
is_minus-push [] b some = absurd (omega arith)
is_minus-push (x ∷ xs) b some = refl

digits_by : (m : Bool) (x : ℕ) (xs : List ℕ) (b : ℕ) → cond m (xs ++ b ∷ []) (x ∷ xs ++ b ∷ []) ≡ cond m xs (x ∷ xs) ++ b ∷ []
digits_by true x xs b = refl
digits_by false x xs b = refl

digits_of-push : (xs : List ℕ) (b : ℕ) → 0 < length xs → digits_of (xs ++ b ∷ []) ≡ digits_of xs ++ b ∷ []
digits_of-push [] b some = absurd (omega arith)
digits_of-push (x ∷ xs) b some = digits_by (is_minus (x ∷ xs)) x xs b

some_by : (m : Bool) (x : ℕ) (xs : List ℕ) → ((x == 45) && true) ≡ m → x ∷ xs ≢ 45 ∷ [] → 0 < length (cond m xs (x ∷ xs))
some_by true x [] h other = let is : x ≡ 45 = eq_true x 45 (and_parts _ _ h).0 in absurd (other (ap (λ (y : ℕ). y ∷ []) is))
some_by true x (y ∷ xs) h other = omega arith
some_by false x xs h other = omega arith

some_digits : (xs : List ℕ) → 0 < length xs → xs ≢ 45 ∷ [] → 0 < length (digits_of xs)
some_digits [] some other = absurd (omega arith)
some_digits (x ∷ xs) some other = some_by (is_minus (x ∷ xs)) x xs refl other

numeral-push : (ds : List ℕ) (b : ℕ) → 0 < length ds → (all_ascii_digits (ds ++ b ∷ []) && nat_lt 48 (slice_index (ds ++ b ∷ []) 0)) ≡ ((all_ascii_digits ds && nat_lt 48 (slice_index ds 0)) && is_ascii_digit b)
numeral-push [] b some = absurd (omega arith)
numeral-push (d ∷ ds) b some =
    ap (λ r. r && nat_lt 48 d) (and_push all_ascii_digits is_ascii_digit refl (λ _ _. refl) (d ∷ ds) b)
    ∙ and_swap (all_ascii_digits (d ∷ ds)) (is_ascii_digit b) (nat_lt 48 d)

is_literal-push : (xs : List ℕ) (b : ℕ) → 0 < length xs → xs ≢ 45 ∷ [] → is_literal (xs ++ b ∷ []) ≡ (is_literal xs && is_ascii_digit b)
is_literal-push xs b some other =
    ap (λ (ds : List ℕ). all_ascii_digits ds && nat_lt 48 (slice_index ds 0)) (digits_of-push xs b some) ∙ numeral-push (digits_of xs) b (some_digits xs some other)

variable_of-push : (xs : List ℕ) (b : ℕ) → 0 < length xs → variable_of (xs ++ b ∷ []) ≡ variable_of xs * 10 + digit_value b
variable_of-push xs b some = ap (digits_value 10) (digits_of-push xs b some) ∙ digits_value_push 10 (digits_of xs) b

-- what begins as `inccnf` does is no number
pub front_not_literal : (xs : List ℕ) → 0 < length xs → is_front xs inccnf ≡ true → is_literal xs ≡ false
front_not_literal [] some front = absurd (omega arith)
front_not_literal (x ∷ xs) some front =
    let is : x ≡ 105 = eq_true x 105 (and_parts _ _ front).0 in
    subst (λ (y : ℕ). is_literal (y ∷ xs) ≡ false) (sym is) refl

-- no byte behind these makes a number, `-` or the front of `inccnf` of them
pub record IsDead (bytes : List ℕ) : Type 0 where
  pub some : 0 < length bytes
  pub not_minus : bytes ≢ 45 ∷ []
  pub not_literal : is_literal bytes ≡ false
  pub not_front : is_front bytes inccnf ≡ false

pub record IsStrange (bytes : List ℕ) : Type 0 where
  pub dead : IsDead bytes
  pub not_zero : is_zero bytes ≡ false
  pub not_mark : is_mark bytes ≡ false
  pub not_p : bytes_eq bytes (codes "p") ≡ false

abbrev pub IsCapped : ℕ → ℕ → Type 0
IsCapped v n = ((v ≤ 8388607) × (v ≡ n)) ⊎ ((8388607 < v) × (8388607 < n))

pub record IsNumber (negative : Bool) (v : ℕ) (bytes : List ℕ) : Type 0 where
  pub literal : is_literal bytes ≡ true
  pub sign : is_minus bytes ≡ negative
  pub value : IsCapped v (variable_of bytes)

-- what is kept of these bytes
abbrev pub IsWord : Word → List ℕ → Type 0
IsWord word.Nothing bytes = bytes ≡ []
IsWord word.Zero bytes = bytes ≡ 48 ∷ []
IsWord word.Minus bytes = bytes ≡ 45 ∷ []
IsWord word.Mark bytes = bytes ≡ 97 ∷ []
IsWord (word.Number negative v) bytes = IsNumber negative v bytes
IsWord word.P bytes = bytes ≡ 112 ∷ []
IsWord (word.Inccnf count) bytes = (is_front bytes inccnf ≡ true) × (length bytes ≡ count) × (0 < count)
IsWord word.Strange bytes = IsStrange bytes

length_push : (xs : List ℕ) (b : ℕ) → length (xs ++ b ∷ []) ≡ length xs + 1
length_push [] b = refl
length_push (x ∷ xs) b = let h = length_push xs b in omega arith

not_short : (xs : List ℕ) (b : ℕ) → 0 < length xs → xs ++ b ∷ [] ≢ 45 ∷ []
not_short xs b some is = let h = length_push xs b in let k = ap length is in omega arith

strange : (xs : List ℕ) (b : ℕ) → 0 < length xs → is_literal (xs ++ b ∷ []) ≡ false → is_front (xs ++ b ∷ []) inccnf ≡ false → IsStrange (xs ++ b ∷ [])
strange xs b some literal front = record {
  dead = record { some = let h = length_push xs b in omega arith; not_minus = not_short xs b some; not_literal = literal; not_front = front };
  not_zero = two xs b 48 some;
  not_mark = two xs b 97 some;
  not_p = two xs b 112 some;
}

dead_more : (xs : List ℕ) (b : ℕ) → IsDead xs → IsStrange (xs ++ b ∷ [])
dead_more xs b dead =
    strange xs b dead.some
    (is_literal-push xs b dead.some dead.not_minus ∙ ap (λ r. r && is_ascii_digit b) dead.not_literal)
    (is_front-push xs inccnf b ∙ ap (λ r. r && is_front (b ∷ []) (drop (length xs) inccnf)) dead.not_front)

digit_is : (c : ℕ) → is_ascii_digit c ≡ true → (digit_value c ≡ c - 48) × (48 ≤ c) × (c ≤ 57)
digit_is c h = grind (arith, nat_tests)

one_digit : (b : ℕ) → is_ascii_digit b ≡ true → b - 48 ≤ 8388607
one_digit b h = let d = digit_is b h in omega (arith, d.2)

above_zero : (b : ℕ) → (b == 48) ≡ false → is_ascii_digit b ≡ true → 48 < b
above_zero b h digit = grind (arith, nat_tests)

not_head : (b c : ℕ) → (b == c) ≡ false → b ∷ [] ≢ c ∷ []
not_head b c h is = let same : b ≡ c = cc in absurd (other b c h same)
  where
    other : (b c : ℕ) → (b == c) ≡ false → b ≡ c → ⊥
    other b c h same = grind (arith, nat_tests)

first_is : (b : ℕ) (zero minus mark p i digit : Bool) → (b == 48) ≡ zero → (b == 45) ≡ minus → (b == 97) ≡ mark → (b == 112) ≡ p → (b == 105) ≡ i → is_ascii_digit b ≡ digit →
    IsWord (cond zero word.Zero (cond minus word.Minus (cond mark word.Mark (cond p word.P (cond i (word.Inccnf 1) (cond digit (word.Number false (b - 48)) word.Strange)))))) (b ∷ [])
first_is b true minus mark p i digit h0 h1 h2 h3 h4 h5 = ap (λ (c : ℕ). c ∷ []) (eq_true b 48 h0)
first_is b false true mark p i digit h0 h1 h2 h3 h4 h5 = ap (λ (c : ℕ). c ∷ []) (eq_true b 45 h1)
first_is b false false true p i digit h0 h1 h2 h3 h4 h5 = ap (λ (c : ℕ). c ∷ []) (eq_true b 97 h2)
first_is b false false false true i digit h0 h1 h2 h3 h4 h5 = ap (λ (c : ℕ). c ∷ []) (eq_true b 112 h3)
first_is b false false false false true digit h0 h1 h2 h3 h4 h5 = (rw h4 refl, refl, omega arith)
first_is b false false false false false true h0 h1 h2 h3 h4 h5 = record {
  literal = rw (h1, h5) (lt-ltb 48 b (above_zero b h0 h5));
  sign = rw h1 refl;
  value = inl (one_digit b h5, rw h1 (sym (zero-add (digit_value b) ∙ (digit_is b h5).0)));
}
first_is b false false false false false false h0 h1 h2 h3 h4 h5 = record {
  dead = record { some = omega arith; not_minus = not_head b 45 h1; not_literal = rw (h1, h5) refl; not_front = rw h4 refl };
  not_zero = rw h0 refl;
  not_mark = rw h2 refl;
  not_p = rw h3 refl;
}

second_is : (b : ℕ) (digit large : Bool) → is_ascii_digit b ≡ digit → nat_lt 48 b ≡ large → IsWord (cond (digit && large) (word.Number true (b - 48)) word.Strange) (45 ∷ b ∷ [])
second_is b true true h0 h1 = record {
  literal = rw (h0, h1) refl;
  sign = refl;
  value = inl (one_digit b h0, sym (zero-add (digit_value b) ∙ (digit_is b h0).0));
}
second_is b true false h0 h1 = strange (45 ∷ []) b (omega arith) (rw (h0, h1) refl) refl
second_is b false large h0 h1 = strange (45 ∷ []) b (omega arith) (rw h0 refl) refl

-- a number is neither empty nor `-`
number_some : (bytes : List ℕ) → is_literal bytes ≡ true → 0 < length bytes
number_some [] h = cc
number_some (x ∷ xs) h = omega arith

number_not_minus : (bytes : List ℕ) → is_literal bytes ≡ true → bytes ≢ 45 ∷ []
number_not_minus bytes h is = let k : is_literal (45 ∷ []) ≡ true = subst (λ (bs : List ℕ). is_literal bs ≡ true) is h in cc

number_not_front : (bytes : List ℕ) → is_literal bytes ≡ true → is_front bytes inccnf ≡ false
number_not_front bytes h = not_true (is_front bytes inccnf) (λ front. let k = front_not_literal bytes (number_some bytes h) front in cc)

capped : (v n b : ℕ) (large : Bool) → nat_lt 8388607 v ≡ large → IsCapped v n → is_ascii_digit b ≡ true → IsCapped (cond large v (v * 10 + (b - 48))) (n * 10 + digit_value b)
capped v n b true h cap digit = inr (ltb-true 8388607 v h, let d = digit_is b digit in let big = ltb-true 8388607 v h in still v n big cap (digit_value b))
  where
    still : (v n : ℕ) → 8388607 < v → IsCapped v n → (d : ℕ) → 8388607 < n * 10 + d
    still v n big (inl at) d = absurd (let x = at.0 in omega arith)
    still v n big (inr over) d = let x = over.1 in omega arith
capped v n b false h cap digit = at v n (digit_is b digit).0 (small v h) cap (cases_lt 8388607 (v * 10 + (b - 48)))
  where
    small : (v : ℕ) → nat_lt 8388607 v ≡ false → v ≤ 8388607
    small v h = grind (arith, nat_tests)

    at : (v n : ℕ) → digit_value b ≡ b - 48 → v ≤ 8388607 → IsCapped v n → (8388607 < v * 10 + (b - 48)) ⊎ (v * 10 + (b - 48) ≤ 8388607) → IsCapped (v * 10 + (b - 48)) (n * 10 + digit_value b)
    at v n d low (inl is) (inl over) = let x = is.1 in inr (over, omega arith)
    at v n d low (inl is) (inr under) = let x = is.1 in inl (under, omega arith)
    at v n d low (inr over) _ = absurd (let x = over.0 in omega arith)

number_is : (negative : Bool) (v : ℕ) (bytes : List ℕ) (b : ℕ) (digit : Bool) → is_ascii_digit b ≡ digit → IsNumber negative v bytes →
    IsWord (cond digit (word.Number negative (cond (nat_lt 8388607 v) v (v * 10 + (b - 48)))) word.Strange) (bytes ++ b ∷ [])
number_is negative v bytes b true h is = record {
  literal = is_literal-push bytes b (number_some bytes is.literal) (number_not_minus bytes is.literal) ∙ and_from _ _ is.literal h;
  sign = is_minus-push bytes b (number_some bytes is.literal) ∙ is.sign;
  value = subst (λ (n : ℕ). IsCapped (cond (nat_lt 8388607 v) v (v * 10 + (b - 48))) n) (sym (variable_of-push bytes b (number_some bytes is.literal))) (capped v (variable_of bytes) b (nat_lt 8388607 v) refl is.value h);
}
number_is negative v bytes b false h is =
    strange bytes b (number_some bytes is.literal)
    (is_literal-push bytes b (number_some bytes is.literal) (number_not_minus bytes is.literal) ∙ ap (λ r. is_literal bytes && r) h ∙ and_false (is_literal bytes))
    (is_front-push bytes inccnf b ∙ ap (λ r. r && is_front (b ∷ []) (drop (length bytes) inccnf)) (number_not_front bytes is.literal))

front_not_minus : (bytes : List ℕ) → is_front bytes inccnf ≡ true → bytes ≢ 45 ∷ []
front_not_minus bytes h is = let k : is_front (45 ∷ []) inccnf ≡ true = subst (λ (bs : List ℕ). is_front bs inccnf ≡ true) is h in cc

letter_is : (count : ℕ) (bytes : List ℕ) (b : ℕ) (next : Bool) → (nat_lt count 6 && (b == slice_index inccnf count)) ≡ next → is_front bytes inccnf ≡ true → length bytes ≡ count → 0 < count →
    IsWord (cond next (word.Inccnf (count + 1)) word.Strange) (bytes ++ b ∷ [])
letter_is count bytes b true h front len some = (
  is_front-push bytes inccnf b ∙ and_from _ _ front (letter (length bytes) b ∙ ap (λ n. nat_lt n 6 && (b == slice_index inccnf n)) len ∙ h),
  (let k = length_push bytes b in omega arith),
  omega arith,
)
letter_is count bytes b false h front len some =
    strange bytes b (omega arith)
    (is_literal-push bytes b (omega arith) (front_not_minus bytes front) ∙ ap (λ r. r && is_ascii_digit b) (front_not_literal bytes (omega arith) front))
    (is_front-push bytes inccnf b ∙ ap (λ r. r && is_front (b ∷ []) (drop (length bytes) inccnf)) front ∙ letter (length bytes) b ∙ ap (λ n. nat_lt n 6 && (b == slice_index inccnf n)) len ∙ h)

nothing_is : (bytes : List ℕ) (b : ℕ) → bytes ≡ [] → IsWord (first_byte b) (bytes ++ b ∷ [])
nothing_is bytes b is = subst (λ (bs : List ℕ). IsWord (first_byte b) (bs ++ b ∷ [])) (sym is) (first_is b (b == 48) (b == 45) (b == 97) (b == 112) (b == 105) (is_ascii_digit b) refl refl refl refl refl refl)

minus_is : (bytes : List ℕ) (b : ℕ) → bytes ≡ 45 ∷ [] → IsWord (first_digit b) (bytes ++ b ∷ [])
minus_is bytes b is = subst (λ (bs : List ℕ). IsWord (first_digit b) (bs ++ b ∷ [])) (sym is) (second_is b (is_ascii_digit b) (nat_lt 48 b) refl refl)

dead_zero : IsDead (48 ∷ [])
dead_zero = record { some = omega arith; not_minus = λ h. cc; not_literal = refl; not_front = refl }

dead_mark : IsDead (97 ∷ [])
dead_mark = record { some = omega arith; not_minus = λ h. cc; not_literal = refl; not_front = refl }

dead_p : IsDead (112 ∷ [])
dead_p = record { some = omega arith; not_minus = λ h. cc; not_literal = refl; not_front = refl }

other_is : (other bytes : List ℕ) (b : ℕ) → IsDead other → bytes ≡ other → IsStrange (bytes ++ b ∷ [])
other_is other bytes b dead is = dead_more bytes b (subst IsDead (sym is) dead)

digit_next : (negative : Bool) (v : ℕ) (bytes : List ℕ) (b : ℕ) → IsNumber negative v bytes → IsWord (next_digit negative v b) (bytes ++ b ∷ [])
digit_next negative v bytes b is = number_is negative v bytes b (is_ascii_digit b) refl is

letter_next : (count : ℕ) (bytes : List ℕ) (b : ℕ) → (is_front bytes inccnf ≡ true) × (length bytes ≡ count) × (0 < count) → IsWord (next_letter count b) (bytes ++ b ∷ [])
letter_next count bytes b is = letter_is count bytes b (nat_lt count 6 && (b == slice_index inccnf count)) refl is.0 is.1 is.2

strange_is : (bytes : List ℕ) (b : ℕ) → IsStrange bytes → IsStrange (bytes ++ b ∷ [])
strange_is bytes b is = dead_more bytes b is.dead

pub extended_is : (w : Word) (bytes : List ℕ) (b : ℕ) → IsWord w bytes → IsWord (extended w b) (bytes ++ b ∷ [])
extended_is word.Nothing bytes b is = nothing_is bytes b is
extended_is word.Zero bytes b is = other_is (48 ∷ []) bytes b dead_zero is
extended_is word.Minus bytes b is = minus_is bytes b is
extended_is word.Mark bytes b is = other_is (97 ∷ []) bytes b dead_mark is
extended_is (word.Number negative v) bytes b is = digit_next negative v bytes b is
extended_is word.P bytes b is = other_is (112 ∷ []) bytes b dead_p is
extended_is (word.Inccnf count) bytes b is = letter_next count bytes b is
extended_is word.Strange bytes b is = strange_is bytes b is
