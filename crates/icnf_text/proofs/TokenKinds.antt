-- What a reader keeps of a whole token, and what the token is.
use Rattle.std.proofs.Common.{◌≡◌, ◌∙◌, ℕ, ◌+◌, ◌-◌, ◌*◌, ◌<◌, ◌≤◌, List, [], ◌∷◌, length, get_or, Bool, true, false, cond, refl, ap, sym, subst, inl, inr, arith}
use Rattle.std.specs.Prelude.{nat_lt, nat_le, ◌==◌, ◌&&◌, codes, Option, Some, None}
use Rattle.std.specs.Char.{is_ascii_digit, digit_value}
use Rattle.std.specs.Str.{all_ascii_digits, bytes_eq}
use Rattle.std.specs.Str.Parse.{digits_value}
use Rattle.std.proofs.lemmas.Bool.{and_parts, and_from, ltb-true, lt-ltb, le-leb}
use Rattle.std.proofs.lemmas.Bool.Decides.{nat_tests}
use Rattle.std.proofs.lemmas.Slice.Eq.{bytes_eq-Decides}
use Rattle.std.proofs.lemmas.Str.Parse.{digits_value-take-le}
use Rattle.icnf_text.specs.declared.words.Word.{Word}
use Rattle.icnf_text.specs.declared.words.Word.TheVariants as word
use Rattle.icnf_text.specs.Number.{is_zero, is_mark, is_minus, is_literal, digits_of, variable_of, code_of, is_variable}
use Rattle.icnf_text.specs.Machine.{is_p, is_inccnf, lit_code}
use Rattle.icnf_text.proofs.Tokens.{IsWord, IsStrange, IsNumber, IsCapped, is_front, inccnf, differs, front_whole, front_not_literal}

-- neither the end of a statement nor a literal nor the mark of a cube
pub record IsOther (bytes : List ℕ) : Type 0 where
  pub not_zero : is_zero bytes ≡ false
  pub not_literal : is_literal bytes ≡ false
  pub not_mark : is_mark bytes ≡ false

pub other_minus : (bytes : List ℕ) → bytes ≡ 45 ∷ [] → IsOther bytes
other_minus bytes is = subst IsOther (sym is) (record { not_zero = refl; not_literal = refl; not_mark = refl })

pub other_p : (bytes : List ℕ) → bytes ≡ 112 ∷ [] → IsOther bytes
other_p bytes is = subst IsOther (sym is) (record { not_zero = refl; not_literal = refl; not_mark = refl })

front_other : (bytes other : List ℕ) → is_front bytes inccnf ≡ true → is_front other inccnf ≡ false → bytes ≡ other → ⊥
front_other bytes other h no_front is = let k : is_front other inccnf ≡ true = subst (λ (bs : List ℕ). is_front bs inccnf ≡ true) is h in cc

pub other_front : (bytes : List ℕ) → is_front bytes inccnf ≡ true → 0 < length bytes → IsOther bytes
other_front bytes h some = record {
  not_zero = differs bytes (48 ∷ []) (front_other bytes (48 ∷ []) h refl);
  not_literal = front_not_literal bytes some h;
  not_mark = differs bytes (97 ∷ []) (front_other bytes (97 ∷ []) h refl);
}

pub other_strange : (bytes : List ℕ) → IsStrange bytes → IsOther bytes
other_strange bytes is = record { not_zero = is.not_zero; not_literal = is.dead.not_literal; not_mark = is.not_mark }

-- a literal token is none of these
pub literal_differs : (bytes other : List ℕ) → is_literal bytes ≡ true → is_literal other ≡ false → bytes_eq bytes other ≡ false
literal_differs bytes other h no_literal = differs bytes other (λ is. let k : is_literal other ≡ true = subst (λ (bs : List ℕ). is_literal bs ≡ true) is h in cc)

-- its variable is not 0
first_digit : (ds : List ℕ) → all_ascii_digits ds ≡ true → nat_lt 48 (get_or ds 0 0) ≡ true → 0 < digits_value 10 ds
first_digit [] all first = absurd (let h = ltb-true 48 0 first in omega arith)
first_digit (d ∷ ds) all first =
    let more = digits_value-take-le 10 (d ∷ ds) 1 (omega arith) in
    let low = ltb-true 48 d first in
    let is = digit_is d (and_parts _ _ all).0 in
    omega arith
  where
    digit_is : (c : ℕ) → is_ascii_digit c ≡ true → digit_value c ≡ c - 48
    digit_is c h = grind (arith, nat_tests)

pub variable_some : (bytes : List ℕ) → is_literal bytes ≡ true → 0 < variable_of bytes
variable_some bytes h = first_digit (digits_of bytes) (and_parts _ _ h).0 (and_parts _ _ h).1

-- the literal of a number, where its variable is one
pub lit_code-within : (negative : Bool) (v : ℕ) (bytes : List ℕ) → IsNumber negative v bytes → v ≤ 8388607 → lit_code negative v ≡ Some (code_of bytes)
lit_code-within negative v bytes is low = by (same v (variable_of bytes) low is.value) (variable_some bytes is.literal) is.sign
  where
    same : (v n : ℕ) → v ≤ 8388607 → IsCapped v n → v ≡ n
    same v n low (inl at) = at.1
    same v n low (inr over) = absurd (let k = over.0 in omega arith)

    code : (negative minus : Bool) (v n : ℕ) → minus ≡ negative → v ≡ n → 0 < v → v ≤ 8388607 → lit_code negative v ≡ Some (2 * n + cond minus 1 0)
    code negative minus v n sign is some low = rw (and_from _ _ (lt-ltb 0 v some) (le-leb v 8388607 low)) (ap Some (ap (λ k. 2 * k + cond negative 1 0) is ∙ ap (λ s. 2 * n + cond s 1 0) (sym sign)))

    by : v ≡ variable_of bytes → 0 < variable_of bytes → is_minus bytes ≡ negative → lit_code negative v ≡ Some (code_of bytes)
    by e some sign = code negative (is_minus bytes) v (variable_of bytes) sign e (omega arith) low

pub lit_code-over : (negative : Bool) (v : ℕ) → 8388607 < v → lit_code negative v ≡ None
lit_code-over negative v over = by (nat_lt 0 v) (nat_le v 8388607) (large v over)
  where
    large : (v : ℕ) → 8388607 < v → nat_le v 8388607 ≡ false
    large v h = grind (arith, nat_tests)

    by : (a b : Bool) → b ≡ false → ◌≡◌ {A = Option ℕ} (cond (a && b) (Some (2 * v + cond negative 1 0)) None) None
    by true true h = cc
    by true false h = refl
    by false b h = refl

pub variable_within : (v n : ℕ) → IsCapped v n → v ≤ 8388607 → is_variable n ≡ true
variable_within v n (inl at) low = le-leb n 8388607 (let e = at.1 in omega arith)
variable_within v n (inr over) low = absurd (let k = over.0 in omega arith)

pub variable_over : (v n : ℕ) → IsCapped v n → 8388607 < v → is_variable n ≡ false
variable_over v n (inl at) over = absurd (let e = at.0 in omega arith)
variable_over v n (inr both) over = large n both.1
  where
    large : (n : ℕ) → 8388607 < n → nat_le n 8388607 ≡ false
    large n h = grind (arith, nat_tests)

-- the words of the header
pub is_p-is : (w : Word) (bytes : List ℕ) → IsWord w bytes → is_p w ≡ bytes_eq bytes (codes "p")
is_p-is word.Nothing bytes is = subst (λ (bs : List ℕ). false ≡ bytes_eq bs (codes "p")) (sym is) refl
is_p-is word.Zero bytes is = subst (λ (bs : List ℕ). false ≡ bytes_eq bs (codes "p")) (sym is) refl
is_p-is word.Minus bytes is = subst (λ (bs : List ℕ). false ≡ bytes_eq bs (codes "p")) (sym is) refl
is_p-is word.Mark bytes is = subst (λ (bs : List ℕ). false ≡ bytes_eq bs (codes "p")) (sym is) refl
is_p-is (word.Number negative v) bytes is = sym (literal_differs bytes (codes "p") is.literal refl)
is_p-is word.P bytes is = subst (λ (bs : List ℕ). true ≡ bytes_eq bs (codes "p")) (sym is) refl
is_p-is (word.Inccnf count) bytes is = sym (differs bytes (codes "p") (front_other bytes (codes "p") is.0 refl))
is_p-is word.Strange bytes is = sym is.not_p

six : (n : ℕ) → (n == 6) ≡ true → n ≡ 6
six n h = grind (arith, nat_tests)

inccnf_by : (count : ℕ) (bytes : List ℕ) (b : Bool) → (count == 6) ≡ b → is_front bytes inccnf ≡ true → length bytes ≡ count → b ≡ bytes_eq bytes inccnf
inccnf_by count bytes true h front len =
    let whole : bytes ≡ inccnf = front_whole bytes inccnf front (len ∙ six count h) in sym ((bytes_eq-Decides bytes inccnf).1 whole)
inccnf_by count bytes false h front len = sym (differs bytes inccnf (λ is. not_six count (sym len ∙ ap length is) h))
  where
    not_six : (n : ℕ) → n ≡ 6 → (n == 6) ≡ false → ⊥
    not_six n e h = grind (arith, nat_tests)

pub is_inccnf-is : (w : Word) (bytes : List ℕ) → IsWord w bytes → is_inccnf w ≡ bytes_eq bytes inccnf
is_inccnf-is word.Nothing bytes is = subst (λ (bs : List ℕ). false ≡ bytes_eq bs inccnf) (sym is) refl
is_inccnf-is word.Zero bytes is = subst (λ (bs : List ℕ). false ≡ bytes_eq bs inccnf) (sym is) refl
is_inccnf-is word.Minus bytes is = subst (λ (bs : List ℕ). false ≡ bytes_eq bs inccnf) (sym is) refl
is_inccnf-is word.Mark bytes is = subst (λ (bs : List ℕ). false ≡ bytes_eq bs inccnf) (sym is) refl
is_inccnf-is (word.Number negative v) bytes is = sym (literal_differs bytes inccnf is.literal refl)
is_inccnf-is word.P bytes is = subst (λ (bs : List ℕ). false ≡ bytes_eq bs inccnf) (sym is) refl
is_inccnf-is (word.Inccnf count) bytes is = inccnf_by count bytes (count == 6) refl is.0 is.1
is_inccnf-is word.Strange bytes is = sym (differs bytes inccnf (λ e. let k : is_front inccnf inccnf ≡ false = subst (λ (bs : List ℕ). is_front bs inccnf ≡ false) e is.dead.not_front in cc))
