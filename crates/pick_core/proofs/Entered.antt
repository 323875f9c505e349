-- Orders with new variables.
use Rattle.std.proofs.Common.{◌≡◌, ◌∙◌, ℕ, zero, suc, ◌+◌, ◌-◌, ◌≤◌, List, [], ◌∷◌, ◌++◌, length, ap, sym, arith, true, false, Bool}
use Rattle.std.specs.Prelude.{reverse}
use Rattle.std.specs.List.{range_with_len}
use Rattle.std.proofs.lemmas.List.{append-nil, append_assoc, length-append, length-reverse, reverse-append}
use Rattle.std.proofs.lemmas.List.FromFn.{length-range_with_len}
use Rattle.pick_core.specs.Queue.{with_next, entered}

pub range_more : (a n : ℕ) → range_with_len a (suc n) ≡ range_with_len a n ++ (a + n) ∷ []
range_more a zero = ap (λ k. k ∷ []) (omega arith)
range_more a (suc n) = ap (λ (xs : List ℕ). a ∷ xs) (range_more (a + 1) n ∙ ap (λ k. range_with_len (a + 1) n ++ k ∷ []) (omega arith))

pub entered_none : (at_end : Bool) (order : List ℕ) (from to : ℕ) → to ≤ from → entered at_end order from to ≡ order
entered_none true order from to le = ap (λ n. reverse (range_with_len (from + 1) n) ++ order) (none from to le)
  where
    none : (m n : ℕ) → n ≤ m → n - m ≡ 0
    none m n h = omega (arith, h)
entered_none false order from to le = ap (λ n. order ++ range_with_len (from + 1) n) (none from to le) ∙ append-nil order
  where
    none : (m n : ℕ) → n ≤ m → n - m ≡ 0
    none m n h = omega (arith, h)

pub entered_more : (at_end : Bool) (order : List ℕ) (from var : ℕ) → from ≤ var → entered at_end order from (var + 1) ≡ with_next at_end (var + 1) (entered at_end order from var)
entered_more true order from var le =
    let count : var + 1 - from ≡ suc (var - from) = omega (arith, le) in
    let number : from + 1 + (var - from) ≡ var + 1 = omega (arith, le) in
    ap (λ n. reverse (range_with_len (from + 1) n) ++ order) count
    ∙ ap (λ (xs : List ℕ). reverse xs ++ order) (range_more (from + 1) (var - from))
    ∙ ap (λ (xs : List ℕ). xs ++ order) (reverse-append (range_with_len (from + 1) (var - from)) ((from + 1 + (var - from)) ∷ []))
    ∙ ap (λ n. n ∷ reverse (range_with_len (from + 1) (var - from)) ++ order) number
entered_more false order from var le =
    let count : var + 1 - from ≡ suc (var - from) = omega (arith, le) in
    let number : from + 1 + (var - from) ≡ var + 1 = omega (arith, le) in
    ap (λ n. order ++ range_with_len (from + 1) n) count
    ∙ ap (λ (xs : List ℕ). order ++ xs) (range_more (from + 1) (var - from))
    ∙ ap (λ n. order ++ (range_with_len (from + 1) (var - from) ++ n ∷ [])) number
    ∙ sym (append_assoc order (range_with_len (from + 1) (var - from)) ((var + 1) ∷ []))

pub entered_size : (at_end : Bool) (order : List ℕ) (from to : ℕ) → length (entered at_end order from to) ≡ length order + (to - from)
entered_size true order from to = omega (arith, length-append (reverse (range_with_len (from + 1) (to - from))) order, length-reverse (range_with_len (from + 1) (to - from)), length-range_with_len (from + 1) (to - from))
entered_size false order from to = omega (arith, length-append order (range_with_len (from + 1) (to - from)), length-range_with_len (from + 1) (to - from))
