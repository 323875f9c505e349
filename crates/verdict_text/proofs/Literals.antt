-- A literal written from its end to its start.
use Rattle.std.proofs.Common.{◌≡◌, ◌∙◌, ℕ, ◌+◌, ◌*◌, ◌-◌, ◌≤◌, Bool, true, false, cond, List, [], ◌∷◌, ◌++◌, length, take, drop, decimal, refl, ap, arith, rules}
use Rattle.std.specs.Prelude.{set}
use Rattle.std.proofs.lemmas.Bool.Decides.{nat_tests}
use Rattle.std.proofs.lemmas.List.{drop-set-lt, drop-set, take_all, length-drop, length-set}
use Rattle.sat_base.specs.Lit.{is_negative, variable}
use Rattle.line_tokens.specs.Token.{lit_text}
use Rattle.verdict_text.specs.Block.{lit_with}

even_text : (var : ℕ) → decimal var ++ 32 ∷ [] ≡ lit_text (2 * var)
even_text var =
    let sign : is_negative (2 * var) ≡ false = grind (arith, nat_tests) in
    let of : variable (2 * var) ≡ var = omega arith in
    rw (sign, of) refl

odd_text : (var : ℕ) → 45 ∷ decimal var ++ 32 ∷ [] ≡ lit_text (2 * var + 1)
odd_text var =
    let sign : is_negative (2 * var + 1) ≡ true = grind (arith, nat_tests) in
    let of : variable (2 * var + 1) ≡ var = omega arith in
    rw (sign, of) refl

-- a text with digits and a space from the place on, and behind a sign set before it
pub printed : (text : List ℕ) (size place start var : ℕ) (value : Bool) → length text ≡ size → 1 ≤ place → place ≤ size →
    drop place text ≡ decimal var ++ 32 ∷ [] → start ≡ cond value place (place - 1) →
    take (size - start) (drop start (set text (place - 1) 45)) ≡ lit_text (lit_with var value)
printed text size place start var true long some within written is =
    take_all _ _ (search (rules, arith, length-drop, length-set, long))
    ∙ ap (λ n. drop n (set text (place - 1) 45)) is ∙ drop-set-lt place text (place - 1) 45 (omega arith) ∙ written ∙ even_text var
printed text size place start var false long some within written is =
    take_all _ _ (search (rules, arith, length-drop, length-set, long))
    ∙ ap (λ n. drop n (set text (place - 1) 45)) is ∙ drop-set text (place - 1) 45 (omega arith)
    ∙ ap (λ n. 45 ∷ drop n text) (omega arith) ∙ ap (λ t. 45 ∷ t) written ∙ odd_text var
