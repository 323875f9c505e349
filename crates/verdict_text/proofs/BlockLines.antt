-- The blocks of lines, one line after the other.
use Rattle.std.proofs.Common.{◌≡◌, ◌∙◌, ℕ, ◌+◌, List, [], ◌∷◌, ◌++◌, length, Bool, true, false, cond, refl, sym, ap, append_assoc, arith}
use Rattle.std.specs.Prelude.{Option, Some, None, Result, Ok, Err, ◌==◌}
use Rattle.std.specs.List.{slice_split}
use Rattle.std.proofs.lemmas.Bool.Decides.{nat_tests}
use Rattle.line_tokens.proofs.Tokens.{parts}
use Rattle.verdict_text.specs.declared.blocks.Printed.{Printed}
use Rattle.verdict_text.specs.declared.faults.BlockFault.{BlockFault}
use Rattle.verdict_text.specs.declared.faults.BlockFault.TheVariants.{Form}
use Rattle.verdict_text.specs.Text.{Reading, after_line, blocks_of_lines, finished, or_form}

pub joined : (x p q r a b c : List ℕ) → a ≡ x ++ p → b ≡ a ++ q → c ≡ b ++ r → c ≡ x ++ (p ++ (q ++ r))
joined x p q r a b c first second third = third ∙ ap (λ t. t ++ r) (second ∙ ap (λ t. t ++ q) first) ∙ append_assoc (x ++ p) q r ∙ append_assoc x p (q ++ r)

pub one_more : (tags sizes : List ℕ) (number : ℕ) (reading : Reading) (line : List ℕ) (p : ℕ → Bool) (more : List ℕ) →
    blocks_of_lines tags sizes number reading (line ∷ slice_split p more) ≡ or_form number (after_line tags sizes reading.done reading.due line) (λ after. blocks_of_lines tags sizes (number + 1) after (slice_split p more))
one_more tags sizes number reading line p more = let h = parts p more in rw (h.2) refl

-- a line that can stand there
pub line_taken : (tags sizes : List ℕ) (number : ℕ) (reading after : Reading) (p : ℕ → Bool) (rest line more : List ℕ) (whole : Result (List Printed) BlockFault) →
    slice_split p rest ≡ line ∷ slice_split p more → after_line tags sizes reading.done reading.due line ≡ Some after →
    blocks_of_lines tags sizes number reading (slice_split p rest) ≡ whole → blocks_of_lines tags sizes (number + 1) after (slice_split p more) ≡ whole
line_taken tags sizes number reading after p rest line more whole cut taken invariant =
    sym (one_more tags sizes number reading line p more ∙ ap (λ r. or_form number r (λ next. blocks_of_lines tags sizes (number + 1) next (slice_split p more))) taken)
    ∙ ap (blocks_of_lines tags sizes number reading) (sym cut) ∙ invariant

-- a wrong line
pub line_refused : (tags sizes : List ℕ) (number : ℕ) (reading : Reading) (p : ℕ → Bool) (rest line more : List ℕ) (whole : Result (List Printed) BlockFault) →
    slice_split p rest ≡ line ∷ slice_split p more → after_line tags sizes reading.done reading.due line ≡ None →
    blocks_of_lines tags sizes number reading (slice_split p rest) ≡ whole → whole ≡ Err (Form number)
line_refused tags sizes number reading p rest line more whole cut refused invariant =
    sym invariant ∙ ap (blocks_of_lines tags sizes number reading) cut ∙ one_more tags sizes number reading line p more
    ∙ ap (λ r. or_form number r (λ next. blocks_of_lines tags sizes (number + 1) next (slice_split p more))) refused

pub ended : (tags sizes : List ℕ) (number : ℕ) (reading : Reading) (p : ℕ → Bool) (rest : List ℕ) (found : Option (List Printed)) (whole : Result (List Printed) BlockFault) →
    slice_split p rest ≡ rest ∷ [] → length rest ≡ 0 → finished reading.done reading.due ≡ found →
    blocks_of_lines tags sizes number reading (slice_split p rest) ≡ whole → whole ≡ or_form number found (λ blocks. Ok blocks)
ended tags sizes number reading p rest found whole cut empty found_is invariant =
    let yes : (length rest == 0) ≡ true = grind (arith, nat_tests) in
    sym invariant ∙ ap (blocks_of_lines tags sizes number reading) cut
    ∙ ap (λ b. cond b (or_form number (finished reading.done reading.due) (λ blocks. Ok blocks)) (Err (Form number))) yes
    ∙ ap (λ f. or_form number f (λ blocks. Ok blocks)) found_is

pub not_ended : (tags sizes : List ℕ) (number : ℕ) (reading : Reading) (p : ℕ → Bool) (rest : List ℕ) (whole : Result (List Printed) BlockFault) →
    slice_split p rest ≡ rest ∷ [] → (length rest == 0) ≡ false →
    blocks_of_lines tags sizes number reading (slice_split p rest) ≡ whole → whole ≡ Err (Form number)
not_ended tags sizes number reading p rest whole cut some invariant =
    sym invariant ∙ ap (blocks_of_lines tags sizes number reading) cut
    ∙ ap (λ b. cond b (or_form number (finished reading.done reading.due) (λ blocks. Ok blocks)) (Err (Form number))) some
