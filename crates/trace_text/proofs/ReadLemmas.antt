-- The steps of lines, one line after the other.
use Rattle.std.proofs.Common.{◌≡◌, ◌∙◌, ℕ, ◌+◌, List, [], ◌∷◌, ◌++◌, length, Bool, true, false, cond, refl, sym, subst, ap, arith}
use Rattle.std.specs.Prelude.{Result, Ok, Err, ◌==◌, ◌⊎◌}
use Rattle.std.specs.List.{slice_split}
use Rattle.std.proofs.lemmas.Bool.Decides.{nat_tests}
use Rattle.trace_core.specs.declared.derivation.Step.{Step}
use Rattle.std.specs.Result.{IsErrAnd, MatchResult}
use Rattle.trace_text.specs.Text.{steps_of_lines, next_step, and_others}
use Rattle.trace_text.specs.declared.faults.TraceFault.{TraceFault}
use Rattle.trace_text.specs.declared.faults.TraceFault.TheVariants.{Form, Memory}
use Rattle.line_tokens.proofs.Tokens.{parts}

pub one_more : (tags : List ℕ) (before : List Step) (line : List ℕ) (p : ℕ → Bool) (more : List ℕ) →
    steps_of_lines tags before (line ∷ slice_split p more) ≡ and_others (next_step tags before line) (λ step. steps_of_lines tags (before ++ step ∷ []) (slice_split p more))
one_more tags before line p more = let h = parts p more in rw (h.2) refl

-- a line that says a step
pub step_read : (tags : List ℕ) (before : List Step) (p : ℕ → Bool) (rest line more : List ℕ) (step : Step) (whole : Result (List Step) TraceFault) →
    slice_split p rest ≡ line ∷ slice_split p more → next_step tags before line ≡ Ok step →
    steps_of_lines tags before (slice_split p rest) ≡ whole → steps_of_lines tags (before ++ step ∷ []) (slice_split p more) ≡ whole
step_read tags before p rest line more step whole cut said invariant =
    sym (one_more tags before line p more ∙ ap (λ r. and_others r (λ step. steps_of_lines tags (before ++ step ∷ []) (slice_split p more))) said)
    ∙ ap (steps_of_lines tags before) (sym cut) ∙ invariant

-- a wrong line
pub line_refused : (tags : List ℕ) (before : List Step) (p : ℕ → Bool) (rest line more : List ℕ) (fault : TraceFault) (whole : Result (List Step) TraceFault) →
    slice_split p rest ≡ line ∷ slice_split p more → next_step tags before line ≡ Err fault →
    steps_of_lines tags before (slice_split p rest) ≡ whole → whole ≡ Err fault
line_refused tags before p rest line more fault whole cut said invariant =
    sym invariant ∙ ap (steps_of_lines tags before) cut ∙ one_more tags before line p more ∙ ap (λ r. and_others r (λ step. steps_of_lines tags (before ++ step ∷ []) (slice_split p more))) said

pub ended : (tags : List ℕ) (before : List Step) (p : ℕ → Bool) (rest : List ℕ) (whole : Result (List Step) TraceFault) →
    slice_split p rest ≡ rest ∷ [] → length rest ≡ 0 → steps_of_lines tags before (slice_split p rest) ≡ whole → whole ≡ Ok before
ended tags before p rest whole cut empty invariant =
    let yes : (length rest == 0) ≡ true = grind (arith, nat_tests) in
    sym invariant ∙ ap (steps_of_lines tags before) cut ∙ ap (λ b. cond b (Ok before) (Err (Form (length before + 1)))) yes

pub not_ended : (tags : List ℕ) (before : List Step) (p : ℕ → Bool) (rest : List ℕ) (whole : Result (List Step) TraceFault) →
    slice_split p rest ≡ rest ∷ [] → (length rest == 0) ≡ false → steps_of_lines tags before (slice_split p rest) ≡ whole → whole ≡ Err (Form (length before + 1))
not_ended tags before p rest whole cut some invariant =
    sym invariant ∙ ap (steps_of_lines tags before) cut ∙ ap (λ b. cond b (Ok before) (Err (Form (length before + 1)))) some

-- the fault that a caller hands on
pub failed : {T : Type 0} (Q : T → Type 0) (r : Result T TraceFault) (fault : TraceFault) (whole : Result (List Step) TraceFault) → IsErrAnd r (λ e. e ≡ fault) → (fault ≡ Memory) ⊎ (whole ≡ Err fault) → MatchResult r Q (λ e. (e ≡ Memory) ⊎ (whole ≡ Err e))
failed Q (Ok x) fault whole same h = absurd same
failed Q (Err e) fault whole same h = subst (λ (g : TraceFault). (g ≡ Memory) ⊎ (whole ≡ Err g)) (sym same) h
