-- What is printed is read back.
use Rattle.std.proofs.Common.{◌≡◌, ◌∙◌, ℕ, ◌+◌, ◌-◌, ◌^◌, ◌<◌, ◌≤◌, List, [], ◌∷◌, ◌++◌, map, length, true, false, cond, refl, sym, subst, ap, inl, inr, append_assoc, append-nil, arith}
use Rattle.std.specs.Prelude.{Some, Result, Ok, Err, ◌==◌, ◌⊎◌, All, IsTrue, decimal, nat_le, nat_lt}
use Rattle.std.specs.List.{slice_split, flat_map, list_all}
use Rattle.std.proofs.lemmas.Bool.Decides.{nat_tests}
use Rattle.std.proofs.lemmas.List.Elements.{All-append, All-cons, All-nil, All-head, All-tail}
use Rattle.std.proofs.lemmas.List.Splits.{slice_split_at}
use Rattle.std.specs.Result.{MatchResult}
use Rattle.std.proofs.lemmas.Bool.{and_from}
use Rattle.std.proofs.lemmas.List.{length-append}
use Rattle.sat_base.specs.declared.origins.Ref.{Ref}
use Rattle.sat_base.specs.declared.origins.Ref.TheVariants.{Input, Shared, Own}
use Rattle.trace_core.specs.declared.derivation.Step.{Step}
use Rattle.sat_base.specs.Lit.{IsLit, IsLitSet, is_ascending}
use Rattle.line_tokens.specs.Token.{number_of, all_then_zero, tokens_of, lines_of, lit_text}
use Rattle.trace_text.specs.Line.{Line, line_of, hint_text, line_text}
use Rattle.line_tokens.proofs.Back.{number_back, apart, lit_token, lit_text-token, lit_apart, next_token, lits_back, all_back}
use Rattle.trace_text.specs.Text.{number_of_hint, hint_of_number, IsHintBelow, CiteEarlier, line_of_step, steps_text, tag_of_hints, tags_with, step_said, and_others, steps_of_lines, HaveExactTags, ArePrinted}
use Rattle.trace_text.specs.declared.faults.TraceFault.{TraceFault}
use Rattle.trace_text.specs.declared.faults.TraceFault.TheVariants.{Memory}
use Rattle.trace_text.proofs.LineLemmas.{fields, line_fields}
use Rattle.trace_text.proofs.ReadLemmas.{one_more}

abbrev pub IsNumber : ℕ → Type 0
IsNumber n = (0 < n) × (n < 2 ^ 64)

hints_back : (hints : List ℕ) → All IsNumber hints → all_then_zero number_of (tokens_of (flat_map hint_text hints ++ (48 ∷ []))) ≡ Some hints
hints_back hints each = all_back number_of hint_text decimal IsNumber (λ hint is. (refl, apart hint 32 is.1 (omega arith), number_back hint is.0 is.1)) hints each

-- ---- a line

-- the line without its line feed
unfoldable pub body : Line → List ℕ
body line = 116 ∷ 32 ∷ (decimal line.id ++ 32 ∷ (flat_map lit_text line.lits ++ 48 ∷ 32 ∷ (flat_map hint_text line.hints ++ 48 ∷ [])))

abbrev pub IsWellFormed : Line → Type 0
IsWellFormed line = IsNumber line.id × All IsLit line.lits × IsTrue (is_ascending line.lits) × All IsNumber line.hints

line_text-body : (line : Line) → line_text line ≡ body line ++ 10 ∷ []
unfolding body
line_text-body line = simp append_assoc

pub line_back : (line : Line) → IsWellFormed line → line_of (body line) ≡ Some line
unfolding body
line_back line formed =
    sym (line_fields (116 ∷ 32 ∷ (decimal line.id ++ 32 ∷ fields_text)) (116 ∷ []) (decimal line.id ++ 32 ∷ fields_text) (decimal line.id) fields_text line.id refl refl (next_token (decimal line.id) fields_text (apart line.id 32 formed.0.1 (omega arith))) (sym (number_back line.id formed.0.0 formed.0.1)))
    ∙ sym (fields line.id (tokens_of fields_text) (record { items = line.lits; rest = tokens_of (flat_map hint_text line.hints ++ 48 ∷ []) }) line.hints (sym (lits_back line.lits (flat_map hint_text line.hints ++ 48 ∷ []) formed.1)) formed.2 (sym (hints_back line.hints formed.3)))
  where
    fields_text : List ℕ
    fields_text = flat_map lit_text line.lits ++ 48 ∷ 32 ∷ (flat_map hint_text line.hints ++ 48 ∷ [])

-- ---- the text

pub all_flat : (f : ℕ → List ℕ) (P : ℕ → Type 0) (Q : ℕ → Type 0) → ((x : ℕ) → Q x → All P (f x)) → (xs : List ℕ) → All Q xs → All P (flat_map f xs)
all_flat f P Q each [] all = All-nil P
all_flat f P Q each (x ∷ xs) all = All-append P (f x) (flat_map f xs) (each x (All-head Q x xs all)) (all_flat f P Q each xs (All-tail Q x xs all))

pub clean_lit : (lit : ℕ) → IsLit lit → All (λ b. (b == 10) ≡ false) (lit_text lit)
clean_lit lit is = subst (All (λ b. (b == 10) ≡ false)) (sym (lit_text-token lit)) (All-append (λ b. (b == 10) ≡ false) (lit_token lit) (32 ∷ []) (lit_apart lit 10 is (omega arith)) (All-cons (λ b. (b == 10) ≡ false) 32 [] refl (All-nil (λ b. (b == 10) ≡ false))))

clean_hint : (hint : ℕ) → IsNumber hint → All (λ b. (b == 10) ≡ false) (hint_text hint)
clean_hint hint is = All-append (λ b. (b == 10) ≡ false) (decimal hint) (32 ∷ []) (apart hint 10 is.1 (omega arith)) (All-cons (λ b. (b == 10) ≡ false) 32 [] refl (All-nil (λ b. (b == 10) ≡ false)))

clean_body : (line : Line) → IsWellFormed line → All (λ b. (b == 10) ≡ false) (body line)
unfolding body
clean_body line formed =
    All-cons (λ b. (b == 10) ≡ false) 116 (32 ∷ (decimal line.id ++ 32 ∷ (flat_map lit_text line.lits ++ 48 ∷ 32 ∷ (flat_map hint_text line.hints ++ 48 ∷ [])))) refl (All-cons (λ b. (b == 10) ≡ false) 32 (decimal line.id ++ 32 ∷ (flat_map lit_text line.lits ++ 48 ∷ 32 ∷ (flat_map hint_text line.hints ++ 48 ∷ []))) refl
    (All-append (λ b. (b == 10) ≡ false) (decimal line.id) (32 ∷ (flat_map lit_text line.lits ++ 48 ∷ 32 ∷ (flat_map hint_text line.hints ++ 48 ∷ []))) (apart line.id 10 formed.0.1 (omega arith))
    (All-cons (λ b. (b == 10) ≡ false) 32 (flat_map lit_text line.lits ++ 48 ∷ 32 ∷ (flat_map hint_text line.hints ++ 48 ∷ [])) refl
    (All-append (λ b. (b == 10) ≡ false) (flat_map lit_text line.lits) (48 ∷ 32 ∷ (flat_map hint_text line.hints ++ 48 ∷ [])) (all_flat lit_text (λ b. (b == 10) ≡ false) IsLit clean_lit line.lits formed.1)
    (All-cons (λ b. (b == 10) ≡ false) 48 (32 ∷ (flat_map hint_text line.hints ++ 48 ∷ [])) refl (All-cons (λ b. (b == 10) ≡ false) 32 (flat_map hint_text line.hints ++ 48 ∷ []) refl
    (All-append (λ b. (b == 10) ≡ false) (flat_map hint_text line.hints) (48 ∷ []) (all_flat hint_text (λ b. (b == 10) ≡ false) IsNumber clean_hint line.hints formed.3)
    (All-cons (λ b. (b == 10) ≡ false) 48 [] refl (All-nil (λ b. (b == 10) ≡ false))))))))))

-- the first line of a text, and the lines behind it
pub first_line : (line : Line) (rest : List ℕ) → IsWellFormed line → slice_split (λ b. b == 10) (line_text line ++ rest) ≡ body line ∷ slice_split (λ b. b == 10) rest
first_line line rest formed =
    ap (λ text. slice_split (λ b. b == 10) (text ++ rest)) (line_text-body line) ∙ ap (slice_split (λ b. b == 10)) (append_assoc (body line) (10 ∷ []) rest)
    ∙ slice_split_at (λ b. b == 10) (body line) 10 rest (clean_body line formed) refl

hint_back : (inputs before : ℕ) (hint : Ref) → IsHintBelow inputs before hint → hint_of_number inputs (number_of_hint inputs hint) ≡ hint
hint_back inputs before (Input number) is = let yes : nat_le number inputs ≡ true = grind (arith, nat_tests, is.1) in ap (λ b. cond b (Input number) (Own (number - inputs))) yes
hint_back inputs before (Shared packet step) is = absurd is
hint_back inputs before (Own number) is =
    let low = is.0 in
    let past : nat_le (inputs + number) inputs ≡ false = grind (arith, nat_tests, low) in
    let back : inputs + number - inputs ≡ number = omega arith in
    ap (λ b. cond b (Input (inputs + number)) (Own (inputs + number - inputs))) past ∙ ap Own back

hints_back_all : (inputs before : ℕ) (hints : List Ref) → All (IsHintBelow inputs before) hints → map (hint_of_number inputs) (map (number_of_hint inputs) hints) ≡ hints
hints_back_all inputs before [] all = refl
hints_back_all inputs before (hint ∷ hints) all =
    let first = hint_back inputs before hint (All-head (IsHintBelow inputs before) hint hints all) in
    let rest = hints_back_all inputs before hints (All-tail (IsHintBelow inputs before) hint hints all) in
    cc

number_low : (inputs before : ℕ) (hint : Ref) → IsHintBelow inputs before hint → (0 < number_of_hint inputs hint) × (number_of_hint inputs hint < inputs + (before + 1))
number_low inputs before (Input number) is = (is.0, omega (arith, is.1))
number_low inputs before (Shared packet step) is = absurd is
number_low inputs before (Own number) is = (omega (arith, is.0), omega (arith, is.1))

numbers_low : (inputs before bound : ℕ) (hints : List Ref) → inputs + (before + 1) ≤ bound → bound < 2 ^ 64 → All (IsHintBelow inputs before) hints → All IsNumber (map (number_of_hint inputs) hints)
numbers_low inputs before bound [] le fits all = All-nil IsNumber
numbers_low inputs before bound (hint ∷ hints) le fits all =
    let low = number_low inputs before hint (All-head (IsHintBelow inputs before) hint hints all) in
    All-cons IsNumber (number_of_hint inputs hint) (map (number_of_hint inputs) hints) (low.0, omega (arith, low.1)) (numbers_low inputs before bound hints le fits (All-tail (IsHintBelow inputs before) hint hints all))

in_order : (inputs before id : ℕ) (hints : List Ref) → id ≡ inputs + (before + 1) → All (IsHintBelow inputs before) hints → list_all (λ hint. nat_lt hint id) (map (number_of_hint inputs) hints) ≡ true
in_order inputs before id [] is all = refl
in_order inputs before id (hint ∷ hints) is all =
    let low = number_low inputs before hint (All-head (IsHintBelow inputs before) hint hints all) in
    let yes : nat_lt (number_of_hint inputs hint) id ≡ true = grind (arith, nat_tests, low.1) in
    and_from (nat_lt (number_of_hint inputs hint) id) (list_all (λ h. nat_lt h id) (map (number_of_hint inputs) hints)) yes (in_order inputs before id hints is (All-tail (IsHintBelow inputs before) hint hints all))

-- the line of a step says it
pub said_back : (tags : List ℕ) (before : List Step) (step : Step) → All (IsHintBelow (length tags) (length before)) step.hints → IsLitSet step.clause → step.tag ≡ tag_of_hints (tags_with tags before) (map (number_of_hint (length tags)) step.hints) → length tags + (length before + 1) < 2 ^ 64
    → (step_said (length tags) (length before + 1) (tags_with tags before) (line_of (body (line_of_step (length tags) (length before) step))) ≡ Ok step) × IsWellFormed (line_of_step (length tags) (length before) step)
said_back tags before step hints set tag fits = (ap (step_said (length tags) (length before + 1) (tags_with tags before)) (line_back line formed) ∙ chosen, formed)
  where
    line : Line
    line = line_of_step (length tags) (length before) step

    formed : IsWellFormed (line_of_step (length tags) (length before) step)
    formed = ((omega arith, fits), set.each, set.ascending, numbers_low (length tags) (length before) (length tags + (length before + 1)) step.hints (omega arith) fits hints)

    itself : (length tags + (length before + 1) == length tags + (length before + 1)) ≡ true
    itself = grind (arith, nat_tests)

    chosen : step_said (length tags) (length before + 1) (tags_with tags before) (Some (line_of_step (length tags) (length before) step)) ≡ Ok step
    chosen =
        let order = and_from _ _ itself (in_order (length tags) (length before) (length tags + (length before + 1)) step.hints refl hints) in
        let names = hints_back_all (length tags) (length before) step.hints hints in
        rw (order, names, ← tag) refl

steps_back : (tags : List ℕ) (before steps : List Step) → CiteEarlier (length tags) (length before) steps → HaveExactTags tags before steps → All (λ (step : Step). IsLitSet step.clause) steps → length tags + (length before + length steps) < 2 ^ 64
    → steps_of_lines tags before (slice_split (λ b. b == 10) (steps_text (length tags) (length before) steps)) ≡ Ok (before ++ steps)
steps_back tags before [] earlier exact sets fits = ap Ok (sym (append-nil before))
steps_back tags before (step ∷ steps) earlier exact sets fits =
    ap (steps_of_lines tags before) (first_line (line_of_step (length tags) (length before) step) (steps_text (length tags) (length before + 1) steps) said.1)
    ∙ one_more tags before (body (line_of_step (length tags) (length before) step)) (λ b. b == 10) (steps_text (length tags) (length before + 1) steps)
    ∙ ap (λ r. and_others r (λ s. steps_of_lines tags (before ++ s ∷ []) (slice_split (λ b. b == 10) (steps_text (length tags) (length before + 1) steps)))) said.0
    ∙ ap (λ n. steps_of_lines tags (before ++ step ∷ []) (slice_split (λ b. b == 10) (steps_text (length tags) n steps))) (sym longer)
    ∙ steps_back tags (before ++ step ∷ []) steps (subst (λ n. CiteEarlier (length tags) n steps) (sym longer) earlier.1) exact.1 (All-tail (λ (s : Step). IsLitSet s.clause) step steps sets) (omega (arith, longer))
    ∙ ap Ok (append_assoc before (step ∷ []) steps)
  where
    longer : length (before ++ step ∷ []) ≡ length before + 1
    longer = length-append before (step ∷ [])

    said : (step_said (length tags) (length before + 1) (tags_with tags before) (line_of (body (line_of_step (length tags) (length before) step))) ≡ Ok step) × IsWellFormed (line_of_step (length tags) (length before) step)
    said = said_back tags before step earlier.0 (All-head (λ (s : Step). IsLitSet s.clause) step steps sets) exact.0 (omega arith)

pub read_back : {V : Type 0} (items : V → List Step) (tags bytes : List ℕ) (r : Result V TraceFault) → MatchResult r (λ v. steps_of_lines tags [] (lines_of bytes) ≡ Ok (items v)) (λ fault. (fault ≡ Memory) ⊎ (steps_of_lines tags [] (lines_of bytes) ≡ Err fault))
    → (steps : List Step) → ArePrinted (length tags) steps bytes → HaveExactTags tags [] steps → MatchResult r (λ v. items v ≡ steps) (λ fault. fault ≡ Memory)
read_back {V} items tags bytes r exact steps printed tags_exact = by_result r exact
  where
    whole : steps_of_lines tags [] (lines_of bytes) ≡ Ok steps
    whole = ap (λ text. steps_of_lines tags [] (lines_of text)) printed.lines ∙ steps_back tags [] steps printed.earlier tags_exact printed.sets (let h = printed.numbers in omega arith)

    no_fault : (fault : TraceFault) → (fault ≡ Memory) ⊎ (steps_of_lines tags [] (lines_of bytes) ≡ Err fault) → fault ≡ Memory
    no_fault fault (inl memory) = memory
    no_fault fault (inr other) = let never : Ok steps ≡ Err fault = sym whole ∙ other in cc

    by_result : (r : Result V TraceFault) → MatchResult r (λ v. steps_of_lines tags [] (lines_of bytes) ≡ Ok (items v)) (λ fault. (fault ≡ Memory) ⊎ (steps_of_lines tags [] (lines_of bytes) ≡ Err fault)) → MatchResult r (λ v. items v ≡ steps) (λ fault. fault ≡ Memory)
    by_result (Ok v) is = let same : Ok steps ≡ Ok (items v) = sym whole ∙ is in cc
    by_result (Err fault) is = no_fault fault is
