-- What a line comes to, and what is found in lines, one after the other.
use Rattle.std.proofs.Common.{◌≡◌, ◌≢◌, ◌∙◌, ℕ, ◌+◌, List, [], ◌∷◌, length, Bool, true, false, cond, refl, arith, sym, subst, ap, inl, inr}
use Rattle.std.specs.Prelude.{◌↔◌, ◌⊎◌, Option, Some, Result, Ok, Err, All, Contains, IfOk, IsTrue}
use Rattle.std.specs.List.{slice_split, onto_first}
use Rattle.line_tokens.proofs.Tokens.{parts}
use Rattle.verdict_audit.specs.Audit.{Ends, Finds, FoundBy, JudgesPart, State, Steps, found}
use Rattle.verdict_audit.specs.Case.{Case, cube_of, inputs_of}
use Rattle.verdict_audit.specs.Proof.{Proof}
use Rattle.verdict_audit.specs.declared.findings.Finding.{Finding}
use Rattle.verdict_audit.specs.declared.findings.Flaw.TheVariants as flaw
use Rattle.verdict_audit.specs.declared.findings.Wrong.{Wrong}
use Rattle.verdict_audit.specs.declared.findings.Wrong.TheVariants as wrong
use Rattle.verdict_audit.specs.declared.places.Place.TheVariants as place
use Rattle.verdict_audit.specs.declared.places.Tally.{Tally}
use Rattle.verdict_audit.proofs.ProofLemmas.{clash}

-- ---- a part

stepped : Tally → Proof → Result State Wrong
stepped tally proof = Ok (record { tally = tally; place = place.Step proof })

pub part_taken : (case : Case) (tally : Tally) (read : Option (List ℕ)) (part : List ℕ) (b : Bool) (proof : Proof) → Some part ≡ read → IsTrue b ↔ All (Contains (cube_of case tally.begun)) part → b ≡ true
    → proof ≡ record { part = part; inputs = inputs_of case tally.begun; steps = [] } → JudgesPart case tally read (Ok (record { tally = tally; place = place.Step proof }))
unfolding stepped
part_taken case tally read part b proof is exact holds same =
    subst (λ (r : Option (List ℕ)). JudgesPart case tally r (stepped tally proof)) is (inl (exact.0 holds, ap (stepped tally) same))

pub part_refused : (case : Case) (tally : Tally) (read : Option (List ℕ)) (part : List ℕ) (b : Bool) → Some part ≡ read → IsTrue b ↔ All (Contains (cube_of case tally.begun)) part → b ≡ false
    → JudgesPart case tally read (Err (wrong.Line flaw.Part))
part_refused case tally read part b is exact fails =
    subst (λ (r : Option (List ℕ)). JudgesPart case tally r (Err (wrong.Line flaw.Part))) is (inr (λ within. clash b (exact.1 within) fails, refl))

-- ---- lines

-- what the pieces of a text and the bytes between them take, one byte more than the text
abbrev pieces_size : List (List ℕ) → ℕ
pieces_size [] = 0
pieces_size (piece ∷ pieces) = length piece + 1 + pieces_size pieces

split_size : (p : ℕ → Bool) (xs : List ℕ) → pieces_size (slice_split p xs) ≡ length xs + 1
split_size p [] = refl
split_size p (x ∷ xs) = by_test (p x) (slice_split p xs) (parts p xs) (split_size p xs)
  where
    by_test : (b : Bool) (split : List (List ℕ)) → ((part : List ℕ) × (rest : List (List ℕ)) × (split ≡ part ∷ rest)) → pieces_size split ≡ length xs + 1 → pieces_size (cond b ([] ∷ split) (onto_first x split)) ≡ length (x ∷ xs) + 1
    by_test true split some size = omega (arith, size)
    by_test false split some size = let first = ap pieces_size some.2 in ap (λ (pieces : List (List ℕ)). pieces_size (onto_first x pieces)) some.2 ∙ omega (arith, first, size)

pub cut_size : (p : ℕ → Bool) (rest line more : List ℕ) → slice_split p rest ≡ line ∷ slice_split p more → length rest ≡ length line + 1 + length more
cut_size p rest line more cut = let whole = split_size p rest in let behind = split_size p more in let same = ap pieces_size cut in omega (arith, whole, behind, same)

-- what a fault is found to be
pub if_found : {E : Type 0} (r : Result Finding E) (Q : Finding → Type 0) (number : ℕ) (why : Wrong) → IfOk r (λ f. f ≡ found number why) → IfOk r (λ _. why ≢ wrong.Memory) → (why ≢ wrong.Memory → (f : Finding) → f ≡ found number why → Q f) → IfOk r Q
if_found (Ok f) Q number why value told each = each told f value
if_found (Err e) Q number why value told each = value

pub no_memory : {P : Type 0} (why : Wrong) → why ≢ wrong.Memory → (why ≡ wrong.Memory) ⊎ P → P
no_memory why told (inl memory) = absurd (told memory)
no_memory why told (inr holds) = holds

-- a line with its line feed comes to this
pub finds_line : (case : Case) (state : State) (number before : ℕ) (p : ℕ → Bool) (rest line more : List ℕ) (outcome : Result State Wrong) (finding : Finding) → slice_split p rest ≡ line ∷ slice_split p more
    → Steps case state.tally state.place before line outcome → FoundBy number outcome (λ after. Finds case after (number + 1) (before + (length line + 1)) (slice_split p more) finding) finding
    → Finds case state number before (slice_split p rest) finding
finds_line case state number before p rest line more outcome finding cut steps found_by =
    subst (λ (lines : List (List ℕ)). Finds case state number before lines finding) (sym (cut ∙ ap (λ (lines : List (List ℕ)). line ∷ lines) split.2))
    (outcome, steps, by_outcome outcome found_by)
  where
    split : (part : List ℕ) × (others : List (List ℕ)) × (slice_split p more ≡ part ∷ others)
    split = parts p more

    by_outcome : (o : Result State Wrong) → FoundBy number o (λ after. Finds case after (number + 1) (before + (length line + 1)) (slice_split p more) finding) finding
        → FoundBy number o (λ after. Finds case after (number + 1) (before + (length line + 1)) ((parts p more).0 ∷ (parts p more).1) finding) finding
    by_outcome (Ok after) finds = subst (λ (lines : List (List ℕ)). Finds case after (number + 1) (before + (length line + 1)) lines finding) (parts p more).2 finds
    by_outcome (Err why) finds = finds

-- the end of the output comes to this
pub finds_end : (case : Case) (state : State) (number before : ℕ) (p : ℕ → Bool) (rest : List ℕ) (outcome : Result Finding Wrong) (finding : Finding) → slice_split p rest ≡ rest ∷ []
    → Ends state.tally state.place before rest outcome → FoundBy number outcome (λ good. finding ≡ good) finding → Finds case state number before (slice_split p rest) finding
finds_end case state number before p rest outcome finding cut ends found_by = subst (λ (lines : List (List ℕ)). Finds case state number before lines finding) (sym cut) (outcome, ends, found_by)
