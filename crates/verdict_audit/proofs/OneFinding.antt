-- An audit has one finding, since each line comes to one outcome.
use Rattle.std.proofs.Common.{◌≡◌, ◌∙◌, ℕ, ◌+◌, List, [], ◌∷◌, length, Bool, true, false, sym, subst, inl, inr}
use Rattle.std.specs.Prelude.{Option, Some, None, Result, Ok, Err, if◌then◌else◌, nat_lt}
use Rattle.line_tokens.specs.Token.{lines_of}
use Rattle.trace_core.specs.declared.derivation.Step.{Step}
use Rattle.trace_text.specs.Text.{next_step}
use Rattle.trace_text.specs.declared.faults.TraceFault.{TraceFault}
use Rattle.trace_text.specs.declared.faults.TraceFault.TheVariants as trace_fault
use Rattle.verdict_text.specs.Line.{is_trace_line_of, part_line_of}
use Rattle.verdict_audit.specs.Audit.{AuditsBy, Closes, ClosesProof, Decided, Ends, Finds, FoundBy, Judges, JudgesLine, JudgesPart, JudgesStep, State, Steps, Then, at_end, is_beyond, start, tags_of}
use Rattle.verdict_audit.specs.Case.{Case, case_of}
use Rattle.verdict_audit.specs.Law.{HasOneFinding}
use Rattle.verdict_audit.specs.Proof.{Proof}
use Rattle.verdict_audit.specs.declared.findings.Finding.{Finding}
use Rattle.verdict_audit.specs.declared.findings.Flaw.TheVariants as flaw
use Rattle.verdict_audit.specs.declared.findings.Wrong.{Wrong}
use Rattle.verdict_audit.specs.declared.findings.Wrong.TheVariants as wrong
use Rattle.verdict_audit.specs.declared.places.Place.{Place}
use Rattle.verdict_audit.specs.declared.places.Place.TheVariants as place
use Rattle.verdict_audit.specs.declared.places.Tally.{Tally}

-- ---- a line

decided_one : {A : Type 0} (P : Type 0) (first second one other : A) → Decided P first second one → Decided P first second other → one ≡ other
decided_one P first second one other (inl a) (inl b) = a.1 ∙ sym b.1
decided_one P first second one other (inl a) (inr b) = absurd (b.0 a.0)
decided_one P first second one other (inr a) (inl b) = absurd (a.0 b.0)
decided_one P first second one other (inr a) (inr b) = a.1 ∙ sym b.1

part_one : (case : Case) (tally : Tally) (said : Option (List ℕ)) (one other : Result State Wrong) → JudgesPart case tally said one → JudgesPart case tally said other → one ≡ other
part_one case tally None one other a b = a ∙ sym b
part_one case tally (Some part) one other a b = decided_one _ _ _ one other a b

step_one : (tally : Tally) (proof : Proof) (said : Result Step TraceFault) (one other : Result State Wrong) → JudgesStep tally proof said one → JudgesStep tally proof said other → one ≡ other
step_one tally proof (Ok step) one other a b = decided_one _ _ _ one other a b
step_one tally proof (Err (trace_fault.Form line)) one other a b = a ∙ sym b
step_one tally proof (Err (trace_fault.Order line)) one other a b = a ∙ sym b
step_one tally proof (Err trace_fault.Memory) one other a b = absurd a

line_one : (case : Case) (tally : Tally) (at : Place) (line : List ℕ) (one other : Result State Wrong) → JudgesLine case tally at line one → JudgesLine case tally at line other → one ≡ other
line_one case tally place.Block line one other a b = a ∙ sym b
line_one case tally place.Model line one other a b = a ∙ sym b
line_one case tally place.Part line one other a b = part_one case tally (part_line_of line) one other a b
line_one case tally (place.Step proof) line one other a b = step_one tally proof (next_step (tags_of proof.inputs) proof.steps line) one other a b
line_one case tally place.End line one other a b = a ∙ sym b

judged_one : (beyond : Bool) (case : Case) (tally : Tally) (at : Place) (line : List ℕ) (one other : Result State Wrong) → Judges beyond case tally at line one → Judges beyond case tally at line other → one ≡ other
judged_one true case tally at line one other a b = a ∙ sym b
judged_one false case tally at line one other a b = line_one case tally at line one other a b

proof_closed_one : (letter : Bool) (proof : Proof) (one other : Result Place Wrong) → ClosesProof letter proof one → ClosesProof letter proof other → one ≡ other
proof_closed_one true proof one other a b = a ∙ sym b
proof_closed_one false proof one other a b = decided_one _ _ _ one other a b

closed_one : (at : Place) (line : List ℕ) (one other : Result Place Wrong) → Closes at line one → Closes at line other → one ≡ other
closed_one place.Block line one other a b = a ∙ sym b
closed_one place.Model line one other a b = a ∙ sym b
closed_one place.Part line one other a b = a ∙ sym b
closed_one (place.Step proof) line one other a b = proof_closed_one (is_trace_line_of line) proof one other a b
closed_one place.End line one other a b = a ∙ sym b

then_one : {A B : Type 0} (closed : Result A Wrong) (go_on : A → Result B Wrong → Type 0) (one other : Result B Wrong) → ((next : A) → go_on next one → go_on next other → one ≡ other) → Then closed go_on one → Then closed go_on other → one ≡ other
then_one (Ok next) go_on one other alone a b = alone next a b
then_one (Err why) go_on one other alone a b = a ∙ sym b

outcome_one : (case : Case) (tally : Tally) (at : Place) (before : ℕ) (line : List ℕ) (one other : Result State Wrong) → Steps case tally at before line one → Steps case tally at before line other → one ≡ other
outcome_one case tally at before line one other a b =
    let beyond : Bool = is_beyond before (length line + 1) in
    then_one a.closed (λ next. Judges beyond case tally next line) one other
    (λ next. judged_one beyond case tally next line one other)
    a.judged
    (subst (λ (closed : Result Place Wrong). Then closed (λ next. Judges beyond case tally next line) other) (closed_one at line b.closed a.closed b.closes a.closes) b.judged)

-- ---- the end

end_one : (tally : Tally) (at : Place) (before : ℕ) (rest : List ℕ) (one other : Result Finding Wrong) → Ends tally at before rest one → Ends tally at before rest other → one ≡ other
end_one tally at before rest one other a b =
    then_one a.closed (λ next judged. judged ≡ (if is_beyond before (length rest) then Err (wrong.Line flaw.TooLong) else at_end next tally rest)) one other
    (λ next first second. first ∙ sym second)
    a.judged
    (subst (λ (closed : Result Place Wrong). Then closed (λ next judged. judged ≡ (if is_beyond before (length rest) then Err (wrong.Line flaw.TooLong) else at_end next tally rest)) other) (closed_one at rest b.closed a.closed b.closes a.closes) b.judged)

-- ---- all lines

found_one : {A : Type 0} (number : ℕ) (outcome : Result A Wrong) (go_on : A → Finding → Type 0) (one other : Finding) → ((next : A) → go_on next one → go_on next other → one ≡ other) → FoundBy number outcome (λ next. go_on next one) one → FoundBy number outcome (λ next. go_on next other) other → one ≡ other
found_one number (Ok next) go_on one other alone a b = alone next a b
found_one number (Err why) go_on one other alone a b = a ∙ sym b

finds_one : (case : Case) (state : State) (number before : ℕ) (lines : List (List ℕ)) (one other : Finding) → Finds case state number before lines one → Finds case state number before lines other → one ≡ other
finds_one case state number before [] one other a b = absurd a
finds_one case state number before (line ∷ []) one other a b =
    found_one number a.0 (λ good finding. finding ≡ good) one other (λ good first second. first ∙ sym second) a.2
    (subst (λ (outcome : Result Finding Wrong). FoundBy number outcome (λ good. other ≡ good) other) (end_one state.tally state.place before line b.0 a.0 b.1 a.1) b.2)
finds_one case state number before (line ∷ next ∷ lines) one other a b =
    found_one number a.0 (λ after. Finds case after (number + 1) (before + (length line + 1)) (next ∷ lines)) one other
    (λ after. finds_one case after (number + 1) (before + (length line + 1)) (next ∷ lines) one other)
    a.2
    (subst (λ (outcome : Result State Wrong). FoundBy number outcome (λ after. Finds case after (number + 1) (before + (length line + 1)) (next ∷ lines) other) other) (outcome_one case state.tally state.place before line b.0 a.0 b.1 a.1) b.2)

pub has_one_finding : HasOneFinding
has_one_finding text output one other = by_length (nat_lt 4294967296 (length text))
  where
    by_length : (b : Bool) → AuditsBy b text output one → AuditsBy b text output other → one ≡ other
    by_length true a b = a ∙ sym b
    by_length false a b = finds_one (case_of text) start 1 0 (lines_of output) one other a b
