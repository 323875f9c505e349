-- Each model and each refuted part of an accepted output is right.
use Rattle.std.proofs.Common.{◌≡◌, ◌∙◌, ℕ, ◌+◌, List, [], ◌∷◌, ◌++◌, map, length, Bool, true, false, cond, refl, sym, subst, ap, inl, inr, append-nil, append_assoc}
use Rattle.std.specs.Prelude.{option_and_then, Option, Some, None, Result, Ok, Err, ◌==◌, ◌&&◌, All, Contains, IsTrue, codes, nat_lt}
use Rattle.std.specs.Str.{bytes_eq}
use Rattle.std.proofs.lemmas.Bool.{eqb-true}
use Rattle.std.proofs.lemmas.Slice.Eq.{bytes_eq-Decides}
use Rattle.sat_base.specs.Lit.{is_ascending}
use Rattle.sat_base.specs.Truth.{IsModelOf, IsRefutedPart, all_true, cube_true}
use Rattle.line_tokens.specs.Token.{all_then_zero, lines_of, lit_of, tokens_of}
use Rattle.trace_core.specs.Known.{Known, known}
use Rattle.trace_core.specs.Trace.{AreOkSteps, IsOkStep, known_of}
use Rattle.trace_core.specs.declared.derivation.Step.{Step}
use Rattle.trace_core.proofs.Soundness.{trace_is_sound}
use Rattle.trace_text.specs.Text.{next_step}
use Rattle.trace_text.specs.declared.faults.TraceFault.{TraceFault}
use Rattle.trace_text.specs.declared.faults.TraceFault.TheVariants as trace_fault
use Rattle.verdict_text.specs.Line.{is_letter, is_trace_line_of, job_line_of, job_line_of_tokens, lits_of_tokens, model_line_of, part_line_of, values_of}
use Rattle.verdict_text.specs.Text.{is_number}
use Rattle.verdict_text.specs.declared.lines.JobLine.{JobLine}
use Rattle.verdict_text.specs.declared.lines.Status.{Status}
use Rattle.verdict_text.specs.declared.lines.Status.TheVariants as status
use Rattle.verdict_audit.specs.Audit.{AuditsBy, Closes, ClosesProof, Ends, Finds, FoundBy, IsRefuted, Judges, JudgesLine, JudgesPart, JudgesStep, State, Steps, Then, at_end, at_job_line, at_last_line, at_model, is_end_of_tokens, is_stop, begun, found, is_beyond, tags_of}
use Rattle.verdict_audit.specs.Case.{Case, case_of, clauses_of, cube_of, inputs_of, known_of_clause, variables_of}
use Rattle.verdict_audit.specs.Law.{AcceptedIsRight, AreRight, IsAnswered, IsRightBelow}
use Rattle.verdict_audit.specs.Proof.{Proof}
use Rattle.verdict_audit.specs.declared.findings.Finding.{Finding}
use Rattle.verdict_audit.specs.declared.findings.Finding.TheVariants.{Good}
use Rattle.verdict_audit.specs.declared.findings.Flaw.TheVariants as flaw
use Rattle.verdict_audit.specs.declared.findings.Wrong.{Wrong}
use Rattle.verdict_audit.specs.declared.findings.Wrong.TheVariants as wrong
use Rattle.verdict_audit.specs.declared.places.Place.{Place}
use Rattle.verdict_audit.specs.declared.places.Place.TheVariants as place
use Rattle.verdict_audit.specs.declared.places.Tally.{Tally}

-- ---- results

ok_is : {A E : Type 0} (a b : A) → ◌≡◌ {A = Result A E} (Ok a) (Ok b) → a ≡ b
ok_is a b same = cc

not_both : {A E : Type 0} (a : A) (e : E) → ◌≡◌ {A = Result A E} (Ok a) (Err e) → ⊥
not_both a e same = cc

found_bad : (number proved unproved : ℕ) (why : Wrong) → Good proved unproved ≡ found number why → ⊥
found_bad number proved unproved (wrong.Line flaw) same = cc
found_bad number proved unproved wrong.Unproved same = cc
found_bad number proved unproved wrong.Memory same = cc

-- ---- proofs

-- a proof of a job's part
pub record IsProofFor (case : Case) (job : ℕ) (proof : Proof) : Type 0 where
  pub inputs : proof.inputs ≡ inputs_of case job
  pub within : All (Contains (cube_of case job)) proof.part
  pub ok : AreOkSteps proof.inputs [] [] proof.steps

clauses_back : (clauses : List (List ℕ)) → map (λ (input : Known). input.clause) (map known_of_clause clauses) ≡ clauses
clauses_back [] = refl
clauses_back (clause ∷ clauses) = ap (λ cs. clause ∷ cs) (clauses_back clauses)

-- a proof whose last step refutes the part
part_right : (case : Case) (job : ℕ) (proof : Proof) → IsProofFor case job proof → IsRefuted proof.part proof.steps → IsRefutedPart (clauses_of case job) (cube_of case job) proof.part
part_right case job proof is refuted = record {
  within = is.within;
  refuted = λ values all. trace_is_sound proof.inputs proof.part proof.steps (record { front = refuted.front; last = refuted.last; ends = refuted.ends; ok = is.ok; refutes = refuted.refutes }) values
      (subst (λ (clauses : List (List ℕ)). IsTrue (all_true values clauses)) (sym (ap (map (λ (input : Known). input.clause)) is.inputs ∙ clauses_back (clauses_of case job))) all);
}

steps_more : (inputs own : List Known) (steps : List Step) (step : Step) → AreOkSteps inputs [] own steps → IsOkStep (known inputs [] (own ++ map known_of steps)) step → AreOkSteps inputs [] own (steps ++ step ∷ [])
steps_more inputs own [] step ok next = (subst (λ (ks : List Known). IsOkStep (known inputs [] ks) step) (append-nil own) next, tt)
steps_more inputs own (first ∷ steps) step ok next =
    (ok.0, steps_more inputs (own ++ known_of first ∷ []) steps step ok.1 (subst (λ (ks : List Known). IsOkStep (known inputs [] ks) step) (sym (append_assoc own (known_of first ∷ []) (map known_of steps))) next))

-- ---- lines of other letters

other_first : (letter : List ℕ) (tokens : List (List ℕ)) → bytes_eq letter (codes "j") ≡ false → job_line_of_tokens (letter ∷ tokens) ≡ None
unfolding job_line_of_tokens
other_first letter [] other = refl
other_first letter (number ∷ []) other = refl
other_first letter (number ∷ word ∷ []) other = rw other refl
other_first letter (number ∷ word ∷ more ∷ tokens) other = refl

no_job_line : (letter : ℕ) (tokens : List (List ℕ)) → bytes_eq (letter ∷ []) (codes "j") ≡ false → is_letter letter tokens ≡ true → job_line_of_tokens tokens ≡ None
no_job_line letter [] other is = cc
no_job_line letter (first ∷ tokens) other is = other_first first tokens (ap (λ (t : List ℕ). bytes_eq t (codes "j")) ((bytes_eq-Decides first (letter ∷ [])).0 is) ∙ other)

chosen : {X : Type 0} (b : Bool) (o : Option X) (x : X) → cond b o None ≡ Some x → b ≡ true
chosen true o x is = refl
chosen false o x is = cc

lits_letter : (letter : ℕ) (tokens : List (List ℕ)) (lits : List ℕ) → lits_of_tokens letter tokens ≡ Some lits → is_letter letter tokens ≡ true
lits_letter letter [] lits is = cc
lits_letter letter (first ∷ tokens) lits is = chosen (bytes_eq first (letter ∷ [])) (all_then_zero lit_of tokens) lits is

some_of : {X Y : Type 0} (o : Option X) (f : X → Option Y) (y : Y) → option_and_then f o ≡ Some y → (x : X) × (o ≡ Some x)
some_of None f y is = cc
some_of (Some x) f y is = (x, refl)

no_job_in_model : (line : List ℕ) (values : List Bool) → model_line_of line ≡ Some values → job_line_of line ≡ None
no_job_in_model line values is = let lits = some_of (lits_of_tokens 118 (tokens_of line)) values_of values is in no_job_line 118 (tokens_of line) refl (lits_letter 118 (tokens_of line) lits.0 lits.1)

no_job_in_part : (line : List ℕ) (part : List ℕ) → part_line_of line ≡ Some part → job_line_of line ≡ None
no_job_in_part line part is = let lits = some_of (lits_of_tokens 102 (tokens_of line)) (λ lits. cond (is_ascending lits) (Some lits) None) part is in no_job_line 102 (tokens_of line) refl (lits_letter 102 (tokens_of line) lits.0 lits.1)

-- ---- what is due

-- what holds where an audit stands at this place
abbrev pub Stands : Case → Tally → Place → Type 0
Stands case tally (place.Step proof) = IsProofFor case tally.begun proof
Stands case tally place = Unit {0}

-- the lines from here on begin with the right answer that is due
abbrev pub IsDue : Case → Tally → Place → List (List ℕ) → Type 0
IsDue case tally place.Model [] = ⊥
IsDue case tally place.Model (line ∷ lines) = (values : List Bool) × (model_line_of line ≡ Some values) × IsModelOf (clauses_of case tally.begun) (cube_of case tally.begun) values
IsDue case tally place.Part [] = ⊥
IsDue case tally place.Part (line ∷ lines) = (part : List ℕ) × (part_line_of line ≡ Some part) × IsRefutedPart (clauses_of case tally.begun) (cube_of case tally.begun) part
IsDue case tally (place.Step proof) lines = IsRefutedPart (clauses_of case tally.begun) (cube_of case tally.begun) proof.part
IsDue case tally place.Block lines = Unit {0}
IsDue case tally place.End lines = Unit {0}

never_ends : (b : Bool) (good : Finding) (ended : Result Finding Wrong) (why : Wrong) → ended ≡ Err why → Ok good ≡ cond b (Err (wrong.Line flaw.TooLong)) ended → ⊥
never_ends true good ended why is same = not_both good (wrong.Line flaw.TooLong) same
never_ends false good ended why is same = not_both good why (same ∙ is)

abbrev pub EndsAt : Tally → ℕ → List ℕ → Result Place Wrong → Finding → Type 0
EndsAt tally before line closed good = Then closed (λ next judged. judged ≡ cond (is_beyond before (length line)) (Err (wrong.Line flaw.TooLong)) (at_end next tally line)) (Ok good)

-- the end of an accepted output is behind its last line
no_end : (case : Case) (tally : Tally) (place : Place) (before : ℕ) (line : List ℕ) (good : Finding) → Ends tally place before line (Ok good) → IsDue case tally place (line ∷ [])
no_end case tally place.Block before line good ends = tt
no_end case tally place.End before line good ends = tt
no_end case tally place.Model before line good ends = absurd (never_ends (is_beyond before (length line)) good (at_end place.Model tally line) (wrong.Line flaw.Form) refl (subst (λ closed. EndsAt tally before line closed good) ends.closes ends.judged))
no_end case tally place.Part before line good ends = absurd (never_ends (is_beyond before (length line)) good (at_end place.Part tally line) (wrong.Line flaw.Form) refl (subst (λ closed. EndsAt tally before line closed good) ends.closes ends.judged))
no_end case tally (place.Step proof) before line good ends = absurd (by_letter (is_trace_line_of line) ends.closes)
  where
    by_letter : (b : Bool) → ClosesProof b proof ends.closed → ⊥
    by_letter true closes = never_ends (is_beyond before (length line)) good (at_end (place.Step proof) tally line) (wrong.Line flaw.Form) refl (subst (λ closed. EndsAt tally before line closed good) closes ends.judged)
    by_letter false (inl ended) = never_ends (is_beyond before (length line)) good (at_end place.Block tally line) (wrong.Line flaw.Form) refl (subst (λ closed. EndsAt tally before line closed good) ended.1 ends.judged)
    by_letter false (inr other) = not_both good wrong.Unproved (subst (λ closed. EndsAt tally before line closed good) other.1 ends.judged)

-- ---- a line

both : (b c : Bool) → (b && c) ≡ true → (b ≡ true) × (c ≡ true)
both true c h = (refl, h)
both false c h = cc

taken : {A : Type 0} (b : Bool) (a : A) (first second : Result A Wrong) (why : Wrong) → second ≡ Err why → Ok a ≡ cond b first second → (b ≡ true) × (Ok a ≡ first)
taken true a first second why is same = (refl, same)
taken false a first second why is same = absurd (not_both a why (same ∙ is))

number_is : (number : Option ℕ) (expected : ℕ) → is_number number expected ≡ true → number ≡ Some expected
number_is None expected is = cc
number_is (Some number) expected is = ap Some (eqb-true number expected is)

-- the first line of the next job's block, or a last line
job_line_found : (case : Case) (tally : Tally) (line : List ℕ) (found : JobLine) (after : State) → Ok after ≡ at_job_line case tally line (Some found) → (found.number ≡ Some (tally.begun + 1)) × (after ≡ begun tally found.status)
job_line_found case tally line found after is =
    let chose = taken (is_number found.number (tally.begun + 1) && nat_lt tally.begun (length case.queries)) after (Ok (begun tally found.status)) (Err (wrong.Line flaw.Number)) (wrong.Line flaw.Number) refl is in
    (number_is found.number (tally.begun + 1) (both (is_number found.number (tally.begun + 1)) (nat_lt tally.begun (length case.queries)) chose.0).0, ok_is after (begun tally found.status) chose.1)

begun_stands : (case : Case) (tally : Tally) (s : Status) → Stands case (begun tally s).tally (begun tally s).place
begun_stands case tally status.Satisfiable = tt
begun_stands case tally status.Unsatisfiable = tt
begun_stands case tally status.Unknown = tt
begun_stands case tally status.Cancelled = tt
begun_stands case tally status.NoMemory = tt

last_stands : (case : Case) (tally : Tally) (line : List ℕ) (after : State) → Ok after ≡ at_last_line case tally line → Stands case after.tally after.place
last_stands case tally line after is = by_stop (is_stop line) is
  where
    here : ◌≡◌ {A = Result State Wrong} (Ok after) (Ok (record { tally = tally; place = place.End })) → Stands case after.tally after.place
    here same = subst (λ (state : State). Stands case state.tally state.place) (sym (ok_is after (record { tally = tally; place = place.End }) same)) tt

    by_right : (b : Bool) → Ok after ≡ cond b (Ok (record { tally = tally; place = place.End })) (Err (wrong.Line flaw.Last)) → Stands case after.tally after.place
    by_right b same = here (taken b after (Ok (record { tally = tally; place = place.End })) (Err (wrong.Line flaw.Last)) (wrong.Line flaw.Last) refl same).1

    by_stop : (b : Bool) → Ok after ≡ cond b (Ok (record { tally = tally; place = place.End })) (cond (is_end_of_tokens (tokens_of line)) (cond (bytes_eq line case.last && tally.begun == length case.queries) (Ok (record { tally = tally; place = place.End })) (Err (wrong.Line flaw.Last))) (Err (wrong.Line flaw.Form))) → Stands case after.tally after.place
    by_stop true same = here same
    by_stop false same = by_right (bytes_eq line case.last && tally.begun == length case.queries) (taken (is_end_of_tokens (tokens_of line)) after (cond (bytes_eq line case.last && tally.begun == length case.queries) (Ok (record { tally = tally; place = place.End })) (Err (wrong.Line flaw.Last))) (Err (wrong.Line flaw.Form)) (wrong.Line flaw.Form) refl same).1

job_line_stands : (case : Case) (tally : Tally) (line : List ℕ) (found : Option JobLine) (after : State) → Ok after ≡ at_job_line case tally line found → Stands case after.tally after.place
job_line_stands case tally line None after is = last_stands case tally line after is
job_line_stands case tally line (Some found) after is = subst (λ (state : State). Stands case state.tally state.place) (sym (job_line_found case tally line found after is).1) (begun_stands case tally found.status)

-- its answer is due
answered : (case : Case) (tally : Tally) (number : Option ℕ) (s : Status) (below : List ℕ) (lines : List (List ℕ)) → number ≡ Some (tally.begun + 1) → IsDue case (begun tally s).tally (begun tally s).place (below ∷ lines) → IsAnswered case number s below
answered case tally number status.Satisfiable below lines is due = (tally.begun + 1, due.0, is, due.1, due.2)
answered case tally number status.Unsatisfiable below lines is due = (tally.begun + 1, due.0, is, due.1, due.2)
answered case tally number status.Unknown below lines is due = tt
answered case tally number status.Cancelled below lines is due = tt
answered case tally number status.NoMemory below lines is due = tt

job_line_right : (case : Case) (tally : Tally) (line below : List ℕ) (lines : List (List ℕ)) (found : Option JobLine) (after : State) → Ok after ≡ at_job_line case tally line found → IsDue case after.tally after.place (below ∷ lines) → IsRightBelow case found below
job_line_right case tally line below lines None after is due = tt
job_line_right case tally line below lines (Some found) after is due =
    let same = job_line_found case tally line found after is in
    answered case tally found.number found.status below lines same.0 (subst (λ (state : State). IsDue case state.tally state.place (below ∷ lines)) same.1 due)

-- a model
model_right : (case : Case) (tally : Tally) (found : Option (List Bool)) (after : State) → Ok after ≡ at_model case tally found
    → (values : List Bool) × (found ≡ Some values) × IsModelOf (clauses_of case tally.begun) (cube_of case tally.begun) values × (after ≡ record { tally = tally; place = place.Block })
model_right case tally None after is = absurd (not_both after (wrong.Line flaw.Form) is)
model_right case tally (Some values) after is =
    let sized = taken (length values == variables_of case tally.begun) after (cond (all_true values (clauses_of case tally.begun) && cube_true values (cube_of case tally.begun)) (Ok (record { tally = tally; place = place.Block })) (Err (wrong.Line flaw.Model))) (Err (wrong.Line flaw.Form)) (wrong.Line flaw.Form) refl is in
    let holds = taken (all_true values (clauses_of case tally.begun) && cube_true values (cube_of case tally.begun)) after (Ok (record { tally = tally; place = place.Block })) (Err (wrong.Line flaw.Model)) (wrong.Line flaw.Model) refl sized.1 in
    let truths = both (all_true values (clauses_of case tally.begun)) (cube_true values (cube_of case tally.begun)) holds.0 in
    (values, refl, record { size = eqb-true (length values) (variables_of case tally.begun) sized.0; clauses_hold = truths.0; cube_holds = truths.1 }, ok_is after (record { tally = tally; place = place.Block }) holds.1)

-- what stands after a line, and what is due at it once this is known of the lines below
pub record GoesOn (case : Case) (tally : Tally) (place : Place) (line below : List ℕ) (lines : List (List ℕ)) (after : State) : Type 0 where
  pub stands : Stands case after.tally after.place
  pub right : IsDue case after.tally after.place (below ∷ lines) → IsRightBelow case (job_line_of line) below × IsDue case tally place (line ∷ below ∷ lines)

abbrev pub IsTraceAt : Place → List ℕ → Type 0
IsTraceAt (place.Step proof) line = is_trace_line_of line ≡ true
IsTraceAt place line = Unit {0}

nothing_below : (case : Case) (line below : List ℕ) → job_line_of line ≡ None → IsRightBelow case (job_line_of line) below
nothing_below case line below is = subst (λ (found : Option JobLine). IsRightBelow case found below) (sym is) tt

part_goes_on : (case : Case) (tally : Tally) (line below : List ℕ) (lines : List (List ℕ)) (after : State) (found : Option (List ℕ)) → part_line_of line ≡ found → JudgesPart case tally found (Ok after) → GoesOn case tally place.Part line below lines after
part_goes_on case tally line below lines after None said judged = absurd (not_both after (wrong.Line flaw.Form) judged)
part_goes_on case tally line below lines after (Some part) said (inr other) = absurd (not_both after (wrong.Line flaw.Part) other.1)
part_goes_on case tally line below lines after (Some part) said (inl within) = record {
  stands = subst (λ (state : State). Stands case state.tally state.place) (sym same) (record { inputs = refl; within = within.0; ok = tt });
  right = λ due. (nothing_below case line below (no_job_in_part line part said), (part, said, subst (λ (state : State). IsDue case state.tally state.place (below ∷ lines)) same due));
}
  where
    same : after ≡ record { tally = tally; place = place.Step (record { part = part; inputs = inputs_of case tally.begun; steps = [] }) }
    same = ok_is after (record { tally = tally; place = place.Step (record { part = part; inputs = inputs_of case tally.begun; steps = [] }) }) within.1

step_goes_on : (case : Case) (tally : Tally) (proof : Proof) (line below : List ℕ) (lines : List (List ℕ)) (after : State) (said : Result Step TraceFault) → is_trace_line_of line ≡ true → IsProofFor case tally.begun proof → JudgesStep tally proof said (Ok after) → GoesOn case tally (place.Step proof) line below lines after
step_goes_on case tally proof line below lines after (Err (trace_fault.Form number)) letter stands judged = absurd (not_both after (wrong.Line flaw.Form) judged)
step_goes_on case tally proof line below lines after (Err (trace_fault.Order number)) letter stands judged = absurd (not_both after (wrong.Line flaw.Trace) judged)
step_goes_on case tally proof line below lines after (Err trace_fault.Memory) letter stands judged = absurd judged
step_goes_on case tally proof line below lines after (Ok step) letter stands (inr other) = absurd (not_both after (wrong.Line flaw.Trace) other.1)
step_goes_on case tally proof line below lines after (Ok step) letter stands (inl ok) = record {
  stands = subst (λ (state : State). Stands case state.tally state.place) (sym same) (record { inputs = stands.inputs; within = stands.within; ok = steps_more proof.inputs [] proof.steps step stands.ok ok.0 });
  right = λ due. (nothing_below case line below (no_job_line 116 (tokens_of line) refl letter), subst (λ (state : State). IsDue case state.tally state.place (below ∷ lines)) same due);
}
  where
    same : after ≡ record { tally = tally; place = place.Step (record { part = proof.part; inputs = proof.inputs; steps = proof.steps ++ step ∷ [] }) }
    same = ok_is after (record { tally = tally; place = place.Step (record { part = proof.part; inputs = proof.inputs; steps = proof.steps ++ step ∷ [] }) }) ok.1

line_goes_on : (case : Case) (tally : Tally) (place : Place) (line below : List ℕ) (lines : List (List ℕ)) (after : State) → Stands case tally place → IsTraceAt place line → JudgesLine case tally place line (Ok after) → GoesOn case tally place line below lines after
line_goes_on case tally place.Block line below lines after stands letter judged = record {
  stands = job_line_stands case tally line (job_line_of line) after judged;
  right = λ due. (job_line_right case tally line below lines (job_line_of line) after judged due, tt);
}
line_goes_on case tally place.Model line below lines after stands letter judged =
    let model = model_right case tally (model_line_of line) after judged in
    record {
      stands = subst (λ (state : State). Stands case state.tally state.place) (sym model.3) tt;
      right = λ due. (nothing_below case line below (no_job_in_model line model.0 model.1), (model.0, model.1, model.2));
    }
line_goes_on case tally place.Part line below lines after stands letter judged = part_goes_on case tally line below lines after (part_line_of line) refl judged
line_goes_on case tally (place.Step proof) line below lines after stands letter judged = step_goes_on case tally proof line below lines after (next_step (tags_of proof.inputs) proof.steps line) letter stands judged
line_goes_on case tally place.End line below lines after stands letter judged = absurd (not_both after (wrong.Line flaw.Form) judged)

-- ---- a block ends

pub record IsClosed (case : Case) (tally : Tally) (place next : Place) (line : List ℕ) (lines : List (List ℕ)) : Type 0 where
  pub stands : Stands case tally next
  pub letter : IsTraceAt next line
  pub due : IsDue case tally next (line ∷ lines) → IsDue case tally place (line ∷ lines)

is_closed : (case : Case) (tally : Tally) (place next : Place) (line : List ℕ) (lines : List (List ℕ)) → Stands case tally place → Closes place line (Ok next) → IsClosed case tally place next line lines
is_closed case tally place.Block next line lines stands closes = subst (λ n. IsClosed case tally place.Block n line lines) (sym (ok_is next place.Block closes)) (record { stands = tt; letter = tt; due = λ due. due })
is_closed case tally place.Model next line lines stands closes = subst (λ n. IsClosed case tally place.Model n line lines) (sym (ok_is next place.Model closes)) (record { stands = tt; letter = tt; due = λ due. due })
is_closed case tally place.Part next line lines stands closes = subst (λ n. IsClosed case tally place.Part n line lines) (sym (ok_is next place.Part closes)) (record { stands = tt; letter = tt; due = λ due. due })
is_closed case tally place.End next line lines stands closes = subst (λ n. IsClosed case tally place.End n line lines) (sym (ok_is next place.End closes)) (record { stands = tt; letter = tt; due = λ due. due })
is_closed case tally (place.Step proof) next line lines stands closes = by_letter (is_trace_line_of line) refl closes
  where
    by_letter : (b : Bool) → is_trace_line_of line ≡ b → ClosesProof b proof (Ok next) → IsClosed case tally (place.Step proof) next line lines
    by_letter true letter same = subst (λ n. IsClosed case tally (place.Step proof) n line lines) (sym (ok_is next (place.Step proof) same)) (record { stands = stands; letter = letter; due = λ due. due })
    by_letter false letter (inl ended) = subst (λ n. IsClosed case tally (place.Step proof) n line lines) (sym (ok_is next place.Block ended.1)) (record { stands = tt; letter = tt; due = λ due. part_right case tally.begun proof stands ended.0 })
    by_letter false letter (inr other) = absurd (not_both next wrong.Unproved other.1)

-- ---- all lines

right_line : (case : Case) (tally : Tally) (place : Place) (number before proved unproved : ℕ) (line below : List ℕ) (lines : List (List ℕ)) (outcome : Result State Wrong) → Stands case tally place → Steps case tally place before line outcome
    → FoundBy number outcome (λ after. Finds case after (number + 1) (before + (length line + 1)) (below ∷ lines) (Good proved unproved)) (Good proved unproved)
    → ((after : State) → Stands case after.tally after.place → Finds case after (number + 1) (before + (length line + 1)) (below ∷ lines) (Good proved unproved) → AreRight case (below ∷ lines) × IsDue case after.tally after.place (below ∷ lines))
    → AreRight case (line ∷ below ∷ lines) × IsDue case tally place (line ∷ below ∷ lines)
right_line case tally place number before proved unproved line below lines (Err why) stands steps finds others = absurd (found_bad number proved unproved why finds)
right_line case tally place number before proved unproved line below lines (Ok after) stands steps finds others = by_closed steps.closed steps.closes steps.judged
  where
    by_beyond : (b : Bool) (next : Place) → IsClosed case tally place next line (below ∷ lines) → Judges b case tally next line (Ok after) → AreRight case (line ∷ below ∷ lines) × IsDue case tally place (line ∷ below ∷ lines)
    by_beyond true next closed judged = absurd (not_both after (wrong.Line flaw.TooLong) judged)
    by_beyond false next closed judged =
        let on = line_goes_on case tally next line below lines after closed.stands closed.letter judged in
        let rest = others after on.stands finds in
        let here = on.right rest.1 in
        ((here.0, rest.0), closed.due here.1)

    by_closed : (closed : Result Place Wrong) → Closes place line closed → Then closed (λ next. Judges (is_beyond before (length line + 1)) case tally next line) (Ok after) → AreRight case (line ∷ below ∷ lines) × IsDue case tally place (line ∷ below ∷ lines)
    by_closed (Err why) closes judged = absurd (not_both after why judged)
    by_closed (Ok next) closes judged = by_beyond (is_beyond before (length line + 1)) next (is_closed case tally place next line (below ∷ lines) stands closes) judged

right_end : (case : Case) (tally : Tally) (place : Place) (number before proved unproved : ℕ) (line : List ℕ) (outcome : Result Finding Wrong) → Ends tally place before line outcome → FoundBy number outcome (λ good. Good proved unproved ≡ good) (Good proved unproved)
    → AreRight case (line ∷ []) × IsDue case tally place (line ∷ [])
right_end case tally place number before proved unproved line (Ok good) ends finds = (tt, no_end case tally place before line good ends)
right_end case tally place number before proved unproved line (Err why) ends finds = absurd (found_bad number proved unproved why finds)

right_lines : (case : Case) (tally : Tally) (place : Place) (number before proved unproved : ℕ) (lines : List (List ℕ)) → Stands case tally place → Finds case (record { tally = tally; place = place }) number before lines (Good proved unproved) → AreRight case lines × IsDue case tally place lines
right_lines case tally place number before proved unproved [] stands finds = absurd finds
right_lines case tally place number before proved unproved (line ∷ []) stands finds = right_end case tally place number before proved unproved line finds.0 finds.1 finds.2
right_lines case tally place number before proved unproved (line ∷ below ∷ lines) stands finds =
    right_line case tally place number before proved unproved line below lines finds.0 stands finds.1 finds.2
    (λ after after_stands rest. right_lines case after.tally after.place (number + 1) (before + (length line + 1)) proved unproved (below ∷ lines) after_stands rest)

pub accepted_is_right : AcceptedIsRight
accepted_is_right text output proved unproved audits = by_length (nat_lt 4294967296 (length text)) audits
  where
    by_length : (b : Bool) → AuditsBy b text output (Good proved unproved) → AreRight (case_of text) (lines_of output)
    by_length true same = absurd (found_bad 1 proved unproved (wrong.Line flaw.TooLong) same)
    by_length false finds = (right_lines (case_of text) (record { begun = 0; proved = 0; unproved = 0 }) place.Block 1 0 proved unproved (lines_of output) tt finds).0
